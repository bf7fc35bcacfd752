-- `outcomes::outcomes_sound` meets its contract: its tests are the definition's, on the count for the statuses' number. Assumes nothing.
use borrow.Author.Rules.{rules}
use Rattle.transmit_rules.proofs.Entries.{sound-same}
use Rattle.transmit.proofs.outcomes.outcomes_sound.Goals as goal

pub returns : goal.returns
returns c = sound-same c.args.o (search rules)
