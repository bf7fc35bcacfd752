-- `all_sound` meets its contract: the definition is true of the cards where each passes, and false where one does not.
-- Assumes nothing.
use Rattle.std.proofs.Common.{refl, rules, []}
use Rattle.std.proofs.lemmas.List.Recursion.{and_is}
use Rattle.port_rules.specs.Card.{id_fresh}
use Rattle.port_rules.specs.Sound.{id_sound}
use Rattle.port_rules.specs.Gathered.{all_sound}
use Rattle.idport.proofs.cards.all_sound.Goals as goal

pub returns : goal.returns
unfolding all_sound
returns c = and_is all_sound id_sound refl (λ _ _. refl) c.args.cards.now (id_fresh []) _ (search rules) (search rules)
