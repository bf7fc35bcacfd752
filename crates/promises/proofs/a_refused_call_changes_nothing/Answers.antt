-- Cites the theorem. Assumes nothing.
use Rattle.over_calls.proofs.Refused.{a_refused_call_changes_nothing_lem}
use Rattle.promises.proofs.a_refused_call_changes_nothing.Goals as goal

pub returns : goal.returns
returns c = a_refused_call_changes_nothing_lem
