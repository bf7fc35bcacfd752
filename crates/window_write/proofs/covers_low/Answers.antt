-- `window_write::covers_low` meets its contract: each arm is the clause of its lanes. Assumes nothing.
use mathlib.Core.Path.{sym, ap}
use mathlib.Core.Logic.{⊎_elim}
use Rattle.card_rules.specs.Write.{covers_low}
use Rattle.window_write.proofs.covers_low.Goals as goal

pub returns-in-Both : goal.returns-in-Both
unfolding covers_low
returns-in-Both c = ⊎_elim (λ e. sym (ap covers_low e)) (λ e. sym (ap covers_low e)) c.in-Both.is

pub returns-in_default : goal.returns-in_default
unfolding covers_low
returns-in_default c = sym (ap covers_low c.in_default.is)
