-- `window_write::covers_high` meets its contract: each arm is the clause of its lanes. Assumes nothing.
use mathlib.Core.Path.{sym, ap}
use mathlib.Core.Logic.{⊎_elim}
use Rattle.card_rules.specs.Write.{covers_high}
use Rattle.window_write.proofs.covers_high.Goals as goal

pub returns-in-Both : goal.returns-in-Both
unfolding covers_high
returns-in-Both c = ⊎_elim (λ e. sym (ap covers_high e)) (λ e. sym (ap covers_high e)) c.in-Both.is

pub returns-in_default : goal.returns-in_default
unfolding covers_high
returns-in_default c = sym (ap covers_high c.in_default.is)
