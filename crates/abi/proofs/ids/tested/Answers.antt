-- `ids::tested` answers in the order of the refusals. Assumes nothing.
use mathlib.Core.Path.{refl, sym, ◌∙◌}
use Rattle.card_rules.specs.Calls.{tested}
use Rattle.abi.proofs.ids.tested.Goals as goal

pub returns-then-not-is_sound : goal.returns-then-not-is_sound
unfolding tested
returns-then-not-is_sound c = rw (sym c.is_sound.ensures ∙ c.if-not-is_sound.true) refl

pub returns-then-not-is_port : goal.returns-then-not-is_port
unfolding tested
returns-then-not-is_port c = rw (sym c.is_sound.ensures ∙ c.if-not-is_sound.false, sym c.is_port.ensures ∙ c.if-not-is_port.true) refl

pub returns : goal.returns
unfolding tested
returns c = rw (sym c.is_sound.ensures ∙ c.if-not-is_sound.false, sym c.is_port.ensures ∙ c.if-not-is_port.false) refl
