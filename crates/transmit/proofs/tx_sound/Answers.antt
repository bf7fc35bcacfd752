-- `transmit::tx_sound` meets its contract: the FIFO is tested first, and TX Free is read only where it is sound. Assumes nothing.
use mathlib.Core.Path.{◌≡◌, sym, ap, ap₂, ◌∙◌}
use mathlib.Core.Bool.{Bool, true, false, ◌&&◌}
use Prim.Native.Nat.{ℕ}
use Rattle.transmit_rules.specs.QueueView.{sound_fifo}
use Rattle.transmit_rules.proofs.QueueSound.{sound-holds}
use Rattle.transmit_rules.specs.Outcome.{available_settled}
use Rattle.transmit_rules.specs.View.{sound_side}
use Rattle.transmit.proofs.tx_sound.Goals as goal

pub returns-then-not-fifo_sound : goal.returns-then-not-fifo_sound
unfolding sound_side
returns-then-not-fifo_sound c =
    let s = c.args in
    let e : sound_fifo s.size s.t.fifo s.ram.now s.dir.now ≡ false = sym c.fifo_sound.ensures ∙ c.if-not-fifo_sound.true in
    rw e

pub fifo_free-free-requires : goal.fifo_free-free-requires
fifo_free-free-requires c =
    let s = c.args in
    let e : sound_fifo s.size s.t.fifo s.ram.now s.dir.now ≡ true = sym c.fifo_sound.ensures ∙ c.if-not-fifo_sound.false in
    sound-holds s.size s.t.fifo s.ram.now s.dir.now c.requires.0 c.requires.1 c.requires.2 e

pub returns : goal.returns
unfolding sound_side
returns c =
    let s = c.args in
    let e : sound_fifo s.size s.t.fifo s.ram.now s.dir.now ≡ true = sym c.fifo_sound.ensures ∙ c.if-not-fifo_sound.false in
    let v = c.is_settled-settled.ensures ∙ ap (λ (n : ℕ). available_settled n s.t.outcomes.sender) c.fifo_free-free.ensures in
    rw e (ap₂ (λ (a b : Bool). a && b) c.outcomes_sound-filled.ensures v)
