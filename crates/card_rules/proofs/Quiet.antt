-- Where nothing is due, settle leaves the adapter as it is: the quick tests are those of soundness. Assumes nothing.
use mathlib.Core.Path.{◌≡◌, refl, sym, ap, ◌∙◌}
use mathlib.Core.Bool.{Bool, true, false, not, ◌&&◌, ◌||◌}
use mathlib.Core.List.{List}
use Prim.Native.Nat.{ℕ}
use lib.Dec.{ltb, eqb}
use borrow.Author.Tests.{eqb-true}
use Rattle.bits.proofs.Tests.{both, join}
use Rattle.receive_rules.specs.Sound as rxs
use Rattle.receive_rules.specs.View as rx
use Rattle.receive_rules.proofs.Facts.{kept-told, sound-shown}
use Rattle.transmit_rules.proofs.OutcomesKeeps.{known_settled}
use Rattle.transmit_rules.specs.Queue.{free}
use Rattle.transmit_rules.specs.Outcome.{available_settled}
use Rattle.transmit_rules.specs.Tx as txs
use Rattle.card_rules.specs.declared.Card.{Card}
use Rattle.card_rules.specs.declared.Select.{Select}
use Rattle.card_rules.specs.declared.Flags.{Flags}
use Rattle.card_rules.specs.Adapter.{Adapter}
use Rattle.card_rules.specs.Status.{flags, interrupting}
use Rattle.card_rules.specs.Settle.{settle}
use Rattle.card_rules.specs.Room.{rx_room, tx_room}
use Rattle.card_rules.specs.Sound.{kept, sound}
use Rattle.card_rules.specs.View.{rx_size_of, view, Stands, Held}
use Rattle.card_rules.proofs.Sides.{rx-kept, tx-kept, registers_kept, sound_by, settle-sound, settle-stays}

-- no flag interrupts while the mask is 0
pub unmasked : (s : Select) (f : Flags) → s.mask ≡ 0 → interrupting s f ≡ false
unfolding interrupting
unmasked s f e = rw e refl

-- the latch is settled
pub latch_quiet : (latch : Bool) (s : Select) (f : Flags) → (latch || eqb s.mask 0) ≡ true → (latch || not (interrupting s f)) ≡ true
latch_quiet true s f e = refl
latch_quiet false s f e = ap not (unmasked s f (eqb-true _ _ e))

-- an adapter that is kept and settled by the tests is sound
quiet-sound : (a : Adapter) → kept a ≡ true → rxs.early_settled a.rx.receiver a.rx.frames ≡ true
    → (ltb 1792 a.tx.reports.sender.level || a.tx.reports.sender.available) ≡ true
    → (a.lines.latch || eqb a.select.mask 0) ≡ true → sound a ≡ true
quiet-sound a k e t l =
    sound_by a (sound-shown (rx_room a) a.rx (kept-told (rx_room a) a.rx (rx-kept a k)) e)
    (join (txs.kept (tx_room a) a.tx) (available_settled (free (tx_room a) a.tx.queue) a.tx.reports.sender) (tx-kept a k) (known_settled (free (tx_room a) a.tx.queue) a.tx.reports.sender t))
    (registers_kept a k) (latch_quiet a.lines.latch a.select (flags a) l)

module _ (c : Card) (ram dir : List ℕ) where
  pub quiet-stays : (size : ℕ) (early : Bool) → kept (view c ram dir) ≡ true → size ≡ rx_size_of c
      → early ≡ rxs.early_settled c.receive.receiver (rx.frames_of size c.receive.frames ram dir)
      → (early && ((ltb 1792 c.transmit.outcomes.sender.level || c.transmit.outcomes.sender.available) && (c.lines.latch || eqb c.select.mask 0))) ≡ true
      → settle (view c ram dir) ≡ view c ram dir
  unfolding view
  quiet-stays size early k es ee q =
      let known = ltb 1792 c.transmit.outcomes.sender.level || c.transmit.outcomes.sender.available in
      let latched = c.lines.latch || eqb c.select.mask 0 in
      let p = both early (known && latched) q in
      let e : rxs.early_settled c.receive.receiver (rx.frames_of (rx_size_of c) c.receive.frames ram dir) ≡ true = ap (λ (n : ℕ). rxs.early_settled c.receive.receiver (rx.frames_of n c.receive.frames ram dir)) (sym es) ∙ sym ee ∙ p.0 in
      let r = both known latched p.1 in
      settle-stays (view c ram dir) (quiet-sound (view c ram dir) k e r.0 r.1)

  -- .. and the card stands as it is
  pub stands-quiet : Held c ram dir → kept (view c ram dir) ≡ true → settle (view c ram dir) ≡ view c ram dir → Stands c ram dir (settle (view c ram dir))
  stands-quiet h k e = record { shows = sym e; sound = record { held = h; calm = ap sound (sym e) ∙ settle-sound (view c ram dir) k } }
