-- The test of soundness that a call makes is true where, and only where, the card is sound. Assumes nothing.
use mathlib.Core.Path.{◌≡◌, sym, ap, ◌∙◌}
use mathlib.Core.Bool.{Bool, true, false, not, ◌&&◌, ◌||◌, and-true}
use mathlib.Core.List.{List}
use Prim.Native.Nat.{ℕ, ◌%◌}
use native.Mathlib.Omega.{arith}
use lib.Dec.{eqb}
use lib.ListN.{length}
use Rattle.bits.proofs.Tests.{both, join}
use Rattle.port_rules.specs.Sound.{id_sound}
use Rattle.receive_rules.specs.View as rx
use Rattle.receive_rules.proofs.Facts.{side_told, side_shown}
use Rattle.transmit_rules.specs.View as tx
use Rattle.transmit_rules.proofs.Sound.{side_sound, sound_side_lem}
use Rattle.card_rules.specs.declared.Card.{Card}
use Rattle.card_rules.specs.declared.Flags.{Flags}
use Rattle.card_rules.specs.Status.{flags, interrupting}
use Rattle.card_rules.specs.Sound.{select_sound, registers_sound, latch_settled}
use Rattle.card_rules.specs.View.{rx_size_of, tx_size_of, view, Held, Sound, sound_card}
use Rattle.card_rules.proofs.Ranges.{rx-small, tx-small}
use Rattle.card_rules.proofs.Quiet.{latch_quiet}
use Rattle.card_rules.proofs.Sides.{registers_of, latch_of, sound_by, rx_sound_is, tx-sound}

module _ (c : Card) (ram dir : List ℕ) where
  abbrev rx_test : Bool
  rx_test = rx.sound_side (rx_size_of c) c.receive ram dir

  abbrev tx_test : Bool
  tx_test = tx.sound_side (tx_size_of c) c.transmit ram dir

  abbrev rest_test : Bool
  rest_test = registers_sound (view c ram dir) && latch_settled (view c ram dir)

  -- ---- the ways of the test

  pub no-rx : (size : ℕ) (b : Bool) → size ≡ rx_size_of c → b ≡ rx.sound_side size c.receive ram dir → b ≡ false → false ≡ sound_card c ram dir
  unfolding sound_card
  no-rx size b e t n =
      let x : rx_test ≡ false = ap (λ (m : ℕ). rx.sound_side m c.receive ram dir) (sym e) ∙ sym t ∙ n in
      rw x

  pub rx_yes : (size : ℕ) (b : Bool) → size ≡ rx_size_of c → b ≡ rx.sound_side size c.receive ram dir → b ≡ true → rx_test ≡ true
  rx_yes size b e t y = ap (λ (m : ℕ). rx.sound_side m c.receive ram dir) (sym e) ∙ sym t ∙ y

  pub tx_yes : (size : ℕ) (b : Bool) → size ≡ tx_size_of c → b ≡ tx.sound_side size c.transmit ram dir → b ≡ true → tx_test ≡ true
  tx_yes size b e t y = ap (λ (m : ℕ). tx.sound_side m c.transmit ram dir) (sym e) ∙ sym t ∙ y

  pub no-tx : (size : ℕ) (b : Bool) → rx_test ≡ true → size ≡ tx_size_of c → b ≡ tx.sound_side size c.transmit ram dir → b ≡ false → false ≡ sound_card c ram dir
  unfolding sound_card
  no-tx size b x e t n =
      let y : tx_test ≡ false = ap (λ (m : ℕ). tx.sound_side m c.transmit ram dir) (sym e) ∙ sym t ∙ n in
      rw (x, y)

  -- both sides are sound, and so they lie in their places
  pub sides_held : length ram ≡ 8192 → length dir ≡ 1110 → rx_test ≡ true → tx_test ≡ true → Held c ram dir × rx.Sound (rx_size_of c) c.receive ram dir
  sides_held r d x y =
      let R = side_told (rx_size_of c) c.receive ram dir (rx-small (c.config.second % 4)) (omega arith) (omega arith) x in
      let T = side_sound (tx_size_of c) c.transmit ram dir (tx-small (c.config.second % 4)) (omega arith) (omega arith) y in
      (record { ram_long = r; dir_long = d; frames = R.packed; packets = T.packed; statuses = T.stacked }, R)

  -- the latch stands, or no interrupt is enabled
  pub short_test : (id select : Bool) → rx_test ≡ true → tx_test ≡ true → id ≡ id_sound c.id → select ≡ select_sound c.select → (c.lines.latch || eqb c.select.mask 0) ≡ true
      → (id && (not c.id.due && select)) ≡ sound_card c ram dir
  unfolding sound_card view
  short_test id select x y ei es q =
      let l : latch_settled (view c ram dir) ≡ true = latch_quiet c.lines.latch c.select (flags (view c ram dir)) q in
      rw (x, y, l, ei, es) (sym (and-true (id_sound c.id && (not c.id.due && select_sound c.select))))

  pub last_test : (f : Flags) (id select interrupts : Bool) → rx_test ≡ true → tx_test ≡ true → f ≡ flags (view c ram dir) → id ≡ id_sound c.id → select ≡ select_sound c.select
      → interrupts ≡ interrupting c.select f
      → ((id && (not c.id.due && select)) && (c.lines.latch || not interrupts)) ≡ sound_card c ram dir
  unfolding sound_card view
  last_test f id select interrupts x y ef ei es en = rw (x, y, en, ef, ei, es)

  -- ---- both ways

  pub card-told : length ram ≡ 8192 → length dir ≡ 1110 → sound_card c ram dir ≡ true → Sound c ram dir
  unfolding sound_card view
  card-told r d s =
      let p = both rx_test (tx_test && rest_test) s in
      let q = both tx_test rest_test p.1 in
      let g = both (registers_sound (view c ram dir)) (latch_settled (view c ram dir)) q.1 in
      let h = sides_held r d p.0 q.0 in
      let T = side_sound (tx_size_of c) c.transmit ram dir (tx-small (c.config.second % 4)) (omega arith) (omega arith) q.0 in
      record { held = h.0; calm = sound_by (view c ram dir) h.1.calm T.calm g.0 g.1 }

  pub card-shown : Sound c ram dir → sound_card c ram dir ≡ true
  unfolding sound_card
  card-shown s =
      join rx_test (tx_test && rest_test) (side_shown (rx_size_of c) c.receive ram dir (rx_sound_is c ram dir s))
      (join tx_test rest_test (sound_side_lem (tx_size_of c) c.transmit ram dir (tx-sound c ram dir s))
      (join (registers_sound (view c ram dir)) (latch_settled (view c ram dir)) (registers_of (view c ram dir) s.calm) (latch_of (view c ram dir) s.calm)))
