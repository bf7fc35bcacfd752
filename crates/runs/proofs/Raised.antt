-- An access under either rule, on two cards that differ in RX Early's threshold alone: it leaves two such cards, since a stored frame has 8 bytes or more. Assumes nothing.
use mathlib.Core.Path.{◌≡◌, refl, sym, ap, ◌∙◌, subst}
use mathlib.Core.Bool.{Bool, true, false, cond, not, ◌&&◌}
use mathlib.Core.List.{List, [], ◌∷◌}
use Prim.Native.Nat.{ℕ, ◌+◌, ◌*◌, ◌-◌, ◌/◌, ◌%◌, ◌≤◌}
use native.Mathlib.Omega.{arith}
use borrow.Author.Tests.{le-leb, ltb-true, eqb-true}
use lib.Dec.{ltb, leb, eqb}
use lib.ListN.{length}
use Rattle.bits.specs.Bits.{has}
use Rattle.bits.proofs.Tests.{both, of_test, by_test, never}
use Rattle.port_rules.specs.declared.IdState.{IdState}
use Rattle.receive_rules.specs.declared.Receiver.{Receiver}
use Rattle.receive_rules.specs.Frame.{Frame, Rx}
use Rattle.receive_rules.specs.Update.{with_failed, with_threshold, with_read, with_receiver}
use Rattle.receive_rules.specs.Wire as wire
use Rattle.receive_rules.specs.Reading as reading
use Rattle.receive_rules.specs.Reading.{beyond, after_read, without_oldest, data_word}
use Rattle.receive_rules.specs.Early.{early_flag, told_flag}
use Rattle.receive_rules.specs.Sound.{in_order}
use Rattle.receive_rules.proofs.Order.{oldest-sized}
use Rattle.receive_rules.proofs.Facts.{kept-told}
use Rattle.card_rules.specs.Adapter.{Adapter}
use Rattle.card_rules.specs.Update.{with_lines, with_rx, lines_low}
use Rattle.card_rules.specs.Room.{rx_room}
use Rattle.card_rules.specs.Power.{power_on, reset}
use Rattle.card_rules.specs.Settle.{settle}
use Rattle.card_rules.specs.Sound.{kept, sound}
use Rattle.card_rules.specs.Command.{early_threshold, acknowledge, act, command, commanded}
use Rattle.card_rules.specs.Read.{window0, window1, window2, window3, window5, word_at, after_word}
use Rattle.card_rules.specs.declared.Lanes.{Lanes}
use Rattle.card_rules.specs.declared.Lanes.TheVariants.{Both, Low, High}
use Rattle.card_rules.specs.Write.{covers_low, covers_high, controlled, write0, write1, write2, write3, resplit, write, write_word, write_byte}
use Rattle.card_rules.specs.Access.{Access, ReadWord, ReadByte, WriteWord, WriteByte, Step, byte_at, effect, access}
use Rattle.card_rules.specs.Event.{seated}
use Rattle.card_rules.proofs.Sides.{rx-kept}
use Rattle.card_rules.proofs.CommandKeeps.{Keeping}
use Rattle.runs.specs.AsGiven.{threshold_at, given_command, given_effect, given_access}
use Rattle.runs.specs.Early.{raised, reads_early}
use Rattle.runs.proofs.Kept.{effect-keeps}

-- x is y with its threshold raised: a fact that chains of tests pass on
pub record Lifts (x y : Adapter) : Type 0 where
  pub is : x ≡ raised y

same : (a : Adapter) → Lifts (raised a) a
same a = record { is = refl }

pub lift_test : (t : Bool) {x y u v : Adapter} → (t ≡ true → Lifts x u) → (t ≡ false → Lifts y v) → Lifts (cond t x y) (cond t u v)
lift_test true p q = p refl
lift_test false p q = q refl

lift_cond : (t : Bool) {x y u v : Adapter} → Lifts x u → Lifts y v → Lifts (cond t x y) (cond t u v)
lift_cond t p q = lift_test t (λ _. p) (λ _. q)

lift_step : (t : Bool) (p q u v : Step) → Lifts p.adapter u.adapter → Lifts q.adapter v.adapter → Lifts (cond t p q).adapter (cond t u v).adapter
lift_step true p q u v l m = l
lift_step false p q u v l m = m

same-value : (t : Bool) (p q u v : Step) → (t ≡ true → p.value ≡ u.value) → q.value ≡ v.value → (cond t p q).value ≡ (cond t u v).value
same-value true p q u v e f = e refl
same-value false p q u v e f = f

-- ---- settle

-- a frame of 8 bytes or more has reached both thresholds or neither
reached : (t n : ℕ) → 8 ≤ n → leb (early_threshold t) n ≡ leb t n
reached t n h =
    of_test (λ (m : ℕ). leb m n ≡ leb t n) (ltb t 8)
    (λ y. le-leb 8 n h ∙ sym (le-leb t n (omega (arith, ltb-true t 8 y)))) (λ _. refl)

module _ (r : Receiver) where
  abbrev lifted : Receiver
  lifted = with_threshold (early_threshold r.threshold) r

  early_same : (storing : Bool) (fs : List Frame) → in_order storing fs ≡ true → (early_flag lifted fs ≡ early_flag r fs) × (told_flag lifted fs ≡ told_flag r fs)
  unfolding early_flag told_flag
  early_same storing [] h = (refl, refl)
  early_same storing (f ∷ fs) h = rw (reached r.threshold (length f.bytes) (oldest-sized storing f fs h).0) (refl, refl)

settle-raised : (a : Adapter) → kept (raised a) ≡ true → settle (raised a) ≡ raised (settle a)
unfolding settle
settle-raised a k =
    let e = early_same a.rx.receiver (eqb a.rx.receiver.wire 2) a.rx.frames (kept-told (rx_room a) (raised a).rx (rx-kept (raised a) k)).order in
    rw (e.0, e.1)

pub settles : {x y : Adapter} → Lifts x y → Keeping x → Lifts (settle x) (settle y)
settles {x} {y} l k = record { is = ap settle l.is ∙ settle-raised y (subst (λ (b : Adapter). kept b ≡ true) l.is k.is) }

-- ---- commands

module _ (a : Adapter) where
  reset_lifts : Lifts (reset (raised a)) (reset a)
  unfolding reset power_on
  reset_lifts = record { is = refl }

  -- RX Discard, by whether a failure stands and what is stored
  abbrev discarding : Bool → List Frame → Rx → Rx
  discarding failed fs x = cond failed x (without_oldest x fs)

  discarding_lifts : (failed : Bool) (fs : List Frame) → Lifts (with_rx (discarding failed fs (raised a).rx) (raised a)) (with_rx (discarding failed fs a.rx) a)
  unfolding without_oldest
  discarding_lifts true fs = record { is = refl }
  discarding_lifts false [] = record { is = refl }
  discarding_lifts false (f ∷ fs) = record { is = refl }

  discard_lifts : Lifts (with_rx (reading.discard (raised a).rx) (raised a)) (with_rx (reading.discard a.rx) a)
  unfolding reading.discard
  discard_lifts = discarding_lifts a.rx.receiver.failed a.rx.frames

  -- all but command 17
  act_lifts : (n x : ℕ) → eqb n 17 ≡ false → Lifts (act n x (raised a)) (act n x a)
  unfolding act acknowledge reading.rx_reset
  act_lifts n x other =
      lift_cond (eqb n 0) reset_lifts
      (lift_cond (eqb n 1) (record { is = refl })
      (lift_cond (eqb n 3) (record { is = refl })
      (lift_cond (eqb n 4) (record { is = refl })
      (lift_cond (eqb n 5) (record { is = refl })
      (lift_cond (eqb n 9) (record { is = refl })
      (lift_cond (eqb n 10) (record { is = refl })
      (lift_cond (eqb n 11) (record { is = refl })
      (lift_cond (eqb n 12) (record { is = refl })
      (lift_cond (eqb n 13) (record { is = refl })
      (lift_cond (eqb n 14) (record { is = refl })
      (lift_cond (eqb n 15) (record { is = refl })
      (lift_cond (eqb n 16) (record { is = refl })
      (lift_test (eqb n 17) (λ y. never (sym other ∙ y)) (λ _.
      lift_cond (eqb n 18) (record { is = refl })
      (lift_cond (eqb n 19) (record { is = refl })
      (same a))))))))))))))))

  -- command 17 under either rule
  early_lifts : (n x : ℕ) → n ≡ 17 → Lifts (command n x (raised a)) (threshold_at x a)
  unfolding command act
  early_lifts n x e = rw e (record { is = refl })

  others_lift : (n x : ℕ) → eqb n 17 ≡ false → Lifts (command n x (raised a)) (command n x a)
  unfolding command
  others_lift n x other = lift_cond (eqb n 8) discard_lifts (act_lifts n x other)

  command_lifts : (n x : ℕ) → Lifts (command n x (raised a)) (cond (eqb n 17) (threshold_at x a) (command n x a))
  command_lifts n x = of_test (Lifts (command n x (raised a))) (eqb n 17) (λ y. early_lifts n x (eqb-true n 17 y)) (others_lift n x)

  commanded_lifts : (v : ℕ) → Lifts (commanded v (raised a)) (given_command v a)
  unfolding commanded given_command
  commanded_lifts v = lift_cond (not (eqb (v / 2048) 1) && eqb a.select.window 0) (same a) (command_lifts (v / 2048) (v % 2048))

-- ---- registers

module _ (a : Adapter) where
  controlled_lifts : (v : ℕ) → Lifts (controlled v (raised a)) (controlled v a)
  unfolding controlled
  controlled_lifts v = lift_cond (has 4 v) (reset_lifts a) (record { is = refl })

  write0_lifts : (l : Lanes) (o v : ℕ) → Lifts (write0 l o v (raised a)) (write0 l o v a)
  unfolding write0
  write0_lifts l o v =
      lift_cond (eqb o 0x04) (lift_cond (covers_low l) (controlled_lifts (v % 256)) (same a))
      (lift_cond (eqb o 0x06) (record { is = refl })
      (lift_cond (eqb o 0x08) (record { is = refl })
      (lift_cond (eqb o 0x0A) (lift_cond (covers_low l) (record { is = refl }) (same a))
      (lift_cond (eqb o 0x0C) (record { is = refl }) (same a)))))

  write1_lifts : (l : Lanes) (o v : ℕ) → Lifts (write1 l o v (raised a)) (write1 l o v a)
  unfolding write1
  write1_lifts l o v =
      lift_cond (ltb o 0x04) (record { is = refl })
      (lift_cond (eqb o 0x0A) (lift_cond (covers_high l) (record { is = refl }) (same a)) (same a))

  write2_lifts : (l : Lanes) (o v : ℕ) → Lifts (write2 l o v (raised a)) (write2 l o v a)
  unfolding write2
  write2_lifts l o v = lift_cond (ltb o 0x06) (record { is = refl }) (same a)

  write3_lifts : (l : Lanes) (o v : ℕ) → Lifts (write3 l o v (raised a)) (write3 l o v a)
  unfolding write3 resplit
  write3_lifts l o v = lift_cond (eqb o 0x00) (record { is = refl }) (lift_cond (eqb o 0x02) (record { is = refl }) (same a))

  write_lifts : (l : Lanes) (o v : ℕ) → Lifts (write l o v (raised a)) (write l o v a)
  unfolding write
  write_lifts l o v =
      lift_cond (eqb a.select.window 0) (write0_lifts l o v)
      (lift_cond (eqb a.select.window 1) (write1_lifts l o v)
      (lift_cond (eqb a.select.window 2) (write2_lifts l o v)
      (lift_cond (eqb a.select.window 3) (write3_lifts l o v) (same a))))

-- where the rule before has a test of its own
lift_to : (t : Bool) {x u v : Adapter} → (t ≡ true → Lifts x u) → (t ≡ false → Lifts x v) → Lifts x (cond t u v)
lift_to t {x} p q = of_test (Lifts x) t p q

module _ (a : Adapter) where
  word_lifts : (o v : ℕ) → Lifts (write_word o v (raised a)) (cond (eqb o 0x0E) (given_command v a) (write_word o v a))
  unfolding write_word
  word_lifts o v = lift_to (eqb o 0x0E) (λ y. rw y (commanded_lifts a v)) (λ n. rw n (write_lifts a Both o v))

  byte_lifts : (o v : ℕ)
      → Lifts (write_byte o v (raised a)) (cond (eqb o 0x0F) (given_command (v * 256 + a.lines.low) (with_lines (lines_low 0 a.lines) a)) (write_byte o v a))
  unfolding write_byte
  byte_lifts o v =
      lift_to (eqb o 0x0F)
      (λ y. rw (eqb-true o 0x0F y) (commanded_lifts (with_lines (lines_low 0 a.lines) a) (v * 256 + a.lines.low)))
      (λ n.
      lift_cond (eqb o 0x0E) (record { is = refl })
      (lift_test (eqb o 0x0F) (λ y. never (sym n ∙ y)) (λ _. lift_cond (eqb (o % 2) 0) (write_lifts a Low o v) (write_lifts a High (o - 1) v))))

  -- a data read
  abbrev reads : Bool → Bool → Receiver → Receiver
  reads failed past r = cond failed r (cond past (with_failed true r) (with_read (r.read + 2) r))

  reads_lift : (failed past : Bool)
      → Lifts (with_rx (with_receiver (reads failed past (raised a).rx.receiver) a.rx) a) (with_rx (with_receiver (reads failed past a.rx.receiver) a.rx) a)
  reads_lift true past = record { is = refl }
  reads_lift false true = record { is = refl }
  reads_lift false false = record { is = refl }

  read_lifts : Lifts (with_rx (after_read (raised a).rx) (raised a)) (with_rx (after_read a.rx) a)
  unfolding after_read
  read_lifts = reads_lift a.rx.receiver.failed (beyond a.rx)

  effect_lifts : (x : Access) → Lifts (effect x (raised a)).adapter (given_effect x a).adapter
  unfolding effect given_effect after_word
  effect_lifts (ReadWord o) = lift_cond (ltb o 0x04 && eqb a.select.window 1) read_lifts (same a)
  effect_lifts (ReadByte o) = same a
  effect_lifts (WriteWord o v) = word_lifts o v
  effect_lifts (WriteByte o v) = byte_lifts o v

  -- ---- the wire and the ID port

  begins_lifts : (t : Bool) (first : List ℕ) → Lifts (with_rx (wire.begins t first (raised a).rx) (raised a)) (with_rx (wire.begins t first a.rx) a)
  unfolding wire.begins
  begins_lifts true first = record { is = refl }
  begins_lifts false first = record { is = refl }

  pub start_lifts : (size : ℕ) (taken : Bool) (first : List ℕ) → Lifts (with_rx (wire.wire_start size taken first (raised a).rx) (raised a)) (with_rx (wire.wire_start size taken first a.rx) a)
  unfolding wire.wire_start
  start_lifts size taken first = begins_lifts (taken && (a.rx.receiver.on && wire.fits8 size a.rx.frames)) first

  pub seat_lifts : (i : IdState) → Lifts (seated i (raised a)) (seated i a)
  unfolding seated power_on
  seat_lifts i = lift_cond i.due (record { is = refl }) (record { is = refl })

  -- ---- what is read

  word_same : (o : ℕ) → (eqb o 0x06 && eqb a.select.window 5) ≡ false → word_at o (raised a) ≡ word_at o a
  unfolding word_at window0 window1 window2 window3 window5 data_word
  word_same o n = by_test (eqb o 0x06) (λ y. rw (y, rw y at n) refl) (λ m. rw m refl)

  -- the high byte is 0 of a threshold below 8, and of 8
  high_byte_lem : (t : ℕ) → early_threshold t / 256 ≡ t / 256
  high_byte_lem t = of_test (λ (m : ℕ). m / 256 ≡ t / 256) (ltb t 8) (λ y. omega (arith, ltb-true t 8 y)) (λ _. refl)

  early_high : (o : ℕ) → o ≡ 6 → a.select.window ≡ 5 → word_at o (raised a) / 256 ≡ word_at o a / 256
  unfolding word_at window5
  early_high o e w = rw (e, w) (high_byte_lem a.rx.receiver.threshold)

  high_same : (o : ℕ) → word_at o (raised a) / 256 ≡ word_at o a / 256
  high_same o =
      by_test (eqb o 0x06 && eqb a.select.window 5)
      (λ y. let p = both (eqb o 0x06) (eqb a.select.window 5) y in early_high o (eqb-true o 6 p.0) (eqb-true a.select.window 5 p.1))
      (λ n. ap (λ (v : ℕ). v / 256) (word_same o n))

  byte-same : (o : ℕ) → (eqb o 0x06 && eqb a.select.window 5) ≡ false → byte_at o (raised a) ≡ byte_at o a
  unfolding byte_at
  byte-same o n = by_test (eqb (o % 2) 0) (λ y. rw y (ap (λ (v : ℕ). v % 256) (word_same o n))) (λ m. rw m (high_same (o - 1)))

  value_same : (x : Access) → reads_early x a ≡ false → a.id.active ≡ true → (effect x (raised a)).value ≡ (given_effect x a).value
  unfolding effect given_effect reads_early
  value_same (ReadWord o) n y = word_same o (rw y at n)
  value_same (ReadByte o) n y = byte-same o (rw y at n)
  value_same (WriteWord o v) n y = refl
  value_same (WriteByte o v) n y = refl

  -- ---- accesses

  pub access_lifts : (x : Access) → sound (raised a) ≡ true → Lifts (access x (raised a)).adapter (given_access x a).adapter
  unfolding access given_access
  access_lifts x s = lift_step a.id.active _ _ _ _ (settles (effect_lifts x) (effect-keeps x (raised a) s)) (same a)

  pub access-same : (x : Access) → reads_early x a ≡ false → (access x (raised a)).value ≡ (given_access x a).value
  unfolding access given_access
  access-same x n = same-value a.id.active _ _ _ _ (value_same x n) refl

  pub read_back : a.id.active ≡ true → a.select.window ≡ 5
      → ((access (ReadWord 0x06) (raised a)).value ≡ early_threshold (given_access (ReadWord 0x06) a).value)
      × ((access (ReadByte 0x06) (raised a)).value ≡ early_threshold (given_access (ReadWord 0x06) a).value % 256)
  unfolding access given_access effect given_effect byte_at word_at window5
  read_back y w = rw (y, w) (refl, refl)
