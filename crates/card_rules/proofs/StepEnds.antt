-- From an effect to the settled step, and what an access comes to. Assumes nothing.
use mathlib.Core.Path.{◌≡◌, refl, sym, ap, subst⁻¹, ◌∙◌}
use mathlib.Core.Bool.{Bool, true, false, cond, ◌&&◌}
use mathlib.Core.List.{List}
use Prim.Native.Nat.{ℕ, ◌%◌, ◌/◌, ◌-◌, ◌≤◌, ◌<◌}
use native.Mathlib.Omega.{arith}
use borrow.Author.Tests.{ltb-true, ltb-false, eqb-true, eq-eqb, ne_eqb}
use lib.Dec.{ltb, eqb}
use Rattle.bits.proofs.Tests.{both, by_test, join, never}
use Rattle.receive_rules.specs.Reading.{data_word, after_read}
use Rattle.card_rules.specs.declared.Card.{Card}
use Rattle.card_rules.specs.Adapter.{Adapter}
use Rattle.card_rules.specs.Update.{with_rx}
use Rattle.card_rules.specs.Settle.{settle}
use Rattle.card_rules.specs.Sound.{kept}
use Rattle.card_rules.specs.View.{view, Held, Sound, Is, Stands}
use Rattle.card_rules.proofs.Sides.{settle-stays}
use Rattle.card_rules.proofs.CommandKeeps.{Keeping}
use Rattle.card_rules.specs.Read.{window1, word_at, after_word}
use Rattle.card_rules.specs.Access.{Access, ReadWord, ReadByte, Step, step, byte_at, effect, ones, access}
use Rattle.card_rules.specs.Gives.{Gives}

-- ---- an effect, settled

pub unsettled : (r : Card) (ram dir : List ℕ) (b : Adapter) → Is r ram dir b → Keeping b → Held r ram dir × (kept (view r ram dir) ≡ true)
unsettled r ram dir b i k = (i.held, ap kept i.shows ∙ k.is)

pub settled_as : (r q : Card) (ram dir : List ℕ) (b : Adapter) → Is r ram dir b → Stands q ram dir (settle (view r ram dir)) → Stands q ram dir (settle b)
settled_as r q ram dir b i s = record { shows = s.shows ∙ ap settle i.shows; sound = s.sound }

-- ---- an access of an inactive card, and of an active one

module _ (x : Access) (a : Adapter) where
  pub asleep : a.id.active ≡ false → access x a ≡ step (ones x) a
  unfolding access
  asleep e = rw e

  pub awake : a.id.active ≡ true → access x a ≡ step (effect x a).value (settle (effect x a).adapter)
  unfolding access
  awake e = rw e

-- a read of the data port
data_word_lem : (o : ℕ) (b : Adapter) → (ltb o 4 && eqb b.select.window 1) ≡ true → word_at o b ≡ data_word b.rx
unfolding word_at window1
data_word_lem o b y =
    let p = both (ltb o 4) (eqb b.select.window 1) y in
    let l : o < 4 = ltb-true o 4 p.0 in
    let w : b.select.window ≡ 1 = eqb-true b.select.window 1 p.1 in
    let n : (o ≡ 14 → ⊥) = λ e. omega arith in
    rw (ne_eqb o 14 n, w, p.0)

-- the card as it was
stands_same : (c : Card) (ram dir : List ℕ) → Sound c ram dir → Stands c ram dir (view c ram dir)
stands_same c ram dir s = record { shows = refl; sound = s }

module _ (c : Card) (ram dir : List ℕ) (s : Sound c ram dir) where
  abbrev a : Adapter
  a = view c ram dir

  pub gives-ones : (x : Access) → c.id.active ≡ false → Gives c (ones x) ram dir (access x (view c ram dir))
  unfolding view
  gives-ones x e = subst⁻¹ (λ (t : Step). Gives c (ones x) ram dir t) (asleep x (view c ram dir) e) (record { value = refl; stands = stands_same c ram dir s })

  pub stands-ones : (x : Access) → c.id.active ≡ false → Stands c ram dir (access x (view c ram dir)).adapter
  stands-ones x e = (gives-ones x e).stands

  -- a read that changes nothing
  gives-value : (x : Access) (v : ℕ) → c.id.active ≡ true → (effect x (view c ram dir)).adapter ≡ view c ram dir → v ≡ (effect x (view c ram dir)).value
      → Gives c v ram dir (access x (view c ram dir))
  unfolding view
  gives-value x v e k h =
      subst⁻¹ (λ (t : Step). Gives c v ram dir t) (awake x (view c ram dir) e)
      (record { value = h; stands = record { shows = sym (ap settle k ∙ settle-stays (view c ram dir) s.calm); sound = s } })

  -- ---- the word reads

  after-plain : (o : ℕ) → (ltb o 4 && eqb c.select.window 1) ≡ false → after_word o (view c ram dir) ≡ view c ram dir
  unfolding after_word view
  after-plain o n = ap (λ (b : Bool). cond b (with_rx (after_read (view c ram dir).rx) (view c ram dir)) (view c ram dir)) n

  after_data : (o : ℕ) → (ltb o 4 && eqb c.select.window 1) ≡ true → after_word o (view c ram dir) ≡ with_rx (after_read (view c ram dir).rx) (view c ram dir)
  unfolding after_word view
  after_data o y = ap (λ (b : Bool). cond b (with_rx (after_read (view c ram dir).rx) (view c ram dir)) (view c ram dir)) y

  pub gives-word : (o v : ℕ) → c.id.active ≡ true → (ltb o 4 && eqb c.select.window 1) ≡ false → v ≡ word_at o (view c ram dir)
      → Gives c v ram dir (access (ReadWord o) (view c ram dir))
  unfolding effect
  gives-word o v e n h = gives-value (ReadWord o) v e (after-plain o n) h

  pub gives_data : (o v : ℕ) (q : Card) → c.id.active ≡ true → (ltb o 4 && eqb c.select.window 1) ≡ true → v ≡ data_word (view c ram dir).rx
      → Stands q ram dir (settle (with_rx (after_read (view c ram dir).rx) (view c ram dir))) → Gives q v ram dir (access (ReadWord o) (view c ram dir))
  unfolding effect view
  gives_data o v q e y h t =
      subst⁻¹ (λ (u : Step). Gives q v ram dir u) (awake (ReadWord o) (view c ram dir) e)
      (record { value = h ∙ sym (data_word_lem o (view c ram dir) y); stands = record { shows = t.shows ∙ ap settle (sym (after_data o y)); sound = t.sound } })

  -- ---- the byte reads

  pub gives_low : (o v : ℕ) → c.id.active ≡ true → o % 2 ≡ 0 → v ≡ word_at o (view c ram dir) → Gives c (v % 256) ram dir (access (ReadByte o) (view c ram dir))
  unfolding effect byte_at
  gives_low o v e h w = gives-value (ReadByte o) (v % 256) e refl (rw (eq-eqb (o % 2) 0 h) (ap (λ (n : ℕ). n % 256) w))

  pub gives_high : (o v : ℕ) → c.id.active ≡ true → (o % 2 ≡ 0 → ⊥) → v ≡ word_at (o - 1) (view c ram dir) → Gives c (v / 256) ram dir (access (ReadByte o) (view c ram dir))
  unfolding effect byte_at
  gives_high o v e h w = gives-value (ReadByte o) (v / 256) e refl (rw (ne_eqb (o % 2) 0 h) (ap (λ (n : ℕ). n / 256) w))

-- a read that is none of the data port's
pub beside_data : (o w : ℕ) → (ltb o 4 && eqb w 1) ≡ false → w ≡ 1 → 4 ≤ o
beside_data o w n e =
    by_test (ltb o 4) (λ y. never (sym n ∙ join (ltb o 4) (eqb w 1) y (eq-eqb w 1 e))) (λ l. ltb-false o 4 l)

-- ---- the writes

pub written_as : (x : Access) (c q : Card) (ram dir ram' dir' : List ℕ) → c.id.active ≡ true → Stands q ram' dir' (settle (effect x (view c ram dir)).adapter)
    → Stands q ram' dir' (access x (view c ram dir)).adapter
unfolding view
written_as x c q ram dir ram' dir' e s = subst⁻¹ (λ (t : Step). Stands q ram' dir' t.adapter) (awake x (view c ram dir) e) s
