-- A version put into the fields of a card is its bytes put between theirs.
-- Assumes nothing.
use Prim.Native.Nat.{ℕ, suc, ◌+◌}
use mathlib.Core.Path.{◌≡◌, refl, sym, ap, ap₂, ◌∙◌}
use mathlib.Core.Bool.{Bool, true, false, cond, ◌&&◌, ◌||◌, not, false≢true}
use mathlib.Core.List.{List, [], ◌∷◌, ◌++◌, append_assoc, append-nil}
use native.Mathlib.Omega.{arith}
use borrow.Author.Tests.{not-true}
use lib.ListN.{length, take, drop, length-append}
use lib.Dec.{eqb}
use Rattle.catalogue_rules.specs.Field.{Field, size_of, written, bytes_of}
use Rattle.catalogue_rules.proofs.Append.{bytes-append}
use Rattle.catalogue_rules.specs.declared.Turn.{Turn}
use Rattle.catalogue_rules.specs.Turns.{address_of, after, is_damaged}
use Rattle.catalogue_rules.specs.Reading.{addresses_of, is_among}
use Rattle.catalogue_rules.proofs.Bools.{and_left, and_right}
use Rattle.catalogue_rules.specs.RoundTrip.{in_turn}
use Rattle.catalogue_rules.specs.Edit.{at_cards_end, with_version}
use Rattle.catalogue_put.specs.Places.{card_place, card_end}
use Rattle.catalogue_put.proofs.Behind.{behind_card}
use Rattle.catalogue_add.proofs.Runs.{take-size, drop-size}

-- None of the fields is a count.
unfoldable pub NoCount : List Field → Type 0
NoCount [] = Unit
NoCount (f ∷ fs) = (eqb f.tag 4 ≡ false) × NoCount fs

pub in_turn_no_count : (turn : Turn) (fs : List Field) → in_turn turn fs ≡ true → NoCount fs
unfolding NoCount in_turn
in_turn_no_count turn [] t = tt
in_turn_no_count turn (f ∷ fs) t =
    let b : not (is_damaged (after turn f)) && in_turn (after turn f) fs ≡ true = and_right (not (eqb f.tag 4)) (not (is_damaged (after turn f)) && in_turn (after turn f) fs) t in (
      not-true (eqb f.tag 4) (and_left (not (eqb f.tag 4)) (not (is_damaged (after turn f)) && in_turn (after turn f) fs) t),
      in_turn_no_count (after turn f) fs (and_right (not (is_damaged (after turn f))) (in_turn (after turn f) fs) b),
    )

-- Bytes put between those before a place and those behind it.
abbrev pub between : List ℕ → ℕ → List ℕ → List ℕ
between those place new = take place those ++ (new ++ drop place those)

-- One field more before all.
shifted : (f : Field) (those new all : List ℕ) (place : ℕ) → all ≡ between those place new → written f ++ all ≡ between (written f ++ those) (size_of f + place) new
shifted f those new all place e =
    ap (λ (l : List ℕ). written f ++ l) e
    ∙ sym (append_assoc (written f) (take place those) (new ++ drop place those))
    ∙ ap₂ (λ (x y : List ℕ). x ++ (new ++ y)) (sym (take-size f those place)) (sym (drop-size f those place))

module _ (new : List Field) where
  end-if : (one four : Bool) (f : Field) (fs : List Field) → four ≡ false → bytes_of (at_cards_end new fs) ≡ between (bytes_of fs) (card_end fs) (bytes_of new)
      → bytes_of (cond one (new ++ (f ∷ fs)) (f ∷ at_cards_end new fs)) ≡ between (written f ++ bytes_of fs) (cond (one || four) 0 (size_of f + card_end fs)) (bytes_of new)
  unfolding bytes_of
  end-if true four f fs e ih = bytes-append new (f ∷ fs)
  end-if false true f fs e ih = absurd (false≢true (sym e))
  end-if false false f fs e ih = shifted f (bytes_of fs) (bytes_of new) (bytes_of (at_cards_end new fs)) (card_end fs) ih

  at_end : (fs : List Field) → NoCount fs → bytes_of (at_cards_end new fs) ≡ between (bytes_of fs) (card_end fs) (bytes_of new)
  unfolding NoCount at_cards_end card_end bytes_of
  at_end [] none = sym (append-nil (bytes_of new))
  at_end (f ∷ fs) none = end-if (eqb f.tag 1) (eqb f.tag 4) f fs none.0 (at_end fs none.1)

  with-if : (one same : Bool) (f : Field) (fs rest more : List Field) (l : List ℕ) (a x place : ℕ) → is_among a (cond one (x ∷ l) l) ≡ true → eqb x a ≡ same
      → bytes_of (at_cards_end new fs) ≡ between (bytes_of fs) (card_end fs) (bytes_of new)
      → (is_among a l ≡ true → bytes_of more ≡ between (bytes_of fs) (place + card_end rest) (bytes_of new))
      → bytes_of (cond (one && same) (f ∷ at_cards_end new fs) (f ∷ more))
      ≡ between (written f ++ bytes_of fs) (cond (one && same) (size_of f) (size_of f + place) + card_end (cond (one && same) fs rest)) (bytes_of new)
  unfolding bytes_of
  with-if true true f fs rest more l a x place y e here later = shifted f (bytes_of fs) (bytes_of new) (bytes_of (at_cards_end new fs)) (card_end fs) here
  with-if true false f fs rest more l a x place y e here later =
      let n : size_of f + (place + card_end rest) ≡ size_of f + place + card_end rest = omega arith in
      shifted f (bytes_of fs) (bytes_of new) (bytes_of more) (place + card_end rest) (later (ap (λ (t : Bool). t || is_among a l) (sym e) ∙ y))
      ∙ ap (λ (k : ℕ). between (written f ++ bytes_of fs) k (bytes_of new)) n
  with-if false same f fs rest more l a x place y e here later =
      let n : size_of f + (place + card_end rest) ≡ size_of f + place + card_end rest = omega arith in
      shifted f (bytes_of fs) (bytes_of new) (bytes_of more) (place + card_end rest) (later y)
      ∙ ap (λ (k : ℕ). between (written f ++ bytes_of fs) k (bytes_of new)) n

  -- A version goes behind everything up to the next card.
  pub version-between : (a : ℕ) (fs : List Field) → NoCount fs → is_among a (addresses_of fs) ≡ true
      → bytes_of (with_version a new fs) ≡ between (bytes_of fs) (card_place a fs + card_end (behind_card a fs)) (bytes_of new)
  unfolding NoCount with_version card_place behind_card addresses_of bytes_of
  version-between a [] none y = absurd (false≢true y)
  version-between a (f ∷ fs) none y =
      with-if (eqb f.tag 1) (eqb (address_of f.value) a) f fs (behind_card a fs) (with_version a new fs) (addresses_of fs) a (address_of f.value) (card_place a fs) y refl
      (at_end fs none.1) (λ z. version-between a fs none.1 z)

  -- So many fields more.
  end-count-if : (t : Bool) (f : Field) (fs more : List Field) → length more ≡ length fs + length new → length (cond t (new ++ (f ∷ fs)) (f ∷ more)) ≡ suc (length fs) + length new
  end-count-if true f fs more e = omega (arith, length-append new (f ∷ fs))
  end-count-if false f fs more e = omega arith

  end-count : (fs : List Field) → length (at_cards_end new fs) ≡ length fs + length new
  unfolding at_cards_end
  end-count [] = omega arith
  end-count (f ∷ fs) = end-count-if (eqb f.tag 1) f fs (at_cards_end new fs) (end-count fs)

  with-count-if : (one same : Bool) (f : Field) (fs here more : List Field) (l : List ℕ) (a x : ℕ) → is_among a (cond one (x ∷ l) l) ≡ true → eqb x a ≡ same
      → length here ≡ length fs + length new → (is_among a l ≡ true → length more ≡ length fs + length new)
      → length (cond (one && same) (f ∷ here) (f ∷ more)) ≡ suc (length fs) + length new
  with-count-if true true f fs here more l a x y e h later = omega arith
  with-count-if true false f fs here more l a x y e h later =
      let m : length more ≡ length fs + length new = later (ap (λ (t : Bool). t || is_among a l) (sym e) ∙ y) in omega arith
  with-count-if false same f fs here more l a x y e h later =
      let m : length more ≡ length fs + length new = later y in omega arith

  pub version-count : (a : ℕ) (fs : List Field) → is_among a (addresses_of fs) ≡ true → length (with_version a new fs) ≡ length fs + length new
  unfolding with_version addresses_of
  version-count a [] y = absurd (false≢true y)
  version-count a (f ∷ fs) y =
      with-count-if (eqb f.tag 1) (eqb (address_of f.value) a) f fs (at_cards_end new fs) (with_version a new fs) (addresses_of fs) a (address_of f.value) y refl
      (end-count fs) (λ z. version-count a fs z)
