-- The bytes of an accepted file, the places in it, and the bytes of the changed one.
-- Assumes nothing.
use Prim.Native.Nat.{ℕ, ◌+◌, ◌-◌, ◌/◌, ◌%◌, ◌≤◌}
use mathlib.Core.Path.{◌≡◌, refl, sym, ap, ◌∙◌}
use mathlib.Core.Bool.{Bool, true, false, cond, ◌&&◌, ◌||◌, false≢true}
use mathlib.Core.List.{List, [], ◌∷◌, ◌++◌, append_assoc}
use native.Mathlib.Omega.{arith}
use lib.ListN.{length, take, drop, length-append, length-drop}
use lib.Seq.{take_at, take-append-le, drop-append-le}
use lib.Dec.{eqb}
use Rattle.catalogue_rules.specs.Field.{Field, size_of, field, written, bytes_of, fields_of}
use Rattle.catalogue_rules.proofs.Append.{bytes-append}
use Rattle.catalogue_rules.specs.declared.Turn.TheVariants.{Begun}
use Rattle.catalogue_rules.specs.Turns.{address_of}
use Rattle.catalogue_rules.specs.Reading.{catalogue, count_field, file_of, addresses_of, is_among, parsed, read}
use Rattle.catalogue_rules.specs.Cards.{versions_from, versions_at}
use Rattle.catalogue_rules.specs.RoundTrip.{Sizes, WellFormed, Bytes}
use Rattle.catalogue_rules.proofs.WrittenBack.{fields_written, sizes-append}
use Rattle.catalogue_rules.proofs.Round.{read_is_written_lem}
use Rattle.catalogue_rules.proofs.Fit.{accepted_is_well_formed_lem}
use Rattle.catalogue_rules.proofs.Accepted.{versions-parsed}
use Rattle.catalogue_rules.specs.Edit.{is_card, with_version}
use Rattle.catalogue_put.specs.Places.{card_place, card_end}
use Rattle.catalogue_put.proofs.Behind.{behind_card, behind-place}
use Rattle.catalogue_add.proofs.Runs.{versions-behind}
use Rattle.catalogue_add.proofs.Insert.{NoCount, in_turn_no_count, version-between, version-count}

-- ---- a place lies before the count

end_bound_if : (t : Bool) (f : Field) (l : List ℕ) (n : ℕ) → n ≤ length l → cond t 0 (size_of f + n) ≤ length (written f ++ l)
end_bound_if true f l n h = omega arith
end_bound_if false f l n h = omega (arith, length-append (written f) l)

end_bound : (fs : List Field) → card_end fs ≤ length (bytes_of fs)
unfolding card_end bytes_of
end_bound [] = omega arith
end_bound (f ∷ fs) = end_bound_if (eqb f.tag 1 || eqb f.tag 4) f (bytes_of fs) (card_end fs) (end_bound fs)

card_bound_if : (t : Bool) (f : Field) (fs rest : List Field) (l : List ℕ) (n : ℕ) → card_end fs ≤ length l → n + card_end rest ≤ length l
    → cond t (size_of f) (size_of f + n) + card_end (cond t fs rest) ≤ length (written f ++ l)
card_bound_if true f fs rest l n h k = omega (arith, length-append (written f) l)
card_bound_if false f fs rest l n h k = omega (arith, length-append (written f) l)

pub card_bound : (a : ℕ) (fs : List Field) → card_place a fs + card_end (behind_card a fs) ≤ length (bytes_of fs)
unfolding card_place behind_card card_end bytes_of
card_bound a [] = omega arith
card_bound a (f ∷ fs) = card_bound_if (is_card a f) f fs (behind_card a fs) (bytes_of fs) (card_place a fs) (end_bound fs) (card_bound a fs)

-- ---- the count is no card's field

module _ (v : List ℕ) where
  end_tail : (fs : List Field) → card_end (fs ++ (field 4 v ∷ [])) ≡ card_end fs
  unfolding card_end
  end_tail [] = refl
  end_tail (f ∷ fs) = ap (λ (n : ℕ). cond (eqb f.tag 1 || eqb f.tag 4) 0 (size_of f + n)) (end_tail fs)

  place-if : (one same : Bool) (f : Field) (fs rest longer : List Field) (l : List ℕ) (a x n m : ℕ) → is_among a (cond one (x ∷ l) l) ≡ true → eqb x a ≡ same
      → card_end (fs ++ (field 4 v ∷ [])) ≡ card_end fs → (is_among a l ≡ true → m + card_end longer ≡ n + card_end rest)
      → cond (one && same) (size_of f) (size_of f + m) + card_end (cond (one && same) (fs ++ (field 4 v ∷ [])) longer)
      ≡ cond (one && same) (size_of f) (size_of f + n) + card_end (cond (one && same) fs rest)
  place-if true true f fs rest longer l a x n m y e h later = omega arith
  place-if true false f fs rest longer l a x n m y e h later =
      let k : m + card_end longer ≡ n + card_end rest = later (ap (λ (t : Bool). t || is_among a l) (sym e) ∙ y) in omega arith
  place-if false same f fs rest longer l a x n m y e h later = let k : m + card_end longer ≡ n + card_end rest = later y in omega arith

  place_tail : (a : ℕ) (fs : List Field) → is_among a (addresses_of fs) ≡ true
      → card_place a (fs ++ (field 4 v ∷ [])) + card_end (behind_card a (fs ++ (field 4 v ∷ []))) ≡ card_place a fs + card_end (behind_card a fs)
  unfolding card_place behind_card addresses_of
  place_tail a [] y = absurd (false≢true y)
  place_tail a (f ∷ fs) y =
      place-if (eqb f.tag 1) (eqb (address_of f.value) a) f fs (behind_card a fs) (behind_card a (fs ++ (field 4 v ∷ []))) (addresses_of fs) a (address_of f.value)
      (card_place a fs) (card_place a (fs ++ (field 4 v ∷ []))) y refl (end_tail fs) (λ z. place_tail a fs z)

-- ---- an accepted file

pub count-length : (n : ℕ) → length (bytes_of (count_field n ∷ [])) ≡ 5
unfolding bytes_of
count-length n = refl

count-sizes : (n : ℕ) → Sizes (count_field n ∷ [])
unfolding Sizes
count-sizes n = (omega arith, tt)

module _ (file : List ℕ) (fs : List Field) (b : Bytes file) (e : read file ≡ catalogue fs) where
  whole : bytes_of (fs ++ (count_field (length fs) ∷ [])) ≡ file
  unfolding file_of
  whole = read_is_written_lem file fs b e

  in_two : bytes_of fs ++ bytes_of (count_field (length fs) ∷ []) ≡ file
  in_two = sym (bytes-append fs (count_field (length fs) ∷ [])) ∙ whole

  pub file_length : length file ≡ length (bytes_of fs) + 5
  file_length =
      ap length (sym in_two) ∙ length-append (bytes_of fs) (bytes_of (count_field (length fs) ∷ [])) ∙ ap (λ (n : ℕ). length (bytes_of fs) + n) (count-length (length fs))

  pub before-count : take (length file - 5) file ≡ bytes_of fs
  before-count =
      let n : length (bytes_of fs) ≡ length file - 5 = omega (arith, file_length) in
      ap (take (length file - 5)) (sym in_two) ∙ take_at (bytes_of fs) (bytes_of (count_field (length fs) ∷ [])) (length file - 5) n

  pub take-before : (p : ℕ) → p ≤ length (bytes_of fs) → take p file ≡ take p (bytes_of fs)
  take-before p h = ap (take p) (sym in_two) ∙ take-append-le p (bytes_of fs) (bytes_of (count_field (length fs) ∷ [])) h

  pub take_behind : (p : ℕ) → p ≤ length (bytes_of fs) → take (length file - 5 - p) (drop p file) ≡ drop p (bytes_of fs)
  take_behind p h =
      let n : length (drop p (bytes_of fs)) ≡ length file - 5 - p = omega (arith, length-drop p (bytes_of fs), file_length) in
      ap (λ (l : List ℕ). take (length file - 5 - p) (drop p l)) (sym in_two)
      ∙ ap (take (length file - 5 - p)) (drop-append-le p (bytes_of fs) (bytes_of (count_field (length fs) ∷ [])) h)
      ∙ take_at (drop p (bytes_of fs)) (bytes_of (count_field (length fs) ∷ [])) (length file - 5 - p) n

  well : WellFormed fs
  well = accepted_is_well_formed_lem file fs b e

  pub no-count : NoCount fs
  no-count = in_turn_no_count Begun fs well.turns

  all_sizes : Sizes (fs ++ (count_field (length fs) ∷ []))
  all_sizes = sizes-append fs (count_field (length fs) ∷ []) well.sizes (count-sizes (length fs))

  fields_are : fields_of file ≡ fs ++ (count_field (length fs) ∷ [])
  fields_are = ap fields_of (sym whole) ∙ fields_written (fs ++ (count_field (length fs) ∷ [])) all_sizes

  module _ (a : ℕ) where
    -- The end of the card's fields.
    pub end_there : is_among a (addresses_of fs) ≡ true
        → card_place a (fields_of file) + card_end (fields_of (drop (card_place a (fields_of file)) file)) ≡ card_place a fs + card_end (behind_card a fs)
    end_there y =
        ap (λ (gs : List Field). card_place a (fields_of file) + card_end gs) (behind-place a file)
        ∙ ap (λ (gs : List Field). card_place a gs + card_end (behind_card a gs)) fields_are
        ∙ place_tail (length fs % 256 ∷ length fs / 256 ∷ []) a fs y

-- The versions behind the card's address are the card's, in any file whose fields are in turn.
pub versions_there : (file : List ℕ) (fs : List Field) → parsed file ≡ catalogue fs → (a : ℕ) → versions_from 0 (fields_of (drop (card_place a (fields_of file)) file)) ≡ versions_at a fs
versions_there file fs e a = ap (versions_from 0) (behind-place a file) ∙ versions-behind a (fields_of file) ∙ versions-parsed file fs e a

-- ---- the changed file

pub card_file : (fs new : List Field) → file_of (fs ++ new) ≡ bytes_of fs ++ (bytes_of new ++ bytes_of (count_field (length fs + length new) ∷ []))
unfolding file_of
card_file fs new =
    ap (λ (n : ℕ). bytes_of ((fs ++ new) ++ (count_field n ∷ []))) (length-append fs new)
    ∙ bytes-append (fs ++ new) (count_field (length fs + length new) ∷ [])
    ∙ ap (λ (l : List ℕ). l ++ bytes_of (count_field (length fs + length new) ∷ [])) (bytes-append fs new)
    ∙ append_assoc (bytes_of fs) (bytes_of new) (bytes_of (count_field (length fs + length new) ∷ []))

pub version_file : (a : ℕ) (fs new : List Field) → NoCount fs → is_among a (addresses_of fs) ≡ true
    → file_of (with_version a new fs)
    ≡ take (card_place a fs + card_end (behind_card a fs)) (bytes_of fs)
    ++ (bytes_of new ++ (drop (card_place a fs + card_end (behind_card a fs)) (bytes_of fs) ++ bytes_of (count_field (length fs + length new) ∷ [])))
unfolding file_of
version_file a fs new none y =
    let p : ℕ = card_place a fs + card_end (behind_card a fs) in
    let count : List ℕ = bytes_of (count_field (length fs + length new) ∷ []) in
    ap (λ (n : ℕ). bytes_of (with_version a new fs ++ (count_field n ∷ []))) (version-count new a fs y)
    ∙ bytes-append (with_version a new fs) (count_field (length fs + length new) ∷ [])
    ∙ ap (λ (l : List ℕ). l ++ count) (version-between new a fs none y)
    ∙ append_assoc (take p (bytes_of fs)) (bytes_of new ++ drop p (bytes_of fs)) count
    ∙ ap (λ (l : List ℕ). take p (bytes_of fs) ++ l) (append_assoc (bytes_of new) (drop p (bytes_of fs)) count)
