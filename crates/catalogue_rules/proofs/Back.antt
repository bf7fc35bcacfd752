-- Bytes that were read as fields are those fields' bytes: each length is below 65,536, and its two bytes are its digits.
-- Assumes nothing.
use Prim.Native.Nat.{ℕ, zero, suc, ◌+◌, ◌/◌, ◌%◌, ◌≤◌, ◌<◌}
use mathlib.Core.Path.{◌≡◌, refl, sym, ap, ap₂, ◌∙◌}
use mathlib.Core.Bool.{Bool, true, false, cond}
use mathlib.Core.List.{List, [], ◌∷◌, ◌++◌, append_assoc}
use native.Mathlib.Omega.{arith}
use borrow.Author.Tests.{ltb-true, ltb-false}
use lib.Dec.{ltb}
use lib.ListN.{length, get_or, take, drop, length-take, length-drop, take-append-drop, get_or-eq_default}
use lib.Seq.{drop-cons, drop-drop, get_or-drop, get_or-take}
use Rattle.catalogue_rules.specs.Field.{Field, field, written, bytes_of, number_at, is_whole, first, behind, fields_within, fields_of, left_within, left_of}
use Rattle.catalogue_rules.proofs.Runs.{whole-fits}
use Rattle.catalogue_rules.specs.RoundTrip.{Bytes}

pub bytes_drop : (n : ℕ) (bytes : List ℕ) → Bytes bytes → Bytes (drop n bytes)
bytes_drop n bytes h i = rw get_or-drop (h (n + i))

bytes-take-if : (t : Bool) (n i : ℕ) (bytes : List ℕ) → Bytes bytes → ltb i n ≡ t → get_or (take n bytes) i 0 < 256
bytes-take-if true n i bytes h l = let k : i < n = ltb-true i n l in rw get_or-take (h i)
bytes-take-if false n i bytes h l =
    let k : n ≤ i = ltb-false i n l in
    let e : get_or (take n bytes) i 0 ≡ 0 = get_or-eq_default (take n bytes) 0 (simp length-take (omega arith)) in omega arith

-- The bytes of one whole field.
module _ (bytes : List ℕ) (b : Bytes bytes) (w : is_whole bytes ≡ true) where
  fits : 3 + number_at bytes 1 ≤ length bytes
  fits = whole-fits bytes w

  size : length (take (number_at bytes 1) (drop 3 bytes)) ≡ number_at bytes 1
  size = let f : 3 + number_at bytes 1 ≤ length bytes = fits in simp (length-take, length-drop) (omega arith)

  head : bytes ≡ get_or bytes 0 0 ∷ get_or bytes 1 0 ∷ get_or bytes 2 0 ∷ drop 3 bytes
  head =
      let f : 3 + number_at bytes 1 ≤ length bytes = fits in
      drop-cons bytes 0 0 (omega arith)
      ∙ ap (λ (l : List ℕ). get_or bytes 0 0 ∷ l) (drop-cons bytes 1 0 (omega arith))
      ∙ ap (λ (l : List ℕ). get_or bytes 0 0 ∷ get_or bytes 1 0 ∷ l) (drop-cons bytes 2 0 (omega arith))

  value : take (number_at bytes 1) (drop 3 bytes) ++ behind bytes ≡ drop 3 bytes
  value =
      ap (λ (l : List ℕ). take (number_at bytes 1) (drop 3 bytes) ++ l) (sym (drop-drop (number_at bytes 1) 3 bytes))
      ∙ take-append-drop (number_at bytes 1) (drop 3 bytes)

  one_back : written (first bytes) ++ behind bytes ≡ bytes
  one_back =
      let low : get_or bytes 1 0 < 256 = b 1 in
      let high : get_or bytes 2 0 < 256 = b 2 in
      let e : length (take (number_at bytes 1) (drop 3 bytes)) ≡ number_at bytes 1 = size in
      let l : length (take (number_at bytes 1) (drop 3 bytes)) % 256 ≡ get_or bytes 1 0 = omega arith in
      let h : length (take (number_at bytes 1) (drop 3 bytes)) / 256 ≡ get_or bytes 2 0 = omega arith in
      ap₂ (λ (x y : ℕ). get_or bytes 0 0 ∷ x ∷ y ∷ (take (number_at bytes 1) (drop 3 bytes) ++ behind bytes)) l h
      ∙ ap (λ (t : List ℕ). get_or bytes 0 0 ∷ get_or bytes 1 0 ∷ get_or bytes 2 0 ∷ t) value
      ∙ sym head

back_if : (t : Bool) (n : ℕ) (bytes : List ℕ) → Bytes bytes → is_whole bytes ≡ t
    → (is_whole bytes ≡ true → bytes_of (fields_within n (behind bytes)) ++ left_within n (behind bytes) ≡ behind bytes)
    → bytes_of (cond t (first bytes ∷ fields_within n (behind bytes)) []) ++ cond t (left_within n (behind bytes)) bytes ≡ bytes
unfolding bytes_of
back_if false n bytes b w ih = refl
back_if true n bytes b w ih =
    append_assoc (written (first bytes)) (bytes_of (fields_within n (behind bytes))) (left_within n (behind bytes))
    ∙ ap (λ (l : List ℕ). written (first bytes) ++ l) (ih w)
    ∙ one_back bytes b w

back : (n : ℕ) (bytes : List ℕ) → Bytes bytes → bytes_of (fields_within n bytes) ++ left_within n bytes ≡ bytes
unfolding fields_within left_within bytes_of
back zero bytes b = refl
back (suc n) bytes b = back_if (is_whole bytes) n bytes b refl (λ w. back n (behind bytes) (bytes_drop (3 + number_at bytes 1) bytes b))

pub written_back : (file : List ℕ) → Bytes file → bytes_of (fields_of file) ++ left_of file ≡ file
unfolding fields_of left_of
written_back file b = back (length file) file b

-- Each value of a field is bytes again.
unfoldable pub AllBytes : List Field → Type 0
AllBytes [] = Unit
AllBytes (f ∷ fs) = Bytes f.value × AllBytes fs

bytes-if : (t : Bool) (n : ℕ) (bytes : List ℕ) → Bytes bytes → AllBytes (fields_within n (behind bytes))
    → AllBytes (cond t (first bytes ∷ fields_within n (behind bytes)) [])
unfolding AllBytes
bytes-if false n bytes b ih = tt
bytes-if true n bytes b ih =
    ((λ i. bytes-take-if (ltb i (number_at bytes 1)) (number_at bytes 1) i (drop 3 bytes) (bytes_drop 3 bytes b) refl), ih)

bytes_fields : (n : ℕ) (bytes : List ℕ) → Bytes bytes → AllBytes (fields_within n bytes)
unfolding AllBytes fields_within
bytes_fields zero bytes b = tt
bytes_fields (suc n) bytes b = bytes-if (is_whole bytes) n bytes b (bytes_fields n (behind bytes) (bytes_drop (3 + number_at bytes 1) bytes b))

pub all_bytes : (file : List ℕ) → Bytes file → AllBytes (fields_of file)
unfolding fields_of
all_bytes file b = bytes_fields (length file) file b

-- Those of the last.
pub last-bytes : (fs : List Field) (v : List ℕ) → AllBytes (fs ++ (field 4 v ∷ [])) → Bytes v
unfolding AllBytes
last-bytes [] v a = a.0
last-bytes (f ∷ fs) v a = last-bytes fs v a.1
