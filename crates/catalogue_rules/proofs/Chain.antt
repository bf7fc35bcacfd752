-- Bytes put one behind the other are their concatenation, put at once.
-- Assumes nothing.
use Prim.Native.Nat.{ℕ, ◌+◌, ◌/◌, ◌%◌, ◌≤◌}
use mathlib.Core.Path.{◌≡◌, sym, ap, ap₂, ◌∙◌}
use mathlib.Core.List.{List, [], ◌∷◌, ◌++◌, append_assoc, append-nil}
use native.Mathlib.Omega.{arith}
use lib.ListN.{length, take, drop, length-append, length-drop}
use lib.Seq.{paste, take-length, take_at, drop_at, drop-drop, length-take-le}
use Rattle.catalogue_rules.specs.Field.{bytes_of}
use Rattle.catalogue_rules.specs.Edit.{version_fields}
use Rattle.catalogue_rules.specs.Put.{put_at}

-- A copy of all of the bytes.
pub put_pasted : (area : List ℕ) (at : ℕ) (those : List ℕ) → paste area at those (length those) ≡ put_at area at those
put_pasted area at those =
    ap (λ (l : List ℕ). take at area ++ l ++ drop (at + length those) area) (take-length those)
    ∙ append_assoc (take at area) those (drop (at + length those) area)

-- The bytes before those put and the bytes put.
module _ (area : List ℕ) (at : ℕ) (those : List ℕ) (fits : at ≤ length area) where
  length-head : length (take at area ++ those) ≡ at + length those
  length-head = length-append (take at area) those ∙ ap (λ (n : ℕ). n + length those) (length-take-le at area fits)

  in_two : put_at area at those ≡ (take at area ++ those) ++ drop (at + length those) area
  in_two = sym (append_assoc (take at area) those (drop (at + length those) area))

  take_put : take (at + length those) (put_at area at those) ≡ take at area ++ those
  take_put = ap (take (at + length those)) in_two ∙ take_at (take at area ++ those) (drop (at + length those) area) (at + length those) length-head

  drop-put : drop (at + length those) (put_at area at those) ≡ drop (at + length those) area
  drop-put = ap (drop (at + length those)) in_two ∙ drop_at (take at area ++ those) (drop (at + length those) area) (at + length those) length-head

-- An area keeps its length.
pub length-put : (area : List ℕ) (at : ℕ) (those : List ℕ) → at + length those ≤ length area → length (put_at area at those) ≡ length area
length-put area at those fits =
    let e : length (take at area ++ those) ≡ at + length those = length-head area at those (omega arith) in
    ap length (in_two area at those (omega arith))
    ∙ length-append (take at area ++ those) (drop (at + length those) area)
    ∙ (simp length-drop (omega arith))

-- One behind the other, from any place on.
pub put_on : (area : List ℕ) (at : ℕ) (these those : List ℕ) → at + (length these + length those) ≤ length area
    → put_at (put_at area at these) (at + length these) those ≡ put_at area at (these ++ those)
put_on area at these those fits =
    let h : at ≤ length area = omega arith in
    let n : at + length these + length those ≡ at + length (these ++ those) = ap (λ (k : ℕ). k) (omega (arith, length-append these those)) in
    let d : drop (at + length these + length those) (put_at area at these) ≡ drop (at + length (these ++ those)) area =
    sym (drop-drop (length those) (at + length these) (put_at area at these))
    ∙ ap (drop (length those)) (drop-put area at these h)
    ∙ drop-drop (length those) (at + length these) area
    ∙ ap (λ (k : ℕ). drop k area) n in
    ap₂ (λ (x y : List ℕ). x ++ (those ++ y)) (take_put area at these h) d
    ∙ append_assoc (take at area) these (those ++ drop (at + length (these ++ those)) area)
    ∙ ap (λ (l : List ℕ). take at area ++ l) (sym (append_assoc these those (drop (at + length (these ++ those)) area)))

-- From the area's beginning on: the bytes, and the rest as it came.
pub put_front : (area those : List ℕ) → put_at area 0 those ≡ those ++ drop (length those) area
put_front area those =
    let z : 0 + length those ≡ length those = omega arith in
    ap (λ (k : ℕ). those ++ drop k area) z

-- Two puts, one behind the other.
pub both-put : (area : List ℕ) (at : ℕ) (these those : List ℕ) {mid last : List ℕ} {behind : ℕ} → at + (length these + length those) ≤ length area
    → behind ≡ at + length these → mid ≡ put_at area at these → last ≡ put_at mid behind those → last ≡ put_at area at (these ++ those)
both-put area at these those fits n e f =
    f ∙ ap₂ (λ (m : List ℕ) (k : ℕ). put_at m k those) e n ∙ put_on area at these those fits

-- The bytes of a version's two fields.
pub version-bytes : (n : ℕ) (image : List ℕ) → length image ≡ 128
    → (2 ∷ 2 ∷ 0 ∷ n % 256 ∷ n / 256 ∷ 3 ∷ 128 ∷ 0 ∷ []) ++ image ≡ bytes_of (version_fields n image)
unfolding bytes_of
version-bytes n image e =
    ap (λ (l : List ℕ). 2 ∷ 2 ∷ 0 ∷ n % 256 ∷ n / 256 ∷ 3 ∷ 128 ∷ 0 ∷ l) (sym (append-nil image))
    ∙ ap (λ (k : ℕ). 2 ∷ 2 ∷ 0 ∷ n % 256 ∷ n / 256 ∷ 3 ∷ k % 256 ∷ k / 256 ∷ (image ++ [])) (sym e)

pub version-length : (n : ℕ) (image : List ℕ) → length image ≡ 128 → length (bytes_of (version_fields n image)) ≡ 136
version-length n image e = ap length (sym (version-bytes n image e)) ∙ omega arith
