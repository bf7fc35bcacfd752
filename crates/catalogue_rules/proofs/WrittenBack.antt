-- Written fields are read again: the length that was written takes the value off what follows it.
-- Assumes nothing.
use Prim.Native.Nat.{ℕ, suc, ◌+◌}
use mathlib.Core.Path.{◌≡◌, refl, ap, ap₂, ◌∙◌}
use mathlib.Core.Bool.{true}
use mathlib.Core.List.{List, [], ◌∷◌, ◌++◌}
use native.Mathlib.Omega.{arith}
use lib.ListN.{length, take, drop, length-append}
use lib.Seq.{take_at, drop_at}
use Rattle.catalogue_rules.specs.Field.{Field, field, written, bytes_of, number_at, is_whole, first, behind, fields_of, left_of}
use Rattle.catalogue_rules.proofs.Runs.{is_whole_lem, is_cut, fields_step, left_step, fields_stop, left_stop}
use Rattle.catalogue_rules.specs.RoundTrip.{Sizes}

-- One field before any bytes.
module _ (f : Field) (rest : List ℕ) where
  length-told : number_at (written f ++ rest) 1 ≡ length f.value
  length-told = omega arith

  all : length (written f ++ rest) ≡ 3 + (length f.value + length rest)
  all = let e : length (f.value ++ rest) ≡ length f.value + length rest = length-append f.value rest in omega arith

  whole : is_whole (written f ++ rest) ≡ true
  whole = is_whole_lem (written f ++ rest) (omega (arith, length-told, all))

  first_is : first (written f ++ rest) ≡ f
  first_is =
      ap (λ (n : ℕ). field f.tag (take n (f.value ++ rest))) length-told
      ∙ ap (field f.tag) (take_at f.value rest (length f.value) refl)

  behind_is : behind (written f ++ rest) ≡ rest
  behind_is =
      let z : 3 + number_at (written f ++ rest) 1 ≡ suc (suc (suc (length f.value))) = omega (arith, length-told) in
      ap (λ (n : ℕ). drop n (written f ++ rest)) z ∙ drop_at f.value rest (length f.value) refl

pub fields_written : (fs : List Field) → Sizes fs → fields_of (bytes_of fs) ≡ fs
unfolding bytes_of Sizes
fields_written [] s = fields_stop [] (is_cut [] (omega arith))
fields_written (f ∷ fs) s =
    fields_step (written f ++ bytes_of fs) (whole f (bytes_of fs))
    ∙ ap₂ (λ (x : Field) (xs : List Field). x ∷ xs) (first_is f (bytes_of fs)) (ap fields_of (behind_is f (bytes_of fs)) ∙ fields_written fs s.1)

pub left-written : (fs : List Field) → Sizes fs → left_of (bytes_of fs) ≡ []
unfolding bytes_of Sizes
left-written [] s = left_stop [] (is_cut [] (omega arith))
left-written (f ∷ fs) s =
    left_step (written f ++ bytes_of fs) (whole f (bytes_of fs)) ∙ ap left_of (behind_is f (bytes_of fs)) ∙ left-written fs s.1

pub sizes-append : (fs gs : List Field) → Sizes fs → Sizes gs → Sizes (fs ++ gs)
unfolding Sizes
sizes-append [] gs s t = t
sizes-append (f ∷ fs) gs s t = (s.0, sizes-append fs gs s.1 t)
