-- The bytes of fields one behind the other.
-- Assumes nothing.
use Prim.Native.Nat.{ℕ}
use mathlib.Core.Path.{◌≡◌, refl, sym, ap, ◌∙◌}
use mathlib.Core.List.{List, [], ◌∷◌, ◌++◌, append_assoc}
use Rattle.catalogue_rules.specs.Field.{Field, written, bytes_of}

pub bytes-append : (xs ys : List Field) → bytes_of (xs ++ ys) ≡ bytes_of xs ++ bytes_of ys
unfolding bytes_of
bytes-append [] ys = refl
bytes-append (f ∷ xs) ys = ap (λ (l : List ℕ). written f ++ l) (bytes-append xs ys) ∙ sym (append_assoc (written f) (bytes_of xs) (bytes_of ys))
