-- Runs one after the other. Assumes nothing.
use mathlib.Core.Path.{◌≡◌, refl}
use mathlib.Core.List.{List, [], ◌∷◌, ◌++◌, append_assoc}
use Rattle.runs.specs.Run.{Bench, Event, next, after, sayings}

pub after-append : (es fs : List Event) (b : Bench) → after (es ++ fs) b ≡ after fs (after es b)
unfolding after
after-append [] fs b = refl
after-append (e ∷ es) fs b = after-append es fs (next e b)

pub sayings-append : (es fs : List Event) (b : Bench) → sayings (es ++ fs) b ≡ sayings es b ++ sayings fs (after es b)
unfolding sayings after
sayings-append [] fs b = refl
sayings-append (e ∷ es) fs b = rw (sayings-append es fs (next e b), append_assoc)
