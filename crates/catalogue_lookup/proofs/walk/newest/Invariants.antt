-- `walk::newest` meets its contract. The invariant: the newest image of what is left, else the best so far, is the newest of all.
-- The measure is what is left of the file.
-- Assumes nothing.
use Prim.Native.Nat.{ℕ, ◌-◌}
use mathlib.Core.Path.{◌≡◌}
use lib.ListN.{length, drop}
use Rattle.refusal.specs.declared.Refusal.TheVariants.{NoSuchCard}
use Rattle.catalogue_rules.specs.Field.{fields_of}
use Rattle.std.specs.Prelude.{Err}
use Rattle.catalogue_rules.specs.Lookup.{spots_from, last_spot}
use Rattle.catalogue_lookup.proofs.walk.newest.Given as goal

abbrev pub invariant-loop-f : goal.invariant-loop-f
invariant-loop-f l = (n : ℕ) → last_spot l.best (spots_from l.at n (fields_of (drop l.at l.file))) ≡ last_spot (Err NoSuchCard) (spots_from l.from 0 (fields_of (drop l.from l.file)))

abbrev pub decreases-loop-f : goal.decreases-loop-f
decreases-loop-f l = length l.file - l.at
