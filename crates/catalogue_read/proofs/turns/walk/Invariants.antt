-- `turns::walk` meets its contract. The invariant: what is left, read behind the fields and cards passed, reads as the whole file.
-- The measure is what is left of the file.
-- Assumes nothing.
use Prim.Native.Nat.{◌-◌, ◌≤◌}
use mathlib.Core.Path.{◌≡◌}
use lib.ListN.{length, drop}
use Rattle.catalogue_rules.specs.Field.{fields_of, left_of}
use Rattle.catalogue_rules.specs.declared.Turn.TheVariants.{Begun}
use Rattle.catalogue_rules.specs.Reading.{reading, judged}
use Rattle.catalogue_rules.specs.FileWalk.{behind_so}
use Rattle.catalogue_read.proofs.turns.walk.Given as goal

abbrev pub invariant-loop-f : goal.invariant-loop-f
invariant-loop-f l = (l.at ≤ length l.file) × (l.n ≤ l.at) × (l.cards ≤ l.n) × (behind_so l.cards l.n (judged (reading l.turn l.n (fields_of (drop l.at l.file)) (left_of (drop l.at l.file)))) ≡ judged (reading Begun 0 (fields_of l.file) (left_of l.file)))

abbrev pub decreases-loop-f : goal.decreases-loop-f
decreases-loop-f l = length l.file - l.at
