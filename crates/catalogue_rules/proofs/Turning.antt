-- A test that is not damage held.
-- Assumes nothing.
use mathlib.Core.Path.{◌≡◌, refl}
use mathlib.Core.Bool.{Bool, true, false, cond, true≢false}
use Rattle.catalogue_rules.specs.declared.Turn.{Turn}
use Rattle.catalogue_rules.specs.declared.Turn.TheVariants.{Damaged}
use Rattle.catalogue_rules.specs.Turns.{is_damaged}

pub held : (b : Bool) (turn : Turn) → is_damaged (cond b turn Damaged) ≡ false → b ≡ true
held true turn e = refl
held false turn e = absurd (true≢false e)
