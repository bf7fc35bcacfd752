-- What `mode_of` may answer: twelve bits, or nothing where the system does not tell.
-- Assumes nothing.
use Rattle.std.specs.Prelude.{ℕ, Bool, true, Option, Some, None, ltb}

abbrev pub is_mode : Option ℕ → Bool
is_mode None = true
is_mode (Some n) = ltb n 4096
