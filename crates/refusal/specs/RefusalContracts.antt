-- The contract of the public call, by its name. Assumes nothing.
use Rattle.std.specs.Prelude.{◌≡◌, ℕ}
use Rattle.refusal.specs.declared.Refusal.{Refusal}
use Rattle.refusal.specs.Number.{number_of}

abbrev pub Number : Refusal → ℕ → Type 0
Number why r = r ≡ number_of why
