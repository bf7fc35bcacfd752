-- Every step keeps soundness, from power-on through any steps. Assumes nothing.
use Rattle.std.specs.Prelude.{◌≡◌, true, List, ℕ}
use Rattle.card_rules.specs.Power.{power_on}
use Rattle.driver_rules.specs.Driver.{never_opened}
use Rattle.runs.specs.Run.{Bench, sound_bench, Earlier, since}

-- a power-on card with any EEPROM words, and a driver never opened
abbrev pub fresh : List ℕ → Bench
fresh words = record { adapter = power_on words 0; driver = never_opened }

pub record EveryStepKeepsSoundness : Type 0 where
  pub at_power_on_is : (words : List ℕ) → sound_bench (fresh words) ≡ true
  pub unopened : (b : Bench) → sound_bench b ≡ true → sound_bench (record { adapter = b.adapter; driver = never_opened }) ≡ true
  pub through_any_steps : (hs : List Earlier) (b : Bench) → sound_bench b ≡ true → sound_bench (since hs b) ≡ true
