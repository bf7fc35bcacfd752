-- Which frames are taken, computed. Assumes nothing.
use mathlib.Core.Path.{◌≡◌, refl}
use mathlib.Core.Bool.{Bool, true, false}
use mathlib.Core.List.{[]}
use lib.ListN.{replicate}
use Rattle.receive_rules.specs.Wire.{passes}
use Rattle.card_rules.specs.Adapter.{Adapter}
use Rattle.card_rules.specs.Update.{with_select, select_filter}
use Rattle.card_rules.specs.Power.{power_on}
use Rattle.card_rules.specs.Effect.{taken}
use Rattle.card_rules.proofs.Active.{woken}

-- a card whose filter takes all frames, active or not
hearing : Bool → Adapter
hearing v = let a = power_on [] 0 in woken v (with_select (select_filter 8 a.select) a)

awake : taken (replicate 8 4) (hearing true) ≡ true
unfolding hearing power_on passes
awake = refl

-- an inactive card takes none
asleep : taken (replicate 8 4) (hearing false) ≡ false
unfolding hearing power_on passes
asleep = refl
