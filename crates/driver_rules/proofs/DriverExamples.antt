-- The refusals of a service before its first access, computed for any adapter; the state, the areas, and what is handed up. Assumes nothing.
use Rattle.std.specs.Prelude.{Result, Err}
use mathlib.Core.Path.{◌≡◌, refl}
use mathlib.Core.Bool.{Bool, true, false}
use mathlib.Core.List.{List}
use Prim.Native.Nat.{ℕ}
use lib.ListN.{get_or, replicate}
use Rattle.refusal.specs.declared.Refusal.{Refusal}
use Rattle.refusal.specs.declared.Refusal.TheVariants.{StateUnsound, BudgetShort, NeverOpened, AreaShort}
use Rattle.card_rules.specs.declared.Card.{Card}
use Rattle.card_rules.specs.Adapter.{Adapter}
use Rattle.card_rules.specs.View.{sound_card}
use Rattle.driver_rules.specs.declared.Driver.{Driver}
use Rattle.driver_rules.specs.Talk.{run}
use Rattle.driver_rules.specs.declared.Item.{Item}
use Rattle.driver_rules.specs.Service.{look_talk}
use Rattle.driver_rules.specs.Calls.{sound_state, large, service_call}
use Rattle.driver_rules.specs.HandUp.{handed}

abbrev driver : Bool → Driver
driver opened = record { opened = opened; sent = 0; unreported = 0; error = false }

-- What a service of 5 answers.
abbrev answer : Bool → Bool → Bool → Adapter → Result Item Refusal
answer sound areas opened a = (run (service_call sound areas (driver opened) 5) a).answer.answer

-- An opened driver with short areas answers 7, one never opened 13, whatever the areas; an unsound state comes first.
short-areas : (a : Adapter) → answer true false true a ≡ Err AreaShort
unfolding run service_call
short-areas a = refl

never_opened_lem : (a : Adapter) → answer true false false a ≡ Err NeverOpened
unfolding run service_call
never_opened_lem a = refl

unsound : (a : Adapter) → answer false false false a ≡ Err StateUnsound
unfolding run service_call
unsound a = refl

-- None of the three refuses a service of 0: it answers 6.
begun : (a : Adapter) → (run (service_call true true (driver true) 0) a).answer.answer ≡ Err BudgetShort
unfolding run service_call look_talk
begun a = refl

-- ---- the state

-- Seventeen packets unreported are unsound, with a sound card too.
seventeen : (c : Card) (ram dir : List ℕ) → sound_card c ram dir ≡ true → sound_state c ram dir (record { opened = true; sent = 20; unreported = 17; error = false }) ≡ false
seventeen c ram dir e = rw e

-- ---- the areas

areas-large : large (replicate 256 0) (replicate 1514 0) ≡ true
areas-large = refl

look_255 : large (replicate 255 0) (replicate 1514 0) ≡ false
look_255 = refl

frame_1513 : large (replicate 256 0) (replicate 1513 0) ≡ false
frame_1513 = refl

-- ---- what is handed up, of a lookahead area of 1s and a frame area of 2s: its first byte

handed_256 : get_or (handed (replicate 256 1) (replicate 257 2) 256) 0 0 ≡ 1
handed_256 = refl

handed_257 : get_or (handed (replicate 256 1) (replicate 257 2) 257) 0 0 ≡ 2
handed_257 = refl
