-- A state is good by its card and by its driver. Assumes nothing.
use mathlib.Core.Path.{◌≡◌, ap, ◌∙◌}
use mathlib.Core.Bool.{true}
use mathlib.Core.List.{List}
use Prim.Native.Nat.{ℕ}
use lib.ListN.{length}
use Rattle.bits.proofs.Tests.{both, join}
use Rattle.card_rules.specs.declared.Card.{Card}
use Rattle.card_rules.specs.View.{Sound, sound_card}
use Rattle.card_rules.proofs.Checked.{card-told, card-shown}
use Rattle.driver_rules.specs.declared.Driver.{Driver}
use Rattle.driver_rules.specs.Driver.{driver_sound}
use Rattle.runs.specs.Run.{Event, Earlier, Said, next, said, before}
use Rattle.run_calls.specs.Takes.{State, seen, Good, left}

pub record Fine (c : Card) (ram dir : List ℕ) : Type 0 where
  pub ram_long : length ram ≡ 8192
  pub dir_long : length dir ≡ 1110
  pub tested : sound_card c ram dir ≡ true

module _ (c : Card) (ram dir : List ℕ) where
  pub fine : Sound c ram dir → Fine c ram dir
  fine q = record { ram_long = q.held.ram_long; dir_long = q.held.dir_long; tested = card-shown c ram dir q }

  pub kept_fine : (r : Card) (ram' dir' : List ℕ) → r ≡ c → ram' ≡ ram → dir' ≡ dir → Fine c ram dir → Fine r ram' dir'
  kept_fine r ram' dir' e m n f =
      record { ram_long = ap length m ∙ f.ram_long; dir_long = ap length n ∙ f.dir_long; tested = (λ i. sound_card (e i) (m i) (n i)) ∙ f.tested }

  pub good_of : (d : Driver) → Fine c ram dir → driver_sound d ≡ true → Good (left c ram dir d)
  good_of d f q = record { ram_long = f.ram_long; dir_long = f.dir_long; sound = join (sound_card c ram dir) (driver_sound d) f.tested q }

module _ (s : State) (g : Good s) where
  pub fine_of : Fine s.card s.ram s.dir
  fine_of = record { ram_long = g.ram_long; dir_long = g.dir_long; tested = (both (sound_card s.card s.ram s.dir) (driver_sound s.driver) g.sound).0 }

  pub driver_of_lem : driver_sound s.driver ≡ true
  driver_of_lem = (both (sound_card s.card s.ram s.dir) (driver_sound s.driver) g.sound).1

  pub sound_of : Sound s.card s.ram s.dir
  sound_of = card-told s.card s.ram s.dir g.ram_long g.dir_long fine_of.tested

-- one call and its event
pub record Stepping (e : Event) (s s' : State) (says : List Said) : Type 0 where
  pub leaves : seen s' ≡ next e (seen s)
  pub answers : says ≡ said e (seen s)
  pub good : Good s'

pub record Before (h : Earlier) (s s' : State) : Type 0 where
  pub leaves : seen s' ≡ before h (seen s)
  pub good : Good s'
