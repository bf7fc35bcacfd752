-- What each covered step promises.
-- Assumes nothing.
use Rattle.std.specs.Prelude.{ℕ, ◌+◌, ◌-◌, ◌*◌, ◌≤◌, ◌≡◌, cond, List, ◌++◌, map, length, take, drop, replicate, Result, Ok, Err, ⊤}
use Rattle.refusal.specs.declared.Refusal.{Refusal}
use Rattle.refusal.specs.declared.Refusal.TheVariants.{StateUnsound, ArgumentOutside}
use Rattle.port_rules.specs.declared.IdState.{IdState}
use Rattle.port_rules.specs.Search.{all_ones}
use Rattle.port_rules.specs.Calls.{padded, all_sound, allowed}
use Rattle.port_rules.specs.Lent.{lent}
use Rattle.found.specs.Theorems.{All}
use Rattle.lent_port.specs.declared.roll.Progress.{Progress}
use Rattle.lent_port.specs.Roll.{takes_part, Worded, found, rounds_cost}

-- The tests of every call: refusal 1 for an unsound state, then 12 for an argument outside.
unfoldable pub tested : List IdState → ℕ → Result ⊤ Refusal
tested cards port = cond (all_sound cards) (cond (allowed (lent cards) port) (Ok tt) (Err ArgumentOutside)) (Err StateUnsound)

-- Each card is stepped where it stands: by f, if that is what the step answers.
abbrev pub Each : (IdState → IdState → Type 0) → List IdState → List IdState → Type 0
Each steps before after = (f : IdState → IdState) → ((s r : IdState) → steps s r → r ≡ f s) → after ≡ map f before

-- The address of each card in the first of the roll's eight places, all ones in the others.
abbrev pub entered : ℕ → List IdState → List ℕ
entered x cards = map (takes_part x) cards ++ replicate (8 - length cards) all_ones

-- There is room for what is still to be found, and for the count of the accesses; zeros stand past what is found.
abbrev pub Blank : Progress → Type 0
Blank f = drop f.count f.addresses ≡ replicate (7 - f.count) 0

pub record Room (free : ℕ) (f : Progress) : Type 0 where
  pub places : f.count + free ≤ 7
  pub counted : f.accesses + 309 * free ≤ 2421
  pub blank : Blank f

-- What the rounds have found in the end, beside what was found and spent before.
pub record Finishes (free : ℕ) (f r : Progress) : Type 0 where
  pub many : r.count ≡ f.count + length (found free f.left)
  pub listed : take r.count r.addresses ≡ take f.count f.addresses ++ found free f.left
  pub blank : Blank r
  pub cost : r.accesses ≡ f.accesses + rounds_cost (length (found free f.left)) free

-- The search of these cards: what is found stands in the seven places, then zeros. The cards' words are 16 bits wide, as their type says.
abbrev pub found_of : ℕ → List IdState → List ℕ
found_of x cards = found 7 (map (takes_part x) cards)

pub record Finds (x : ℕ) (cards : List IdState) (r : Progress) : Type 0 where
  pub many : r.count ≡ length (found_of x cards)
  pub listed : take r.count r.addresses ≡ found_of x cards
  pub places : r.addresses ≡ padded (found_of x cards)
  pub cost : r.accesses ≡ 258 + rounds_cost (length (found_of x cards)) 7
  pub worded : All Worded cards
