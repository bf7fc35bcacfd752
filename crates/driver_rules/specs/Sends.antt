-- What the contracts of a send, and of its tests, say of its run. Assumes nothing.
use Rattle.std.specs.Prelude.{◌≡◌, true, false, List, [], ◌∷◌, ℕ, ◌≤◌, length, Result, Ok, Err}
use Rattle.refusal.specs.declared.Refusal.{Refusal}
use Rattle.card_rules.specs.declared.Card.{Card}
use Rattle.card_rules.specs.View.{view, Sound, Stands}
use Rattle.card_rules.specs.Access.{ReadWord}
use Rattle.driver_rules.specs.declared.Driver.{Driver}
use Rattle.driver_rules.specs.Registers.{status_port, tx_free}
use Rattle.driver_rules.specs.Talk.{done, Ran, extended, run, write_words}
use Rattle.driver_rules.specs.Packet.{packet_words}
use Rattle.driver_rules.specs.declared.After.{After}
use Rattle.driver_rules.specs.Send.{Sending, refuses, ticketed, send_talk, refusing}

-- Answer and driver are those of the run R; so is the card where the packet is taken, and a refusal changes nothing.
pub record Sends (R : Ran Sending) (c : Card) (ram dir : List ℕ) (r : After ℕ) (ram' dir' : List ℕ) : Type 0 where
  pub answer : r.answer ≡ R.answer.answer
  pub driver : r.driver ≡ R.answer.driver
  pub taken : refusing r.answer ≡ false → Stands r.card ram' dir' R.adapter
  pub kept : refusing r.answer ≡ true → (r.card ≡ c) × ((ram' ≡ ram) × (dir' ≡ dir))

-- Every test is passed: two words were read, and from the card e the packet's words are left to write.
pub record Passed (d : Driver) (packet : List ℕ) (c e : Card) (ram dir : List ℕ) : Type 0 where
  pub sound : Sound e ram dir
  pub few : d.unreported ≤ 15
  pub short : length packet ≤ 1514
  pub onward : run (send_talk d packet) (view c ram dir)
      ≡ extended (ReadWord status_port ∷ (ReadWord tx_free ∷ [])) (run (write_words (packet_words packet) (done (ticketed d))) (view e ram dir))

-- The tests answer the run's refusal, or the card that passes them.
unfoldable pub Tests : Driver → List ℕ → Card → List ℕ → List ℕ → Result Card Refusal → Type 0
Tests d packet c ram dir (Ok e) = Passed d packet c e ram dir
Tests d packet c ram dir (Err why) = (run (send_talk d packet) (view c ram dir)).answer ≡ refuses d why
