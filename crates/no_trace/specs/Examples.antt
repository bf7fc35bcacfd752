-- Worked examples of demand 3, and why its premises are there. Assumes nothing.
use Rattle.std.specs.Prelude.{◌≡◌, true, false, List, [], ◌∷◌, ◌++◌, map, ℕ, replicate}
use Rattle.port_rules.specs.Card.{activated}
use Rattle.card_rules.specs.Update.{with_id}
use Rattle.card_rules.specs.Power.{power_on}
use Rattle.driver_rules.specs.Driver.{never_opened}
use Rattle.driver_rules.specs.Paper.{Paper, ticket, report, idle, short}
use Rattle.runs.specs.Run.{Bench, sound_bench, Areas, Open, Send, Sent, Service, Said, refused, told, answered, served, next, sayings}
use Rattle.no_trace.specs.Stretch.{During, byte, call, Stretch, Part, event, stretch, with_frames, without_frames, AllDamaged}

-- a power-on card with words of zero, activated, and a driver never opened; then opened with the address 00 00 00 00 00 00
unfoldable pub start : Bench
start = let a = power_on (replicate 64 0) 0 in record { adapter = with_id (activated 0 a.id) a; driver = never_opened }

unfoldable pub opened : Bench
opened = next (Open 0 0 0) start

abbrev pub areas : Areas
areas = record { look = replicate 256 0; frame = replicate 1514 0 }

abbrev pub zeros : ℕ → List During
zeros n = map byte (replicate n 0)

-- a frame whose check sequence is bad
abbrev pub bad : List During → ℕ → Stretch
bad during budget = record { first = replicate 8 0; eight = λ i. 8; during = during; check = false; alignment = true; budget = budget; areas = areas }

-- what the driver's calls answer
unfoldable pub papers : List Said → List Paper
papers [] = []
papers (refused n ∷ xs) = papers xs
papers (told bytes ∷ xs) = papers xs
papers (answered p ∷ xs) = p ∷ papers xs
papers (served p bytes s ∷ xs) = p ∷ papers xs

-- ---- two stretches: 60 bytes; and 40 with service calls among them, one of them short

abbrev pub two_parts : List Part
two_parts =
    event (Service 10 areas)
    ∷ (stretch (bad (zeros 52) 5)
    ∷ (stretch (bad (zeros 20 ++ (call 1 areas ∷ (call 10 areas ∷ zeros 12))) 100)
    ∷ (event (Send (replicate 14 7)) ∷ [])))

pub record TwoStretches : Type 0 where
  pub sound : sound_bench start ≡ true
  pub damaged : AllDamaged two_parts false opened
  pub with_frames_is : papers (sayings (with_frames two_parts) opened) ≡ idle 2 ∷ (idle 5 ∷ (short 1 ∷ (idle 2 ∷ (idle 5 ∷ (ticket 0 ∷ [])))))
  pub without_frames_is : papers (sayings (without_frames two_parts) opened) ≡ idle 2 ∷ (idle 2 ∷ (short 1 ∷ (idle 2 ∷ (idle 2 ∷ (ticket 0 ∷ [])))))

-- ---- a closing call with a budget of 4 does not come to idle

abbrev pub short_parts : List Part
short_parts = event (Service 10 areas) ∷ (stretch (bad (zeros 52) 4) ∷ [])

pub record ABudgetOf4LeavesATrace : Type 0 where
  pub with_frame : papers (sayings (with_frames short_parts) opened) ≡ idle 2 ∷ (short 4 ∷ [])
  pub without_frame : papers (sayings (without_frames short_parts) opened) ≡ idle 2 ∷ (idle 2 ∷ [])

-- ---- not at rest: a packet was sent and its status stands, so the closing call reports it, and the frame stays for the next call

abbrev pub busy_parts : List Part
busy_parts =
    event (Service 10 areas)
    ∷ (event (Send (replicate 14 7)) ∷ (event Sent ∷ (stretch (bad (zeros 52) 100) ∷ (event (Service 100 areas) ∷ []))))

pub record NotAtRestLeavesATrace : Type 0 where
  pub with_frame : papers (sayings (with_frames busy_parts) opened) ≡ idle 2 ∷ (ticket 0 ∷ (report 0 0xC0 4 ∷ (idle 5 ∷ [])))
  pub without_frame : papers (sayings (without_frames busy_parts) opened) ≡ idle 2 ∷ (ticket 0 ∷ (report 0 0xC0 4 ∷ (idle 2 ∷ [])))
