-- What each public call answers and leaves, refusals first. The contracts say neither more nor less than these definitions.
-- Assumes nothing.
use Rattle.std.specs.Prelude.{ℕ, ◌-◌, Bool, cond, ◌&&◌, List, [], ◌∷◌, ◌++◌, leb, length, replicate, Result, Ok, Err, ⊤}
use Rattle.port_rules.specs.declared.IdState.{IdState}
use Rattle.refusal.specs.declared.Refusal.{Refusal}
use Rattle.refusal.specs.Number.{number_of}
use Rattle.port_rules.specs.declared.Bus.{Bus}
use Rattle.port_rules.specs.declared.Cards.{Cards}
use Rattle.port_rules.specs.declared.After.{After}
use Rattle.port_rules.specs.declared.AfterSearch.{AfterSearch}
use Rattle.port_rules.specs.Port.{held, seated, port_write, port_bit, port_read, Ran, run}
use Rattle.port_rules.specs.Search.{search, activate}
-- the tests of the cards and of the arguments
unfoldable pub use Rattle.port_rules.specs.Gathered.{all_sound, naming}
pub use Rattle.port_rules.specs.Gathered.{is_port, digit_of}

-- An answer in the paper's terms: the number of a refusal, or the values.
pub data Reply : Type 0 where
  refused : ℕ → Reply
  told : List ℕ → Reply

abbrev pub reply_of : {T : Type 0} → (T → List ℕ) → Result T Refusal → Reply
reply_of tells (Err why) = refused (number_of why)
reply_of tells (Ok value) = told (tells value)

-- A write tells nothing, a read its bit, a search how many cards it found and the accesses used, an activation the accesses used.
abbrev pub wrote_reply : Result ⊤ Refusal → Reply
wrote_reply = reply_of (λ done. [])

abbrev pub bit_reply : Result ℕ Refusal → Reply
bit_reply = reply_of (λ bit. bit ∷ [])

abbrev pub found_reply : Result Cards Refusal → Reply
found_reply = reply_of (λ found. found.count ∷ found.accesses ∷ [])

abbrev pub activation_reply : Result ℕ Refusal → Reply
activation_reply = reply_of (λ accesses. accesses ∷ [])

-- seven places: the addresses found, then zeros
abbrev pub padded : List ℕ → List ℕ
padded found = found ++ replicate (7 - length found) 0

-- What a call comes to: its answer, the seven places, which a search alone fills, and the bus after.
pub record Outcome : Type 0 where
  pub reply : Reply
  pub places : List ℕ
  pub bus : Bus

abbrev pub left_of : {T : Type 0} → (Result T Refusal → Reply) → After T → Outcome
left_of reply r = record { reply = reply r.answer; places = padded []; bus = r.bus }

abbrev pub wrote_of : After ⊤ → Outcome
wrote_of = left_of wrote_reply

abbrev pub read_of : After ℕ → Outcome
read_of = left_of bit_reply

abbrev pub found_of : AfterSearch → Outcome
found_of r = record { reply = found_reply r.answer; places = r.addresses; bus = r.bus }

abbrev pub activated_of : After ℕ → Outcome
activated_of = left_of activation_reply

-- The tests. The ID port is 1x0h, and there are not more than 8 cards.
unfoldable pub allowed : Bus → ℕ → Bool
allowed b port = is_port port && leb b.count 8

-- Refusal 1 for an unsound state, then 12 for an argument outside; a refused call changes nothing.
abbrev pub refusing : ℕ → Bus → Outcome
refusing n b = record { reply = refused n; places = padded []; bus = b }

unfoldable pub judged : Bus → Bool → Outcome → Outcome
judged b ok o = cond (all_sound (held b)) (cond ok o (refusing 12 b)) (refusing 1 b)

-- what a talk comes to: its values told, the addresses, and the cards as it leaves them
abbrev pub ended : Bus → List ℕ → List ℕ → List IdState → Outcome
ended b values found cards = record { reply = told values; places = padded found; bus = seated cards b }

abbrev pub port_writes : Bus → ℕ → ℕ → Outcome
port_writes b port byte = judged b (allowed b port) (ended b [] [] (port_write (digit_of port) byte (held b)))

abbrev pub port_reads : Bus → ℕ → Outcome
port_reads b port = judged b (allowed b port) (ended b (port_bit (digit_of port) (held b) ∷ []) [] (port_read (digit_of port) (held b)))

-- The accesses used are the length of the run's list of accesses.
abbrev pub searched : Bus → Ran (List ℕ) → Outcome
searched b t = ended b (length t.answer ∷ length t.accesses ∷ []) t.answer t.cards

abbrev pub finds_cards : Bus → ℕ → Outcome
finds_cards b port = judged b (allowed b port) (searched b (run (digit_of port) search (held b)))

abbrev pub activated : Bus → Ran (List ℕ) → Outcome
activated b t = ended b (length t.accesses ∷ []) [] t.cards

abbrev pub activates_card : Bus → ℕ → ℕ → ℕ → Outcome
activates_card b port tag base = judged b (allowed b port && naming tag base) (activated b (run (digit_of port) (activate tag base) (held b)))
