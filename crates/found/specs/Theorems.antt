-- What is promised of the search and of the activation, over the definitions alone.
-- Assumes nothing.
use Rattle.std.specs.Prelude.{ℕ, suc, ◌+◌, ◌*◌, ◌<◌, ◌≤◌, ◌≡◌, Bool, true, false, cond, List, [], ◌∷◌, map, eqb, ltb, length, get_or}
use Rattle.port_rules.specs.declared.IdState.{IdState}
use Rattle.port_rules.specs.Card.{based, moved, waiting, id_fresh}
use Rattle.port_rules.specs.Port.{Access, after, Talk, done, Ran, run}
use Rattle.port_rules.specs.Search.{put, puts, id_bytes, call_up, search, activate, all_ones}
use Rattle.port_rules.specs.Calls.{all_sound}

-- a word of the EEPROM, and the station address: words 00h, 01h, 02h as one number
abbrev pub word_at : ℕ → IdState → ℕ
word_at j s = get_or s.words j 0

abbrev pub station : IdState → ℕ
station s = (word_at 0 s * 65536 + word_at 1 s) * 65536 + word_at 2 s

abbrev pub All : {X : Type 0} → (X → Type 0) → List X → Type 0
All P [] = Unit {0}
All P (x ∷ xs) = P x × All P xs

abbrev pub Distinct : List ℕ → Type 0
Distinct [] = Unit {0}
Distinct (x ∷ xs) = All (λ y. x ≡ y → ⊥) xs × Distinct xs

-- ascending order
unfoldable pub insert : ℕ → List ℕ → List ℕ
insert x [] = x ∷ []
insert x (y ∷ ys) = cond (ltb y x) (y ∷ insert x ys) (x ∷ (y ∷ ys))

unfoldable pub ascending : List ℕ → List ℕ
ascending [] = []
ascending (x ∷ xs) = insert x (ascending xs)

-- the place of a number in a list, counted from 1
unfoldable pub place : ℕ → List ℕ → ℕ
place a [] = 0
place a (x ∷ xs) = cond (eqb a x) 1 (suc (place a xs))

-- A card is not in ID_CMD at another port.
abbrev pub Here : ℕ → IdState → Type 0
Here p s = s.command ≡ true → s.port ≡ p

-- The words are 16 bits wide, as their type says; the address is not all ones; the card is not in ID_CMD at another port.
pub record Findable (p : ℕ) (s : IdState) : Type 0 where
  pub fits0 : word_at 0 s < 65536
  pub fits1 : word_at 1 s < 65536
  pub fits2 : word_at 2 s < 65536
  pub not_ones : station s ≡ all_ones → ⊥
  pub here : Here p s

-- Document 01's premises: distinct addresses, none all ones, at most 7 cards, none in ID_CMD at another port.
pub record Premises (p : ℕ) (cards : List IdState) : Type 0 where
  pub port : p < 16
  pub few : length cards ≤ 7
  pub distinct : Distinct (map station cards)
  pub findable : All (Findable p) cards

-- What a search keeps of a card: its EEPROM, its activity, its address configuration, and whether a reset is due.
pub record Kept : Type 0 where
  pub words : List ℕ
  pub active : Bool
  pub address : ℕ
  pub due : Bool

abbrev pub keeping : IdState → Kept
keeping s = record { words = s.words; active = s.active; address = s.address; due = s.due }

-- The addresses of all cards are found, in ascending order; the k-th found has tag k; the rest of each card is kept, and the accesses are 258 + 309m, plus 308 if m is below 7.
pub record FindsAll (p : ℕ) (before : List IdState) (r : Ran (List ℕ)) : Type 0 where
  pub found : r.answer ≡ ascending (map station before)
  pub tags : map (λ s. s.tag) r.cards ≡ map (λ s. place (station s) r.answer) before
  pub kept : map keeping r.cards ≡ map keeping before
  pub here : All (Here p) r.cards
  pub cost : length r.accesses ≡ 258 + 309 * length before + cond (ltb (length before) 7) 308 0

abbrev pub TheSearchFindsEveryCard : Type 0
TheSearchFindsEveryCard = (p : ℕ) (cards : List IdState) → Premises p cards → FindsAll p cards (run p search cards)

-- For any cards whatever the search ends.
abbrev pub TheSearchEnds : Type 0
TheSearchEnds = (p : ℕ) (cards : List IdState) → length (run p search cards).accesses ≤ 258 + 309 * 7

-- The bench table's line: 566, 1,184 and 2,421 accesses for 0, 2 and 7 cards.
pub record Costs (m n : ℕ) : Type 0 where
  pub none : m ≡ 0 → n ≡ 566
  pub two : m ≡ 2 → n ≡ 1_184
  pub seven : m ≡ 7 → n ≡ 2_421

abbrev pub TheSearchCosts : Type 0
TheSearchCosts = (p : ℕ) (cards : List IdState) → Premises p cards → Costs (length cards) (length (run p search cards).accesses)

-- An example: fresh cards at port 110h, with addresses that end in these numbers.
abbrev pub fresh_cards : List ℕ → List IdState
fresh_cards ends = map (λ n. id_fresh (0x0200 ∷ 0 ∷ n ∷ [])) ends

abbrev pub search_of : List ℕ → Ran (List ℕ)
search_of ends = run 1 search (fresh_cards ends)

pub record FreshCardsAreFound : Type 0 where
  pub none : length (search_of []).accesses ≡ 566
  pub two : length (search_of (1 ∷ 0 ∷ [])).accesses ≡ 1_184
  pub seven : length (search_of (7 ∷ 3 ∷ 1 ∷ 5 ∷ 2 ∷ 6 ∷ 4 ∷ [])).accesses ≡ 2_421
  pub found : (search_of (1 ∷ 0 ∷ [])).answer ≡ 0x0200_0000_0000 ∷ 0x0200_0000_0001 ∷ []
  pub tags : map (λ s. s.tag) (search_of (1 ∷ 0 ∷ [])).cards ≡ 2 ∷ 1 ∷ []

-- What activation makes of a card: the one with the tag is active at the base (31: preconfigured), and each waits for the next sequence.
abbrev pub configured : ℕ → ℕ → ℕ
configured base address = cond (eqb base 31) address (based address base)

abbrev pub activated_by : ℕ → ℕ → IdState → IdState
activated_by tag base s = record {
  command = false;
  port = 16;
  at = 0;
  tag = s.tag;
  shift = s.shift;
  address = cond (eqb s.tag tag) (configured base s.address) s.address;
  active = cond (eqb s.tag tag) true s.active;
  due = s.due;
  words = s.words;
}

abbrev pub ActivationActivatesTheTaggedCard : Type 0
ActivationActivatesTheTaggedCard =
    (p tag base : ℕ) (cards : List IdState) → p < 16 → tag < 8 → base < 32 → All (Here p) cards →
    ((run p (activate tag base) cards).cards ≡ map (activated_by tag base) cards) × (length (run p (activate tag base) cards).accesses ≡ 259)

-- After a search, activation of tag k activates the k-th card found, alone, at that base.
pub record ActivatesOne (k base : ℕ) (before : List IdState) (found : List ℕ) (cards : List IdState) : Type 0 where
  pub active : map (λ s. s.active) cards ≡ map (λ s. cond (eqb (place (station s) found) k) true s.active) before
  pub address : map (λ s. s.address) cards ≡ map (λ s. cond (eqb (place (station s) found) k) (configured base s.address) s.address) before

abbrev pub AFoundCardIsActivatedAlone : Type 0
AFoundCardIsActivatedAlone =
    (p k base : ℕ) (cards : List IdState) → Premises p cards → k < 8 → base < 32 →
    ActivatesOne k base cards (run p search cards).answer (run p (activate k base) (run p search cards).cards).cards

-- One zero in place of two: a card in ID_CMD takes it as a command, forgets its port and misses the sequence.
abbrev pub one_zero : Talk (List ℕ)
one_zero = put 0 (puts (id_bytes 0 255) (done []))

abbrev pub two_zeros : Talk (List ℕ)
two_zeros = call_up (done [])

-- a card in ID_CMD at port 110h
abbrev pub obedient : IdState
obedient = moved true 1 0 (id_fresh [])

pub record OneZeroMissesACard : Type 0 where
  pub one : (p : ℕ) (s : IdState) → p < 16 → s.command ≡ true → s.port ≡ p → (run p one_zero (s ∷ [])).cards ≡ waiting s ∷ []
  pub two : (p : ℕ) (s : IdState) → Here p s → map (λ c. c.command) (run p two_zeros (s ∷ [])).cards ≡ true ∷ []
  pub example : (run 1 one_zero (obedient ∷ [])).cards ≡ id_fresh [] ∷ []

-- Every access, and so every talk, keeps the soundness of all cards.
pub record EveryAccessKeepsSoundness : Type 0 where
  pub accesses : (p : ℕ) (a : Access) (cards : List IdState) → p < 16 → all_sound cards ≡ true → all_sound (after p a cards) ≡ true
  pub talks : (p : ℕ) (t : Talk (List ℕ)) (cards : List IdState) → p < 16 → all_sound cards ≡ true → all_sound (run p t cards).cards ≡ true
