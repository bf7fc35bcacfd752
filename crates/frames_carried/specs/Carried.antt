-- Demand 2: what the wire brings is what the host reads. The promise stands at the end. Assumes nothing.
use Rattle.std.specs.Prelude.{◌≡◌, Bool, true, false, ◌&&◌, List, [], ◌∷◌, ◌++◌, map, ℕ, ◌+◌, ◌*◌, ◌≤◌, length, leb}
use Rattle.store.specs.Store.{round4}
use Rattle.receive_rules.specs.Frame.{whole, Frame, room}
use Rattle.receive_rules.specs.Wire.{passes}
use Rattle.card_rules.specs.declared.Card.{Card}
use Rattle.card_rules.specs.Room.{rx_room}
use Rattle.card_rules.specs.Status.{failure}
use Rattle.card_rules.specs.View.{view}
use Rattle.driver_rules.specs.Items.{words_in}
use Rattle.driver_rules.specs.Paper.{frame}
use Rattle.runs.specs.Run.{Bench, sound_bench, Areas, full, Event, Start, Byte, End, Open, Service, Earlier, served, wire, next, said, after, sayings, since}
use Rattle.runs.specs.Sound.{fresh}
use Rattle.frames_carried.specs.Bytes.{octets, holdable, dir_words, wire_octets, between, bytes_in}
use Rattle.frames_carried.specs.Brings.{stored, good, newest, arrived}
use Rattle.frames_carried.specs.Reads.{laid_in, host_reads}

-- ---- over any sequence

-- Nothing of the oldest frame is read, no receive failure stands, and the store is such as a memory of bytes holds.
pub record Unread (b : Bench) : Type 0 where
  pub none_read : b.adapter.rx.receiver.read ≡ 0
  pub no_failure : b.adapter.rx.receiver.failed ≡ false
  pub held : holdable (stored b) ≡ true

-- The good frames that were stored, and then those that arrive, are those that the host reads, and then those that are stored still:
-- each once, in order, byte for byte, and nothing else.
pub record Carried (es : List Event) (b : Bench) : Type 0 where
  pub as_they_came : good (stored b) ++ arrived es (newest (stored b)) b ≡ host_reads (sayings es b) ++ good (stored (after es b))
  pub again : Unread (after es b)

-- From any sound card and driver, whatever the driver is asked and the wire and the transmitter do from there on.
abbrev pub NothingElseIsRead : Type 0
NothingElseIsRead = (b : Bench) → sound_bench b ≡ true → Unread b → (es : List Event) → wire_octets es ≡ true → Carried es b

-- It is so at power-on, and no card's memory holds another store.
pub record StoresAreSuch : Type 0 where
  pub at_power_on_is : (words : List ℕ) → Unread (fresh words)
  pub in_memory : (c : Card) (ram dir : List ℕ) → octets ram ≡ true → dir_words dir ≡ true → holdable (view c ram dir).rx.frames ≡ true

-- ---- a good frame arrives

-- The wire is idle, the card active, the receiver on; the filter takes the frame, it has 60 to 1,514 bytes and it fits.
pub record Taken (first bs : List ℕ) (b : Bench) : Type 0 where
  pub idle : wire b ≡ 0
  pub active : b.adapter.id.active ≡ true
  pub on : b.adapter.rx.receiver.on ≡ true
  pub filter : passes b.adapter.select.filter b.adapter.config.station first ≡ true
  pub long : 60 ≤ 8 + length bs
  pub short : 8 + length bs ≤ 1514
  pub space : room (stored b) + round4 (8 + length bs) ≤ rx_room b.adapter

-- With both flags good it arrives with all its bytes, whatever is called and sent while it comes.
abbrev pub AGoodFrameArrives : Type 0
AGoodFrameArrives =
    (b : Bench) → sound_bench b ≡ true → Unread b →
    (first : List ℕ) (eight : length first ≡ 8) (es : List Event) → between es ≡ true → wire_octets (Start first eight ∷ es) ≡ true → Taken first (bytes_in es) b →
    (heard : List ℕ) → arrived (Start first eight ∷ (es ++ (End true true ∷ []))) heard b ≡ (first ++ bytes_in es) ∷ []

-- If it comes alone, it is stored behind the others, whole and byte for byte.
abbrev pub good_frame : (first : List ℕ) → length first ≡ 8 → List ℕ → List Event
good_frame first eight bs = Start first eight ∷ (map Byte bs ++ (End true true ∷ []))

abbrev pub OneGoodFrameIsStored : Type 0
OneGoodFrameIsStored =
    (b : Bench) (first : List ℕ) (eight : length first ≡ 8) (bs : List ℕ) → Taken first bs b →
    stored (after (good_frame first eight bs) b) ≡ stored b ++ (record { bytes = first ++ bs; state = whole } ∷ [])

-- ---- a good frame is handed up

-- The driver is open on an active card in window 1 that hides nothing, with no failure and nothing to report.
-- The oldest frame is whole, nothing of it is read, and the areas and the budget suffice.
pub record Waiting (bytes : List ℕ) (behind : List Frame) (budget : ℕ) (s : Areas) (b : Bench) : Type 0 where
  pub opened : b.driver.opened ≡ true
  pub active : b.adapter.id.active ≡ true
  pub window : b.adapter.select.window ≡ 1
  pub hides_nothing : b.adapter.select.zero ≡ 254
  pub no_failure : failure b.adapter ≡ false
  pub none_to_report : b.adapter.tx.reports.statuses ≡ []
  pub oldest : stored b ≡ record { bytes = bytes; state = whole } ∷ behind
  pub none_read : b.adapter.rx.receiver.read ≡ 0
  pub octets : octets bytes ≡ true
  pub long : 60 ≤ length bytes
  pub short : length bytes ≤ 1514
  pub areas : full s ≡ true
  pub enough : words_in (length bytes) + 3 ≤ budget

-- A service hands it up byte for byte, with its words and 3 accesses more; the frames behind it stay.
pub record HandedUp (bytes : List ℕ) (behind : List Frame) (budget : ℕ) (s : Areas) (b : Bench) : Type 0 where
  pub answer : said (Service budget s) b ≡ served (frame (length bytes) (words_in (length bytes) + 3)) bytes (laid_in bytes s) ∷ []
  pub rest : stored (next (Service budget s) b) ≡ behind

abbrev pub OneGoodFrameIsHandedUp : Type 0
OneGoodFrameIsHandedUp =
    (b : Bench) → sound_bench b ≡ true →
    (bytes : List ℕ) (behind : List Frame) (budget : ℕ) (s : Areas) → Waiting bytes behind budget s b → HandedUp bytes behind budget s b

-- ---- nothing good is left behind

-- Any sound card and driver, any history, then an open, then any events: so the driver is open, and a card that is active is in window 1 and hides nothing.
pub data AfterOpen : Bench → Type 0 where
  after_open : (b : Bench) → sound_bench b ≡ true → (history : List Earlier) (w₀ w₁ w₂ : ℕ) (es : List Event) → AfterOpen (after es (next (Open w₀ w₁ w₂) (since history b)))

-- a service call: its budget, and the areas that it is lent
pub record Call : Type 0 where
  pub budget : ℕ
  pub areas : Areas

abbrev pub services : List Call → List Event
services cs = map (λ c. Service c.budget c.areas) cs

-- Status, RX Status and RX Discard for each of n frames, and the 757 words of the longest
abbrev pub needed : ℕ → ℕ
needed n = 3 * n + 757

-- Each call has full areas, and a budget for n frames.
unfoldable pub ample : ℕ → List Call → Bool
ample n [] = true
ample n (c ∷ cs) = full c.areas && (leb (needed n) c.budget && ample n cs)

-- At b none of the calls cs is refused, and none is missing.
pub record Enough (cs : List Call) (b : Bench) : Type 0 where
  -- an inactive card answers 5,
  pub active : b.adapter.id.active ≡ true
  -- and so does an Adapter Failure
  pub no_adapter_failure : failure b.adapter ≡ false
  -- a short area answers 7, a short budget 6
  pub each : ample (length (stored b)) cs ≡ true
  -- a call reports a status while one stands, else it hands up a frame: so there is one for each
  pub calls : length b.adapter.tx.reports.statuses + length (good (stored b)) ≤ length cs

-- A sound card stores 768 frames at most: so a budget of 3,061 is enough for any call.
abbrev pub ABudgetOf3061IsEnough : Type 0
ABudgetOf3061IsEnough = (b : Bench) → sound_bench b ≡ true → (c : Call) → full c.areas ≡ true → 3061 ≤ c.budget → ample (length (stored b)) (c ∷ []) ≡ true

-- Whatever came before, once such calls are made the host has read every good frame that was stored or has arrived.
abbrev pub NothingGoodIsLeftBehind : Type 0
NothingGoodIsLeftBehind =
    (b : Bench) → AfterOpen b → Unread b → (es : List Event) → wire_octets es ≡ true → (cs : List Call) → Enough cs (after es b) →
    host_reads (sayings (es ++ services cs) b) ≡ good (stored b) ++ arrived es (newest (stored b)) b

-- a frame with both flags good, and the events while it comes
abbrev pub good_among : (first : List ℕ) → length first ≡ 8 → List Event → List Event
good_among first eight es = Start first eight ∷ (es ++ (End true true ∷ []))

-- So a good frame that fits is handed up, whatever is called and sent while it comes: its bytes are the last that the host has read.
abbrev pub AGoodFrameIsHandedUp : Type 0
AGoodFrameIsHandedUp =
    (b : Bench) → AfterOpen b → Unread b →
    (first : List ℕ) (eight : length first ≡ 8) (es : List Event) → between es ≡ true → wire_octets (Start first eight ∷ es) ≡ true → Taken first (bytes_in es) b →
    (cs : List Call) → Enough cs (after (good_among first eight es) b) →
    host_reads (sayings (good_among first eight es ++ services cs) b) ≡ good (stored b) ++ ((first ++ bytes_in es) ∷ [])

-- ---- the promise

pub record WhatTheWireBringsIsWhatTheHostReads : Type 0 where
  -- nothing else, from any sound state
  pub nothing_else : NothingElseIsRead
  -- and all of it, from any state after an open
  pub nothing_left : NothingGoodIsLeftBehind
  pub good_frame_is : AGoodFrameIsHandedUp
