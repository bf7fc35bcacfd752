-- The receive side that registers and memory hold. `size` is the receiver's part of the RAM. Assumes nothing.
use Rattle.std.specs.Prelude.{◌≡◌, List, [], ◌∷◌, map, Bool, true, cond, not, ◌&&◌, ℕ, ◌-◌, ◌%◌, ◌≤◌, leb}
use Rattle.store.specs.declared.Area.{Area}
use Rattle.store.specs.Store as store
use Rattle.receive_rules.specs.declared.Receive.{Receive}
use Rattle.receive_rules.specs.Frame.{State, coming, whole, damaged, Frame, Rx}
use Rattle.receive_rules.specs.Sound.{sound, sized}

-- Bits 15 to 11 of a directory word: bit 15 still coming, bit 14 error or, while coming, overrun; 13-11 the code.
unfoldable pub state_of : ℕ → State
state_of h = cond (leb 16 h) (coming (leb 24 h)) (cond (leb 8 h) (damaged (h - 8)) whole)

abbrev pub told : store.Frame → Frame
told f = record { bytes = f.bytes; state = state_of f.head }

-- The receive area: from the first byte of the memory, with 768 words of the directory.
abbrev pub rx_area : ℕ → Area
rx_area size = record { base = 0; size = size; first = 0; slots = 768 }

abbrev pub frames_of : ℕ → ℕ → List ℕ → List ℕ → List Frame
frames_of size n ram dir = map told (store.view (rx_area size) n ram dir)

abbrev pub rx_of : ℕ → Receive → List ℕ → List ℕ → Rx
rx_of size r ram dir = record { receiver = r.receiver; frames = frames_of size r.frames ram dir }

-- the frames lie in their area
abbrev pub Packed : ℕ → Receive → List ℕ → List ℕ → Type 0
Packed size r ram dir = store.Sound (rx_area size) r.frames ram dir

-- the receive side is sound
pub record Sound (size : ℕ) (r : Receive) (ram dir : List ℕ) : Type 0 where
  pub small : size ≤ 6144
  pub packed : Packed size r ram dir
  pub calm : sound size (rx_of size r ram dir) ≡ true

-- the area holds the n frames fs, and nothing outside it has changed
pub record Turns (size : ℕ) (ram dir ram' dir' : List ℕ) (n : ℕ) (fs : List Frame) : Type 0 where
  pub holds : frames_of size n ram' dir' ≡ fs
  pub packed : store.Sound (rx_area size) n ram' dir'
  pub ram_kept : store.Kept 0 size ram ram'
  pub dir_kept : store.Kept 0 768 dir dir'

-- the receive side r with its memory is x, and nothing outside its area has changed
pub record Step (size : ℕ) (r : Receive) (ram dir ram' dir' : List ℕ) (x : Rx) : Type 0 where
  pub shows : rx_of size r ram' dir' ≡ x
  pub packed : Packed size r ram' dir'
  pub ram_kept : store.Kept 0 size ram ram'
  pub dir_kept : store.Kept 0 768 dir dir'

-- The test that a call makes of what it is handed: the frames lie in their area, and the receive side is sound.
unfoldable pub sound_side : ℕ → Receive → List ℕ → List ℕ → Bool
sound_side size r ram dir =
    leb r.frames 768
    && leb (store.room_of (store.words (rx_area size) r.frames dir)) size
    && sound size (rx_of size r ram dir)

-- the same of the words of a directory
abbrev pub ended_word : ℕ → Bool
ended_word w = sized (w % 2048) && not (leb 32768 w)

unfoldable pub all_ended : List ℕ → Bool
all_ended [] = true
all_ended (w ∷ ws) = ended_word w && all_ended ws
