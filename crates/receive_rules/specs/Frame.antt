-- A received frame, and the receive side as a reader sees it. Assumes nothing.
use Rattle.std.specs.Prelude.{List, [], ◌∷◌, Bool, true, false, ℕ, ◌+◌, length}
use Rattle.store.specs.Store.{round4}
use Rattle.receive_rules.specs.declared.Receiver.{Receiver}

-- A frame is still coming, and may be overrun; or it has ended whole; or it has ended damaged, with a code.
pub data State : Type 0 where
  coming : Bool → State
  whole : State
  damaged : ℕ → State

pub record Frame : Type 0 where
  pub bytes : List ℕ
  pub state : State

-- The registers, and the stored frames, oldest first.
pub record Rx : Type 0 where
  pub receiver : Receiver
  pub frames : List Frame

unfoldable pub is_coming : State → Bool
is_coming (coming o) = true
is_coming whole = false
is_coming (damaged k) = false

unfoldable pub overran : State → Bool
overran (coming o) = o
overran whole = false
overran (damaged k) = false

-- A stored frame takes its length rounded up to 4.
unfoldable pub room : List Frame → ℕ
room [] = 0
room (f ∷ fs) = round4 (length f.bytes) + room fs
