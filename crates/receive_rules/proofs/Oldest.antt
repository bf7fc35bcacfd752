-- What the oldest frame's word says of the frames as they are told. Assumes nothing.
use mathlib.Core.Path.{◌≡◌, ap}
use mathlib.Core.Bool.{cond, not, ◌&&◌, ◌||◌}
use mathlib.Core.List.{List, [], ◌∷◌, map}
use Prim.Native.Nat.{ℕ, ◌/◌, ◌%◌}
use native.Mathlib.Omega.{arith}
use lib.Dec.{leb, ltb}
use lib.ListN.{get_or}
use Rattle.store.specs.Store as store
use Rattle.store.specs.Store.{round4}
use Rattle.store.proofs.Lift.{First, first}
use Rattle.receive_rules.specs.declared.Receiver.{Receiver}
use Rattle.receive_rules.specs.Early.{early_flag, told_flag}
use Rattle.receive_rules.specs.Reading.{readable}
use Rattle.receive_rules.specs.Sound.{early_settled}
use Rattle.receive_rules.specs.View.{state_of, told, rx_area, frames_of}
use Rattle.receive_rules.proofs.Laws.{coming-word}

-- an empty store
pub none : (size n : ℕ) (ram dir : List ℕ) → n ≡ 0 → frames_of size n ram dir ≡ []
unfolding store.frames
none size n ram dir e = rw e

-- a store that is not empty
module _ (size n : ℕ) (ram dir : List ℕ) (S : store.Sound (rx_area size) n ram dir) (h : n ≡ 0 → ⊥) where
  pub front : First (rx_area size) n (get_or dir 0 0) ram dir
  front = first (rx_area size) n ram dir S (omega arith)

  pub shown-first : frames_of size n ram dir ≡ record { bytes = front.bytes; state = state_of (get_or dir 0 0 / 2048) } ∷ map told front.others
  shown-first = ap (λ (l : List store.Frame). map told l) front.shape

  pub readable-some : readable (frames_of size n ram dir) ≡ cond (leb 32768 (get_or dir 0 0)) (get_or dir 0 0 % 2048) (round4 (get_or dir 0 0 % 2048))
  unfolding readable
  readable-some = rw (shown-first, front.len, coming-word (get_or dir 0 0))

  module _ (r : Receiver) where
    pub early_some : early_flag r (frames_of size n ram dir)
        ≡ (leb 32768 (get_or dir 0 0) && (leb r.threshold (get_or dir 0 0 % 2048) && not r.told || r.early))
    unfolding early_flag
    early_some = rw (shown-first, front.len, coming-word (get_or dir 0 0))

    pub told-some : told_flag r (frames_of size n ram dir)
        ≡ (leb 32768 (get_or dir 0 0) && (leb r.threshold (get_or dir 0 0 % 2048) && not r.told || r.told))
    unfolding told_flag
    told-some = rw (shown-first, front.len, coming-word (get_or dir 0 0))

    pub settled_some : early_settled r (frames_of size n ram dir)
        ≡ cond (leb 32768 (get_or dir 0 0)) (r.told || ltb (get_or dir 0 0 % 2048) r.threshold) (not r.told)
    unfolding early_settled
    settled_some = rw (shown-first, front.len, coming-word (get_or dir 0 0))
