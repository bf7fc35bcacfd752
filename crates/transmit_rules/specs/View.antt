-- The transmit side that registers and memory hold. Assumes nothing.
use Rattle.std.specs.Prelude.{◌≡◌, List, Bool, true, ◌&&◌, ℕ, ◌-◌, ◌≤◌, length}
use Rattle.store.specs.Store as store
use Rattle.transmit_rules.specs.QueueView.{queue_of, Packed, sound_fifo}
use Rattle.transmit_rules.specs.Queue.{free}
use Rattle.transmit_rules.specs.OutcomesView.{reports_of, Stacked, sound_outcomes}
use Rattle.transmit_rules.specs.Outcome.{available_settled}
use Rattle.transmit_rules.specs.declared.Transmit.{Transmit}
use Rattle.transmit_rules.specs.Tx.{Tx, kept, sound}

abbrev pub tx_of : ℕ → Transmit → List ℕ → List ℕ → Tx
tx_of size t ram dir = record { queue = queue_of size t.fifo ram dir; reports = reports_of t.outcomes }

-- the transmit side is sound
pub record Sound (size : ℕ) (t : Transmit) (ram dir : List ℕ) : Type 0 where
  pub small : size ≤ 4096
  pub packed : Packed size t.fifo ram dir
  pub stacked : Stacked t.outcomes
  pub calm : sound size (tx_of size t ram dir) ≡ true

-- it is sound but for TX Available: what every effect keeps
pub record Unsettled (size : ℕ) (t : Transmit) (ram dir : List ℕ) : Type 0 where
  pub small : size ≤ 4096
  pub packed : Packed size t.fifo ram dir
  pub stacked : Stacked t.outcomes
  pub calm : kept size (tx_of size t ram dir) ≡ true

-- the transmit side t with its memory is x, and nothing outside its area has changed
pub record Step (size : ℕ) (t : Transmit) (ram dir ram' dir' : List ℕ) (x : Tx) : Type 0 where
  pub shows : tx_of size t ram' dir' ≡ x
  pub packed : Packed size t.fifo ram' dir'
  pub stacked : Stacked t.outcomes
  pub ram_kept : store.Kept (8192 - size) size ram ram'
  pub dir_kept : store.Kept 768 342 dir dir'

-- Whatever memory r is read with, it is x.
abbrev pub Is : Transmit → Tx → Type 0
Is r x = (size : ℕ) (ram dir : List ℕ) → size ≤ 4096 → 8192 ≤ length ram → 1110 ≤ length dir → Step size r ram dir ram dir x

-- Whatever memory t is read with, r makes g of it, and the memory stays.
abbrev pub Does : Transmit → Transmit → (Tx → Tx) → Type 0
Does t r g = (size : ℕ) (ram dir : List ℕ) → Packed size t.fifo ram dir → Step size r ram dir ram dir (g (tx_of size t ram dir))

-- Whatever memory t is read with, b says whether p holds of it.
abbrev pub Says : Transmit → Bool → (Tx → Bool) → Type 0
Says t b p = (size : ℕ) (ram dir : List ℕ) → Packed size t.fifo ram dir → b ≡ p (tx_of size t ram dir)

-- The test that a call makes of what it is handed.
unfoldable pub sound_side : ℕ → Transmit → List ℕ → List ℕ → Bool
sound_side size t ram dir =
    sound_fifo size t.fifo ram dir && sound_outcomes t.outcomes
    && available_settled (free size (queue_of size t.fifo ram dir)) t.outcomes.sender
