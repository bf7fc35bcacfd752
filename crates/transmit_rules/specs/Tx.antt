-- The transmit side as a reader sees it, and its steps. `size` is the transmitter's part of the RAM. Assumes nothing.
use Rattle.std.specs.Prelude.{List, [], ◌∷◌, Bool, true, false, not, ◌&&◌, ℕ, eqb}
use Rattle.store.specs.Store.{Frame}
use Rattle.transmit_rules.specs.Queue.{Queue, empty, free}
use Rattle.transmit_rules.specs.Write.{put}
use Rattle.transmit_rules.specs.Leave.{oldest_wanted, leave}
use Rattle.transmit_rules.specs.QueueSound.{orderly}
use Rattle.transmit_rules.specs.Reports.{Reports}
use Rattle.transmit_rules.specs.Outcome as outcome
use Rattle.transmit_rules.specs.Outcome.{at_power_on, succeeded, collided, settle_available, filled, available_settled}

pub record Tx : Type 0 where
  pub queue : Queue
  pub reports : Reports

abbrev pub with_queue : Queue → Tx → Tx
with_queue q x = record { queue = q; reports = x.reports }

abbrev pub with_reports : Reports → Tx → Tx
with_reports r x = record { queue = x.queue; reports = r }

abbrev pub on_reports : (Reports → Reports) → Tx → Tx
on_reports g x = with_reports (g x.reports) x

-- The empty transmit side: FIFO and status stack are empty, and the transmitter is off.
abbrev pub tx_empty : Tx
tx_empty = record { queue = empty; reports = at_power_on }

-- The host writes a word.
abbrev pub write_data : ℕ → ℕ → Tx → Tx
write_data size v x = with_queue (put size v x.queue) x

-- a whole packet is stored
unfoldable pub any : List Frame → Bool
any [] = false
any (p ∷ ps) = true

-- No packet and no part of one is written.
abbrev pub idle : Tx → Bool
idle x = not (any x.queue.packets) && eqb x.queue.part.words 0

-- A send outcome is possible: the transmitter is on, no transmit failure stands, and a whole packet is stored.
abbrev pub ready : Tx → Bool
ready x = x.reports.sender.on && not x.queue.failed && any x.queue.packets

-- A whole packet goes at a send outcome: it leaves, its room returns, and the outcome is reported.
unfoldable pub success : Tx → Tx
success x = record { queue = leave x.queue; reports = succeeded (oldest_wanted x.queue.packets) x.reports }

unfoldable pub collisions : Tx → Tx
collisions x = record { queue = leave x.queue; reports = collided (oldest_wanted x.queue.packets) x.reports }

-- TX Reset empties the FIFO and turns the transmitter off; statuses stay.
unfoldable pub tx_reset : Tx → Tx
tx_reset x = record { queue = empty; reports = outcome.reset x.reports }

-- TX Available, at the end of every step.
abbrev pub settle : ℕ → Tx → Tx
settle size x = with_reports (settle_available (free size x.queue) x.reports) x

-- What every effect keeps, and what holds between steps.
abbrev pub kept : ℕ → Tx → Bool
kept size x = orderly size x.queue && filled x.reports

abbrev pub sound : ℕ → Tx → Bool
sound size x = kept size x && available_settled (free size x.queue) x.reports.sender
