-- What the driver sees in the Status word of a card that open has set: window 1, every bit shown. Assumes nothing.
use mathlib.Core.Path.{◌≡◌}
use Prim.Native.Nat.{ℕ}
use Rattle.card_rules.specs.declared.Select.{Select}
use Rattle.card_rules.specs.declared.Flags.{Flags}
use Rattle.card_rules.specs.Status.{status_of}
use Rattle.driver_rules.specs.Registers.{unfit, tx_complete, rx_complete}
use Rattle.driver_rules.proofs.Status.{unfit-status, status-completed, status_received}

-- as open leaves it, with any filter
abbrev pub shown : ℕ → Select
shown filter = record { window = 1; mask = 0; zero = 254; filter = filter }

module _ (filter : ℕ) (f : Flags) where
  pub seen-failed : unfit (status_of (shown filter) f) ≡ f.failed
  seen-failed = unfit-status (shown filter) f

  pub seen-completed : tx_complete (status_of (shown filter) f) ≡ f.completed
  seen-completed = status-completed (shown filter) f

  pub seen_received : rx_complete (status_of (shown filter) f) ≡ f.received
  seen_received = status_received (shown filter) f
