-- The sender's registers, and the statuses, oldest first. Assumes nothing.
use Rattle.std.specs.Prelude.{List, Bool, ℕ}
use Rattle.transmit_rules.specs.declared.Sender.{Sender}

pub record Reports : Type 0 where
  pub sender : Sender
  pub statuses : List ℕ

abbrev pub with_sender : Sender → Reports → Reports
with_sender s r = record { sender = s; statuses = r.statuses }

abbrev pub with_statuses : List ℕ → Reports → Reports
with_statuses l r = record { sender = r.sender; statuses = l }

abbrev pub with_on : Bool → Sender → Sender
with_on v s = record { on = v; available = s.available; level = s.level; start = s.start }

abbrev pub with_available : Bool → Sender → Sender
with_available v s = record { on = s.on; available = v; level = s.level; start = s.start }

abbrev pub with_level : ℕ → Sender → Sender
with_level v s = record { on = s.on; available = s.available; level = v; start = s.start }

abbrev pub with_start : ℕ → Sender → Sender
with_start v s = record { on = s.on; available = s.available; level = s.level; start = v }
