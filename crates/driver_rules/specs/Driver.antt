-- The driver's state between calls. Assumes nothing.
use Rattle.std.specs.Prelude.{Bool, true, false, ℕ, ◌+◌, ◌-◌, ◌%◌, leb}
use Rattle.driver_rules.specs.declared.Driver.{Driver}

-- At most sixteen packets are unreported.
abbrev pub driver_sound : Driver → Bool
driver_sound d = leb d.unreported 16

abbrev pub never_opened : Driver
never_opened = record { opened = false; sent = 0; unreported = 0; error = false }

-- A second open keeps unreported packets; TX Enable forgets an error.
abbrev pub opening : Driver → Driver
opening d = record { opened = true; sent = d.sent; unreported = d.unreported; error = false }

-- One more packet was sent.
abbrev pub sending : Driver → Driver
sending d = record { opened = d.opened; sent = (d.sent + 1) % 65536; unreported = d.unreported + 1; error = d.error }

-- The oldest unreported ticket.
abbrev pub oldest_ticket : Driver → ℕ
oldest_ticket d = (d.sent + 65536 - d.unreported) % 65536

-- The oldest unreported packet was reported.
abbrev pub reporting : Driver → Driver
reporting d = record { opened = d.opened; sent = d.sent; unreported = d.unreported - 1; error = d.error }

abbrev pub with_error : Bool → Driver → Driver
with_error e d = record { opened = d.opened; sent = d.sent; unreported = d.unreported; error = e }
