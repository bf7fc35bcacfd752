-- What send outcomes report, the status stack, and the transmitter's commands. Assumes nothing.
use Rattle.std.specs.Prelude.{[], ◌∷◌, ◌++◌, Bool, true, false, cond, not, ◌&&◌, ◌||◌, ℕ, ◌+◌, ◌*◌, ◌/◌, length, ltb, leb}
-- the oldest status, whether there is one, and all but the oldest
unfoldable pub use Rattle.transmit_rules.specs.Stack.{top, some, rest}
use Rattle.transmit_rules.specs.declared.Sender.{Sender}
use Rattle.transmit_rules.specs.Reports.{Reports, with_sender, with_statuses, with_on, with_available, with_level, with_start}

-- the disabled thresholds, as at power-on
abbrev pub level_default : ℕ
level_default = 2044

abbrev pub start_default : ℕ
start_default = 2044

-- Power-on: off, TX Available clear, both thresholds disabled, no status.
abbrev pub at_power_on : Reports
at_power_on = record { sender = record { on = false; available = false; level = level_default; start = start_default }; statuses = [] }

-- ---- the status stack

-- The stack is 31 deep. The push that fills it adds 04h and turns the transmitter off.
unfoldable pub push : ℕ → Reports → Reports
push v r =
    cond (ltb (length r.statuses) 30) (with_statuses (r.statuses ++ (v ∷ [])) r)
    (cond (ltb (length r.statuses) 31) (record { sender = with_on false r.sender; statuses = r.statuses ++ ((v + 4) ∷ []) }) r)

-- A write pops the oldest; it does nothing on an empty stack.
abbrev pub pop : Reports → Reports
pop r = with_statuses (rest r.statuses) r

-- ---- the outcomes

abbrev pub off : Reports → Reports
off r = with_sender (with_on false r.sender) r

-- Success pushes C0h with bit 15 (`wanted`), else nothing.
unfoldable pub succeeded : Bool → Reports → Reports
succeeded true r = push 192 r
succeeded false r = r

-- Collisions push 88h, or C8h with bit 15, and turn the transmitter off.
unfoldable pub collided : Bool → Reports → Reports
collided wanted r = off (push (cond wanted 200 136) r)

-- ---- the commands

-- TX Enable does nothing while the stack is full.
unfoldable pub enable : Reports → Reports
enable r = with_sender (with_on (r.sender.on || ltb (length r.statuses) 31) r.sender) r

-- TX Reset turns the transmitter off and sets both thresholds to their defaults; statuses stay, and so does TX Available.
abbrev pub reset : Reports → Reports
reset r = with_sender (record { on = false; available = r.sender.available; level = level_default; start = start_default }) r

-- The low two bits of a threshold's argument are dropped.
abbrev pub fours : ℕ → ℕ
fours n = n / 4 * 4

abbrev pub set_level : ℕ → Reports → Reports
set_level n r = with_sender (with_level (fours n) r.sender) r

abbrev pub set_start : ℕ → Reports → Reports
set_start n r = with_sender (with_start (fours n) r.sender) r

-- ---- TX Available

-- Set when TX Free exceeds a threshold of at most 1,792.
unfoldable pub due : ℕ → Sender → Bool
due free s = leb s.level 1792 && ltb s.level free

abbrev pub settle_available : ℕ → Reports → Reports
settle_available free r = with_sender (with_available (due free r.sender || r.sender.available) r.sender) r

-- Acknowledging it (`named`) while set clears it and disables the threshold.
abbrev pub acknowledge : Bool → Reports → Reports
acknowledge named r =
    with_sender
    (record {
      on = r.sender.on;
      available = not named && r.sender.available;
      level = cond (named && r.sender.available) level_default r.sender.level;
      start = r.sender.start;
    }) r

-- ---- soundness

-- 31 statuses at most, and 31 only with the transmitter off; the thresholds are arguments'.
abbrev pub filled : Reports → Bool
filled r =
    leb (length r.statuses) 31 && (ltb (length r.statuses) 31 || not r.sender.on)
    && leb r.sender.level 2047 && leb r.sender.start 2047

-- TX Available stands if it is due.
abbrev pub available_settled : ℕ → Sender → Bool
available_settled free s = s.available || not (due free s)
