-- Computed examples of the status stack. Assumes nothing.
use mathlib.Core.Path.{◌≡◌, refl}
use mathlib.Core.Bool.{Bool, true, false}
use mathlib.Core.List.{[], ◌∷◌, ◌++◌}
use Prim.Native.Nat.{ℕ, zero, suc}
use lib.ListN.{replicate}
use Rattle.transmit_rules.specs.declared.Outcomes.{Outcomes}
use Rattle.transmit_rules.specs.Reports.{Reports}
use Rattle.transmit_rules.specs.Outcome.{at_power_on, push, rest, top, pop, succeeded, collided, enable, reset, due, set_level, settle_available, acknowledge}
use Rattle.transmit_rules.specs.OutcomesView.{sound_outcomes}

-- n successes of packets that wanted one told
successes : ℕ → Reports → Reports
successes zero r = r
successes (suc n) r = successes n (succeeded true r)

-- 30 successes push C0h; the 31st pushes C4h and turns the transmitter off
thirty : successes 30 (enable at_power_on) ≡ record { sender = record { on = true; available = false; level = 2044; start = 2044 }; statuses = replicate 30 192 }
unfolding successes succeeded push enable
thirty = refl

thirty_one : successes 31 (enable at_power_on) ≡ record { sender = record { on = false; available = false; level = 2044; start = 2044 }; statuses = replicate 30 192 ++ (196 ∷ []) }
unfolding successes succeeded push enable
thirty_one = refl

-- TX Enable does nothing then, and after one pop it turns the transmitter on
full-stays-off : (enable (successes 31 (enable at_power_on))).sender.on ≡ false
unfolding successes succeeded push enable
full-stays-off = refl

popped_goes_on : (enable (pop (successes 31 (enable at_power_on)))).sender.on ≡ true
unfolding successes succeeded push enable rest
popped_goes_on = refl

-- a pop takes one status, and the transmitter stays on
popped_stays_on : pop (successes 2 (enable at_power_on)) ≡ record { sender = record { on = true; available = false; level = 2044; start = 2044 }; statuses = 192 ∷ [] }
unfolding successes succeeded push enable rest
popped_stays_on = refl

-- TX Reset turns it off, and the statuses stay
reset-keeps : reset (successes 2 (enable at_power_on)) ≡ record { sender = record { on = false; available = false; level = 2044; start = 2044 }; statuses = 192 ∷ 192 ∷ [] }
unfolding successes succeeded push enable
reset-keeps = refl

-- 31 statuses are sound only with the transmitter off
full : Bool → Outcomes
full on = record { sender = record { on = on; available = false; level = 2044; start = 2044 }; statuses = record { entries = replicate 31 192; count = 31 } }

full_and_off : sound_outcomes (full false) ≡ true
unfolding full sound_outcomes
full_and_off = refl

full_and_on : sound_outcomes (full true) ≡ false
unfolding full sound_outcomes
full_and_on = refl

-- 16 collisions push 88h, or C8h with bit 15
collisions_unwanted : (collided false (enable at_power_on)).statuses ≡ 136 ∷ []
unfolding collided push enable
collisions_unwanted = refl

collisions-wanted : top (collided true (enable at_power_on)).statuses ≡ 200
unfolding collided push enable top
collisions-wanted = refl

-- a threshold of 1,795 is set as 1,792: TX Available comes at 1,793, and acknowledging it disables the threshold
available_comes : (settle_available 1793 (set_level 1795 at_power_on)).sender.available ≡ true
unfolding due
available_comes = refl

available_waits : (settle_available 1792 (set_level 1795 at_power_on)).sender.available ≡ false
unfolding due
available_waits = refl

acknowledged : acknowledge true (settle_available 1793 (set_level 1795 at_power_on)) ≡ at_power_on
unfolding due
acknowledged = refl

-- a threshold of 1,796 never sets it
never : settle_available 4096 (set_level 1796 at_power_on) ≡ set_level 1796 at_power_on
unfolding due
never = refl
