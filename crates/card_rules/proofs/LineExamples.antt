-- The interrupt line, computed. Assumes nothing.
use mathlib.Core.Path.{◌≡◌, refl}
use mathlib.Core.Bool.{Bool, true, false}
use mathlib.Core.List.{[]}
use Prim.Native.Nat.{ℕ}
use Rattle.card_rules.specs.Adapter.{Adapter}
use Rattle.card_rules.specs.Update.{with_select, with_lines, with_config, select_window, lines_latch, config_resource, config_enabled}
use Rattle.card_rules.specs.Power.{power_on}
use Rattle.card_rules.specs.Line.{interrupt_line}

-- a card with this window, ENA, Resource Configuration and latch
card : ℕ → Bool → ℕ → Bool → Adapter
card window enabled resource latch =
    let a = power_on [] 0 in
    with_select (select_window window a.select) (with_lines (lines_latch latch a.lines) (with_config (config_resource resource (config_enabled enabled a.config)) a))

ten : interrupt_line (card 1 true 0xAF00 true) ≡ 10
unfolding interrupt_line card power_on
ten = refl

fifteen : interrupt_line (card 7 true 0xF000 true) ≡ 15
unfolding interrupt_line card power_on
fifteen = refl

-- no latch; window 0; ENA clear; 13 names no line
none : (interrupt_line (card 1 true 0xAF00 false) ≡ 0) × ((interrupt_line (card 0 true 0xAF00 true) ≡ 0) × ((interrupt_line (card 1 false 0xAF00 true) ≡ 0) × (interrupt_line (card 1 true 0xDF00 true) ≡ 0)))
unfolding interrupt_line card power_on
none = (refl, (refl, (refl, refl)))
