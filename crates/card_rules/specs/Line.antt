-- The interrupt line that the card drives. Assumes nothing.
use Rattle.std.specs.Prelude.{Bool, cond, not, ◌&&◌, ◌||◌, ℕ, ◌/◌, ◌%◌, eqb}
use Rattle.card_rules.specs.Adapter.{Adapter}

-- IRQ: bits 15-12 of Resource Configuration.
abbrev pub irq : ℕ → ℕ
irq resource = resource / 4096 % 16

-- 3, 5, 7, 9, 10, 11, 12 and 15 enable that line's driver; any other value disables them all.
abbrev pub is_line : ℕ → Bool
is_line n = eqb n 3 || (eqb n 5 || (eqb n 7 || (eqb n 9 || (eqb n 10 || (eqb n 11 || (eqb n 12 || eqb n 15))))))

-- The drivers are enabled by ENA, bit 0 of Configuration Control, and disabled while window 0 is selected.
abbrev pub is_driving : Adapter → Bool
is_driving a = a.config.enabled && (not (eqb a.select.window 0) && is_line (irq a.config.resource))

-- The line that is driven high, while the Interrupt Latch is set; 0 if none is.
unfoldable pub interrupt_line : Adapter → ℕ
interrupt_line a = cond (a.lines.latch && is_driving a) (irq a.config.resource) 0
