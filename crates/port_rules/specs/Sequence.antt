-- The ID sequence, by its rule.
-- Assumes nothing.
use Rattle.std.specs.Prelude.{◌≡◌, ℕ, zero, suc, ◌*◌, ◌-◌, ◌<◌, cond, ltb}
use Rattle.std.specs.Int.Bits.{bit_xor}

-- the next is the last shifted left, with CFh exclusive-or'd if a one fell out
unfoldable pub id_next : ℕ → ℕ
id_next b = cond (ltb b 0x80) (b * 2) (bit_xor 0xCF (b * 2 - 0x100))

-- the 255 bytes start at FFh
unfoldable pub id_byte : ℕ → ℕ
id_byte zero = 0xFF
id_byte (suc i) = id_next (id_byte i)

-- the first byte is FFh, the last 98h, and none is zero
pub record TheSequence : Type 0 where
  pub starts : id_byte 0 ≡ 0xFF
  pub ends : id_byte 254 ≡ 0x98
  pub nonzero : (i : ℕ) → i < 255 → id_byte i ≡ 0 → ⊥
