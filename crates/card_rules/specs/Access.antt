-- The host's accesses. Assumes nothing.
use Rattle.std.specs.Prelude.{cond, ℕ, ◌-◌, ◌/◌, ◌%◌, eqb}
use Rattle.card_rules.specs.Adapter.{Adapter}
use Rattle.card_rules.specs.Settle.{settle}
use Rattle.card_rules.specs.Read.{word_at, after_word}
use Rattle.card_rules.specs.Write.{write_word, write_byte}

pub data Access : Type 0 where
  ReadWord : ℕ → Access
  ReadByte : ℕ → Access
  WriteWord : ℕ → ℕ → Access
  WriteByte : ℕ → ℕ → Access

-- what an access gives, and leaves
pub record Step : Type 0 where
  pub value : ℕ
  pub adapter : Adapter

abbrev pub step : ℕ → Adapter → Step
step v a = record { value = v; adapter = a }

-- a byte of the word at an even offset
unfoldable pub byte_at : ℕ → Adapter → ℕ
byte_at o a = cond (eqb (o % 2) 0) (word_at o a % 256) (word_at (o - 1) a / 256)

unfoldable pub effect : Access → Adapter → Step
effect (ReadWord o) a = step (word_at o a) (after_word o a)
effect (ReadByte o) a = step (byte_at o a) a
effect (WriteWord o v) a = step 0 (write_word o v a)
effect (WriteByte o v) a = step 0 (write_byte o v a)

-- all ones
abbrev pub ones : Access → ℕ
ones (ReadWord o) = 65535
ones (ReadByte o) = 255
ones (WriteWord o v) = 0
ones (WriteByte o v) = 0

-- An inactive card reads all ones and ignores writes. Every step of an active one ends with settle.
unfoldable pub access : Access → Adapter → Step
access x a = cond a.id.active (step (effect x a).value (settle (effect x a).adapter)) (step (ones x) a)
