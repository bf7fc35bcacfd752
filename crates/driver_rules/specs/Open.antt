-- Open, as document 01's section "The driver's accesses" has it. Assumes nothing.
use Rattle.std.specs.Prelude.{Bool, true, false, List, [], ◌∷◌, ◌++◌, ℕ, ◌+◌, ◌/◌, ◌%◌, Result, Ok, Err, ⊤}
use Rattle.refusal.specs.declared.Refusal.{Refusal}
use Rattle.card_rules.specs.Access.{Access, WriteWord, WriteByte}
use Rattle.driver_rules.specs.declared.Driver.{Driver}
use Rattle.driver_rules.specs.Registers.{command_port, select_window, rx_filter, read_zero, interrupt_mask, rx_enable, tx_enable}
use Rattle.driver_rules.specs.Talk.{Talk, done, write_byte, order}
use Rattle.driver_rules.specs.Driver.{opening}

-- The answer, and the driver that is left.
pub record Opening : Type 0 where
  pub answer : Result ⊤ Refusal
  pub driver : Driver

-- Select window 2; write the six address bytes, words 00h-02h as the caller hands them in, high byte first; select window 1; filter 5; Read Zero FFh; interrupt mask 0; RX Enable; TX Enable.
unfoldable pub open_talk : Driver → ℕ → ℕ → ℕ → Talk Opening
open_talk d w₀ w₁ w₂ =
    order select_window 2
    (write_byte 0 (w₀ / 256) (write_byte 1 (w₀ % 256)
    (write_byte 2 (w₁ / 256) (write_byte 3 (w₁ % 256)
    (write_byte 4 (w₂ / 256) (write_byte 5 (w₂ % 256)
    (order select_window 1
    (order rx_filter 5
    (order read_zero 0xFF
    (order interrupt_mask 0
    (order rx_enable 0
    (order tx_enable 0
    (done (record { answer = Ok tt; driver = opening d }))))))))))))))

-- ---- the same accesses in the parts that the code takes

abbrev pub command : ℕ → Access
command v = WriteWord command_port v

abbrev pub pair_writes : ℕ → ℕ → List Access
pair_writes o w = WriteByte o (w / 256) ∷ (WriteByte (o + 1) (w % 256) ∷ [])

abbrev pub address_writes : ℕ → ℕ → ℕ → List Access
address_writes w₀ w₁ w₂ = (command (select_window + 2) ∷ []) ++ (pair_writes 0 w₀ ++ (pair_writes 2 w₁ ++ pair_writes 4 w₂))

abbrev pub mask_writes : List Access
mask_writes = command (select_window + 1) ∷ (command (rx_filter + 5) ∷ (command (read_zero + 0xFF) ∷ []))

abbrev pub enable_writes : List Access
enable_writes = command interrupt_mask ∷ (command rx_enable ∷ (command tx_enable ∷ []))

abbrev pub refusing : Result ⊤ Refusal → Bool
refusing (Ok _) = false
refusing (Err why) = true
