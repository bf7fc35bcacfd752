-- The items of a service, by the accesses that are left: a report, idle, a good frame. Assumes nothing.
use Rattle.std.specs.Prelude.{Bool, false, cond, ◌||◌, ◌&&◌, List, [], ℕ, zero, suc, ◌+◌, ◌/◌, ◌%◌, take, ltb, eqb, Result, Ok, Err}
use Rattle.refusal.specs.declared.Refusal.{Refusal}
use Rattle.refusal.specs.declared.Refusal.TheVariants.{BudgetShort}
use Rattle.driver_rules.specs.declared.Driver.{Driver}
use Rattle.driver_rules.specs.Registers.{rx_discard, tx_enable, acknowledge, tx_status}
use Rattle.driver_rules.specs.Talk.{Talk, done, read_byte, write_byte, order, read_words}
use Rattle.driver_rules.specs.Driver.{oldest_ticket, reporting, with_error}
use Rattle.driver_rules.specs.declared.Item.{Item}
use Rattle.driver_rules.specs.declared.Item.TheVariants.{Reported, Status, Frame, Idle}

-- The answer, the driver that is left, and the bytes that are handed up.
pub record Serving : Type 0 where
  pub answer : Result Item Refusal
  pub driver : Driver
  pub bytes : List ℕ

abbrev pub plain : Result Item Refusal → Driver → Serving
plain x d = record { answer = x; driver = d; bytes = [] }

-- Budget short: what lacks its accesses isn't begun.
abbrev pub short : Driver → Serving
short d = plain (Err BudgetShort) d

-- ---- TX Complete

-- any of bits 5-2 of a TX status
abbrev pub is_error : ℕ → Bool
is_error status = ltb 0 (status / 4 % 16)

-- An error is kept until TX Enable.
abbrev pub seen : Driver → ℕ → Driver
seen d status = with_error (d.error || is_error status) d

-- Answer the oldest unreported ticket and the status, or the status alone if no packet is unreported.
unfoldable pub reports : ℕ → Driver → Serving
reports status d =
    cond (ltb 0 d.unreported)
    (plain (Ok (Reported (oldest_ticket d) status)) (reporting d))
    (plain (Ok (Status status)) d)

-- With 4 left, read TX Status, pop, read again; if an error was seen since the last TX Enable and the stack is now empty, TX Enable.
unfoldable pub report_talk : ℕ → Driver → Talk Serving
report_talk left d =
    cond (ltb left 4) (done (short d))
    (read_byte tx_status (λ status.
    write_byte tx_status 0
    (read_byte tx_status (λ next.
    cond ((d.error || is_error status) && eqb next 0)
    (order tx_enable 0 (done (reports status (with_error false d))))
    (done (reports status (seen d status)))))))

-- ---- neither TX Complete nor RX Complete

-- Interrupt Latch, TX Available, RX Early and Interrupt Requested: bits 0, 3, 5 and 6
abbrev pub acknowledged : ℕ
acknowledged = 0x69

-- Acknowledge 69h and answer idle, with 1 left.
unfoldable pub idle_talk : ℕ → Driver → Talk Serving
idle_talk zero d = done (short d)
idle_talk (suc left) d = order acknowledge acknowledged (done (plain (Ok Idle) d))

-- ---- a good frame of n bytes

abbrev pub words_in : ℕ → ℕ
words_in n = (n + 1) / 2

-- With its words and 1 more left, read n/2 words rounded up, discard, hand up the frame.
unfoldable pub fetch_talk : ℕ → Driver → ℕ → Talk Serving
fetch_talk left d n =
    cond (ltb left (words_in n + 1)) (done (short d))
    (read_words (words_in n) (λ bytes.
    order rx_discard 0
    (done (record { answer = Ok (Frame n); driver = d; bytes = take n bytes }))))
