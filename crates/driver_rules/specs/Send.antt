-- Send, as document 01's section "The driver's accesses" has it. Assumes nothing.
use Rattle.std.specs.Prelude.{Bool, true, false, cond, not, List, ℕ, length, ltb, Result, Ok, Err}
use Rattle.refusal.specs.declared.Refusal.{Refusal}
use Rattle.refusal.specs.declared.Refusal.TheVariants.{NeverOpened, LengthOutside, SixteenUnreported, CardUnfit, NoRoom}
use Rattle.driver_rules.specs.declared.Driver.{Driver}
use Rattle.driver_rules.specs.Registers.{status_port, tx_free, unfit}
use Rattle.driver_rules.specs.Talk.{Talk, done, read_word, write_words}
use Rattle.driver_rules.specs.Packet.{outside, lacks_room, packet_words}
use Rattle.driver_rules.specs.Driver.{sending}

-- The answer, and the driver that is left.
pub record Sending : Type 0 where
  pub answer : Result ℕ Refusal
  pub driver : Driver

abbrev pub refuses : Driver → Refusal → Sending
refuses d why = record { answer = Err why; driver = d }

-- The ticket is the count of earlier packets modulo 65,536.
abbrev pub ticketed : Driver → Sending
ticketed d = record { answer = Ok d.sent; driver = sending d }

-- Refusals 13, 2 and 3; read Status, refusal 5; read TX Free, refusal 4; the words.
unfoldable pub send_talk : Driver → List ℕ → Talk Sending
send_talk d packet =
    cond (not d.opened) (done (refuses d NeverOpened))
    (cond (outside (length packet)) (done (refuses d LengthOutside))
    (cond (ltb 15 d.unreported) (done (refuses d SixteenUnreported))
    (read_word status_port (λ status.
    cond (unfit status) (done (refuses d CardUnfit))
    (read_word tx_free (λ free.
    cond (lacks_room free (length packet)) (done (refuses d NoRoom))
    (write_words (packet_words packet) (done (ticketed d)))))))))

abbrev pub refusing : Result ℕ Refusal → Bool
refusing (Ok n) = false
refusing (Err why) = true
