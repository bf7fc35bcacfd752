-- Two wrong services, and what they hand up: the promise is not one that any driver keeps. Assumes nothing.
use Rattle.std.specs.Prelude.{◌≡◌, Bool, true, cond, ◌||◌, List, ℕ, replicate}
use Rattle.bits.specs.Bits.{has}
use Rattle.receive_rules.specs.Count.{decoded}
use Rattle.driver_rules.specs.declared.Driver.{Driver}
use Rattle.driver_rules.specs.Registers.{status_port, rx_status, rx_discard, rx_complete}
use Rattle.driver_rules.specs.Talk.{Talk, run, read_word, order}
use Rattle.driver_rules.specs.Items.{Serving, idle_talk, fetch_talk}
use Rattle.driver_rules.specs.Registers as registers
use Rattle.runs.specs.Run.{Bench, after}
use Rattle.no_trace.specs.Stretch.{begun, whole_frame}
use Rattle.no_trace.specs.Examples.{opened, zeros, bad}

-- One pass: if Status goes on to the frame, it is read or, where its RX Status is bad, thrown away.
unfoldable pub pass : (ℕ → Bool) → (ℕ → Bool) → Driver → Talk Serving
pass goes_on is_bad d =
    read_word status_port (λ status.
    cond (goes_on status)
    (read_word rx_status (λ rx. cond (is_bad rx) (order rx_discard 0 (idle_talk 10 d)) (fetch_talk 1000 d (registers.length_in rx))))
    (idle_talk 10 d))

abbrev pub hands : (ℕ → Bool) → (ℕ → Bool) → Bench → List ℕ
hands goes_on is_bad b = (run (pass goes_on is_bad b.driver) b.adapter).answer.bytes

abbrev pub outside : ℕ → Bool
outside rx = registers.outside_frame (decoded rx)

-- 100 bytes that end with a bad check; before the end, and after it
abbrev pub unfinished : Bench
unfinished = after (begun (bad (zeros 92) 5)) opened

abbrev pub finished : Bench
finished = after (whole_frame (bad (zeros 92) 5)) opened

-- It looks at bit 15 and not at 14: the damaged frame is handed up. It does not wait for RX Complete, and judges a frame by its first block: the frame is handed up before its end. The right tests hand up nothing in either case.
pub record WrongServicesHandUpDamage : Type 0 where
  pub bit_15_for_14 : hands rx_complete (λ rx. has 32768 rx || outside rx) finished ≡ replicate 100 0
  pub first_block : hands (λ status. true) (λ rx. has 16384 rx || outside rx) unfinished ≡ replicate 100 0
  pub right_after : hands rx_complete registers.bad finished ≡ replicate 0 0
  pub right_before : hands rx_complete registers.bad unfinished ≡ replicate 0 0
