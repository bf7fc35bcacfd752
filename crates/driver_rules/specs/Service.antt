-- Service, as document 01's section "The driver's accesses" has it, by the accesses that are left. Assumes nothing.
use Rattle.std.specs.Prelude.{cond, ℕ, zero, suc, Err}
use Rattle.refusal.specs.declared.Refusal.TheVariants.{CardUnfit}
use Rattle.driver_rules.specs.declared.Driver.{Driver}
use Rattle.driver_rules.specs.Registers.{status_port, rx_status, rx_discard, unfit, tx_complete, rx_complete, bad, length_in}
use Rattle.driver_rules.specs.Talk.{Talk, done, read_word, order}
use Rattle.driver_rules.specs.Items.{Serving, plain, short, report_talk, idle_talk, fetch_talk}

unfoldable mutual
  -- Service reads Status, then: TX Complete, else RX Complete, else idle. Budget 0 answers 6 in 5's place.
  pub look_talk : ℕ → Driver → Talk Serving
  look_talk zero d = done (short d)
  look_talk (suc left) d =
      read_word status_port (λ status.
      cond (unfit status) (done (plain (Err CardUnfit) d))
      (cond (tx_complete status) (report_talk left d)
      (cond (rx_complete status) (receive_talk left d)
      (idle_talk left d))))

  -- RX Complete: read RX Status.
  pub receive_talk : ℕ → Driver → Talk Serving
  receive_talk zero d = done (short d)
  receive_talk (suc left) d =
      read_word rx_status (λ rx.
      cond (bad rx) (drop_talk left d) (fetch_talk left d (length_in rx)))

  -- Discard, and the pass looks again from the start.
  pub drop_talk : ℕ → Driver → Talk Serving
  drop_talk zero d = done (short d)
  drop_talk (suc left) d = order rx_discard 0 (look_talk left d)
