-- The rule before request 2, to compare with: the threshold of RX Early is the argument as given. All else is as it is. Assumes nothing.
use Rattle.std.specs.Prelude.{true, cond, not, ◌&&◌, List, [], ◌∷◌, ℕ, ◌+◌, ◌*◌, ◌/◌, ◌%◌, eqb}
use Rattle.receive_rules.specs.Update.{with_threshold, with_receiver}
use Rattle.card_rules.specs.Adapter.{Adapter}
use Rattle.card_rules.specs.Update.{with_lines, with_rx, lines_low}
use Rattle.card_rules.specs.Command.{command}
use Rattle.card_rules.specs.Write.{write_word, write_byte}
use Rattle.card_rules.specs.Settle.{settle}
use Rattle.card_rules.specs.Access.{Access, ReadWord, ReadByte, WriteWord, WriteByte, Step, step, effect, ones}
use Rattle.driver_rules.specs.Talk.{Talk, done, ask, Ran, extended}
use Rattle.driver_rules.specs.Open.{Opening}
use Rattle.driver_rules.specs.Send.{Sending}
use Rattle.driver_rules.specs.Items.{Serving}
use Rattle.driver_rules.specs.Calls.{open_call, send_call, service_call}
use Rattle.driver_rules.specs.Paper.{open_paper, send_paper}
use Rattle.runs.specs.Run.{Bench, Areas, full, Event, Start, Byte, End, Sent, Collided, Open, Send, Service, Earlier, Host, IdWrite, IdRead, Later, Said, answered, serving, taken, next, said, permitted, before}

-- RX Early has this threshold; all the rest is as it was.
abbrev pub threshold_at : ℕ → Adapter → Adapter
threshold_at v a = with_rx (with_receiver (with_threshold v a.rx.receiver) a.rx) a

-- ---- command 17 stores its argument

unfoldable pub given_command : ℕ → Adapter → Adapter
given_command v a =
    cond (not (eqb (v / 2048) 1) && eqb a.select.window 0) a
    (cond (eqb (v / 2048) 17) (threshold_at (v % 2048) a) (command (v / 2048) (v % 2048) a))

unfoldable pub given_effect : Access → Adapter → Step
given_effect (ReadWord o) a = effect (ReadWord o) a
given_effect (ReadByte o) a = effect (ReadByte o) a
given_effect (WriteWord o v) a = step 0 (cond (eqb o 0x0E) (given_command v a) (write_word o v a))
given_effect (WriteByte o v) a =
    step 0 (cond (eqb o 0x0F) (given_command (v * 256 + a.lines.low) (with_lines (lines_low 0 a.lines) a)) (write_byte o v a))

unfoldable pub given_access : Access → Adapter → Step
given_access x a = cond a.id.active (step (given_effect x a).value (settle (given_effect x a).adapter)) (step (ones x) a)

-- ---- the driver's calls take such accesses

unfoldable pub given_run : {A : Type 0} → Talk A → Adapter → Ran A
given_run (done x) a = record { answer = x; made = []; adapter = a }
given_run (ask x next) a = extended (x ∷ []) (given_run (next (given_access x a).value) (given_access x a).adapter)

abbrev pub given_opens : ℕ → ℕ → ℕ → Bench → Ran Opening
given_opens w₀ w₁ w₂ b = given_run (open_call true b.driver w₀ w₁ w₂) b.adapter

abbrev pub given_sends : List ℕ → Bench → Ran Sending
given_sends packet b = given_run (send_call true b.driver packet) b.adapter

abbrev pub given_serves : ℕ → Areas → Bench → Ran Serving
given_serves budget s b = given_run (service_call true (full s) b.driver budget) b.adapter

-- ---- events, and histories

unfoldable pub given_next : Event → Bench → Bench
given_next (Start first eight) b = next (Start first eight) b
given_next (Byte v) b = next (Byte v) b
given_next (End check alignment) b = next (End check alignment) b
given_next Sent b = next Sent b
given_next Collided b = next Collided b
given_next (Open w₀ w₁ w₂) b = record { adapter = (given_opens w₀ w₁ w₂ b).adapter; driver = (given_opens w₀ w₁ w₂ b).answer.driver }
given_next (Send packet) b = record { adapter = (given_sends packet b).adapter; driver = (given_sends packet b).answer.driver }
given_next (Service budget s) b = record { adapter = (given_serves budget s b).adapter; driver = (given_serves budget s b).answer.driver }

unfoldable pub given_said : Event → Bench → List Said
given_said (Start first eight) b = said (Start first eight) b
given_said (Byte v) b = said (Byte v) b
given_said (End check alignment) b = said (End check alignment) b
given_said Sent b = said Sent b
given_said Collided b = said Collided b
given_said (Open w₀ w₁ w₂) b = answered (open_paper (given_opens w₀ w₁ w₂ b).answer.answer) ∷ []
given_said (Send packet) b = answered (send_paper (given_sends packet b).answer.answer) ∷ []
given_said (Service budget s) b = serving s (given_serves budget s b) ∷ []

unfoldable pub given_before : Earlier → Bench → Bench
given_before (Host x) b = taken (permitted x b.adapter) (given_access x b.adapter).adapter b
given_before (IdWrite p small byte) b = before (IdWrite p small byte) b
given_before (IdRead p small bus) b = before (IdRead p small bus) b
given_before (Later e) b = given_next e b

unfoldable pub given_since : List Earlier → Bench → Bench
given_since [] b = b
given_since (h ∷ hs) b = given_since hs (given_before h b)
