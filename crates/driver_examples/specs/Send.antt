-- Send on an opened card: the ticket, and each refusal. Assumes nothing.
use Rattle.std.specs.Prelude.{◌≡◌, [], ◌∷◌, true, false, ℕ, length, replicate, Result, Ok, Err}
use Rattle.refusal.specs.declared.Refusal.{Refusal}
use Rattle.refusal.specs.declared.Refusal.TheVariants.{StateUnsound, LengthOutside, SixteenUnreported, NoRoom, CardUnfit, NeverOpened}
use Rattle.store.specs.Store as store
use Rattle.transmit_rules.specs.Queue as queue
use Rattle.card_rules.specs.Adapter.{Adapter}
use Rattle.card_rules.specs.Update.{with_tx}
use Rattle.driver_rules.specs.declared.Driver.{Driver}
use Rattle.driver_rules.specs.Driver.{never_opened}
use Rattle.driver_rules.specs.Talk.{Ran, run}
use Rattle.driver_rules.specs.Send.{Sending, send_talk}
use Rattle.driver_rules.specs.Calls.{send_call}
use Rattle.driver_examples.specs.Ready.{on, ready, opened}

-- a run answers x with n accesses
abbrev pub Answers : Result ℕ Refusal → ℕ → Ran Sending → Type 0
Answers x n R = (R.answer.answer ≡ x) × (length R.made ≡ n)

-- n zero bytes
abbrev pub send : ℕ → Driver → Adapter → Ran Sending
send n d a = run (send_talk d (replicate n 0)) a

-- two packets of 1,514 bytes wait
abbrev pub packet : store.Frame
packet = record { head = 16; bytes = replicate 1514 0 }

abbrev pub waiting : Adapter
waiting = with_tx (record { queue = record { failed = false; packets = packet ∷ (packet ∷ []); part = queue.no_part }; reports = ready.tx.reports }) ready

pub record SendExamples : Type 0 where
  -- 14 bytes: two reads, the preamble and 8 words
  pub first_ticket : Answers (Ok 0) 12 (send 14 opened ready)
  -- the ticket is the count of earlier packets
  pub second_ticket : (send 14 (send 14 opened ready).answer.driver ready).answer.answer ≡ Ok 1
  pub unopened : Answers (Err NeverOpened) 0 (send 14 never_opened ready)
  pub small : Answers (Err LengthOutside) 0 (send 13 opened ready)
  pub large : Answers (Err LengthOutside) 0 (send 1515 opened ready)
  pub many : Answers (Err SixteenUnreported) 0 (send 14 (record { opened = true; sent = 20; unreported = 16; error = false }) ready)
  -- window 0
  pub unfit : Answers (Err CardUnfit) 1 (send 14 opened on)
  pub unsound : Answers (Err StateUnsound) 0 (run (send_call false opened (replicate 14 0)) ready)
  -- the two packets leave 32: 28 is taken and 29 refused 4
  pub taken_28 : (send 28 opened waiting).answer.answer ≡ Ok 0
  pub refused_29 : Answers (Err NoRoom) 2 (send 29 opened waiting)
