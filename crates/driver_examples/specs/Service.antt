-- Service on an opened card: what each item costs, and each refusal. Assumes nothing.
use Rattle.std.specs.Prelude.{◌≡◌, [], ◌∷◌, true, false, ℕ, suc, ◌+◌, ◌≤◌, length, replicate, Result, Ok, Err}
use Rattle.refusal.specs.declared.Refusal.{Refusal}
use Rattle.refusal.specs.declared.Refusal.TheVariants.{StateUnsound, BudgetShort, AreaShort, CardUnfit, NeverOpened}
use Rattle.receive_rules.specs.Frame.{whole}
use Rattle.card_rules.specs.Adapter.{Adapter}
use Rattle.card_rules.specs.Update.{with_rx}
use Rattle.card_rules.specs.Access.{ReadWord, step, access}
use Rattle.card_rules.specs.Event.{success, collisions}
use Rattle.driver_rules.specs.declared.Driver.{Driver}
use Rattle.driver_rules.specs.Driver.{never_opened}
use Rattle.driver_rules.specs.Registers as status
use Rattle.driver_rules.specs.Talk.{Ran, run}
use Rattle.driver_rules.specs.declared.Item.{Item}
use Rattle.driver_rules.specs.declared.Item.TheVariants.{Reported, Status, Idle, Frame}
use Rattle.driver_rules.specs.Items.{Serving, words_in}
use Rattle.driver_rules.specs.Registers.{bad, length_in}
use Rattle.driver_rules.specs.Service.{look_talk}
use Rattle.driver_rules.specs.Send.{Sending, send_talk}
use Rattle.driver_rules.specs.Calls.{service_call}
use Rattle.driver_examples.specs.Ready.{on, ready, opened, frame}

-- a run answers x with n accesses
abbrev pub Answers : Result Item Refusal → ℕ → Ran Serving → Type 0
Answers x n R = (R.answer.answer ≡ x) × (length R.made ≡ n)

abbrev pub serve : ℕ → Adapter → Ran Serving
serve budget a = run (look_talk budget opened) a

-- a packet of 14 bytes is sent
abbrev pub sent : Ran Sending
sent = run (send_talk opened (replicate 14 0)) ready

abbrev pub report : ℕ → Adapter → Ran Serving
report budget a = run (look_talk budget sent.answer.driver) a

-- a whole frame of 1,514 bytes is stored
abbrev pub stored : Adapter
stored = with_rx (record { receiver = ready.rx.receiver; frames = record { bytes = replicate 1514 7; state = whole } ∷ [] }) ready

pub record ServiceExamples : Type 0 where
  -- nothing pending: Status and the acknowledgement
  pub nothing : Answers (Ok Idle) 2 (serve 65535 ready)
  pub nothing_short : Answers (Err BudgetShort) 1 (serve 1 ready)
  -- budget 0: 6 in 5's place
  pub no_budget : Answers (Err BudgetShort) 0 (serve 0 on)
  -- window 0
  pub unfit : Answers (Err CardUnfit) 1 (serve 65535 on)
  pub unopened : Answers (Err NeverOpened) 0 (run (service_call true true never_opened 65535) ready)
  pub tight : Answers (Err AreaShort) 0 (run (service_call true false opened 65535) ready)
  pub unsound : Answers (Err StateUnsound) 0 (run (service_call false true opened 65535) ready)
  -- 60 good bytes, and what is handed up
  pub good_60 : Answers (Ok (Frame 60)) 33 (serve 65535 (frame 52 true ready))
  pub handed_60 : (serve 65535 (frame 52 true ready)).answer.bytes ≡ replicate 60 0
  -- a budget one short of it: the frame is not begun
  pub short_60 : Answers (Err BudgetShort) 2 (serve 32 (frame 52 true ready))
  -- one damaged frame and idle
  pub damaged : Answers (Ok Idle) 5 (serve 65535 (frame 52 false ready))
  -- .. with less: the discard, the second look and the acknowledgement each need 1 left
  pub damaged_2 : Answers (Err BudgetShort) 2 (serve 2 (frame 52 false ready))
  pub damaged_3 : Answers (Err BudgetShort) 3 (serve 3 (frame 52 false ready))
  pub damaged_4 : Answers (Err BudgetShort) 4 (serve 4 (frame 52 false ready))
  -- a packet's success: Status, TX Status, the pop, TX Status
  pub reported : Answers (Ok (Reported 0 0xC0)) 4 (report 65535 (success sent.adapter))
  -- 16 collisions: TX Enable besides
  pub restarted : Answers (Ok (Reported 0 0xC8)) 5 (report 65535 (collisions sent.adapter))
  -- no packet unreported: the status alone
  pub status_alone_is : Answers (Ok (Status 0xC0)) 4 (serve 65535 (success sent.adapter))
  pub report_short : Answers (Err BudgetShort) 1 (report 4 (success sent.adapter))

-- 1,514 bytes, and what is handed up
pub record AFrameOf1514Bytes : Type 0 where
  pub good_1514 : Answers (Ok (Frame 1514)) 760 (serve 65535 stored)
  pub handed_1514 : (serve 65535 stored).answer.bytes ≡ replicate 1514 7

-- Any good frame costs Status, RX Status, its words and the discard.
pub record WhatAGoodFrameCosts : Type 0 where
  pub of_any :
      (left : ℕ) (d : Driver) (s s₁ s₂ : Adapter) (v rx : ℕ) → access (ReadWord 14) s ≡ step v s₁ → access (ReadWord 8) s₁ ≡ step rx s₂
      → status.unfit v ≡ false → status.tx_complete v ≡ false → status.rx_complete v ≡ true → bad rx ≡ false → words_in (length_in rx) + 1 ≤ left
      → length (run (look_talk (suc (suc left)) d) s).made ≡ words_in (length_in rx) + 3
  pub of_60 : words_in 60 + 3 ≡ 33
  pub of_1514 : words_in 1514 + 3 ≡ 760
