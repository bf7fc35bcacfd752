-- The contract of each public call, by its name. Assumes nothing.
use Rattle.std.specs.Prelude.{◌≡◌, Bool, true, List, ℕ, length, Result, ⊤}
use Rattle.refusal.specs.declared.Refusal.{Refusal}
use Rattle.port_rules.specs.declared.IdState.{IdState}
use Rattle.port_rules.specs.Sound.{id_sound}
use Rattle.transmit_rules.specs.Leave.{told_of}
use Rattle.transmit_rules.specs.Tx.{ready}
use Rattle.card_rules.specs.declared.Card.{Card}
use Rattle.card_rules.specs.Power.{power_on}
use Rattle.card_rules.specs.View.{view, Stands, sound_card}
use Rattle.card_rules.specs.Access.{access, ReadWord, ReadByte, WriteWord, WriteByte}
use Rattle.card_rules.specs.Event as event
use Rattle.card_rules.specs.declared.After.{After}
use Rattle.card_rules.specs.declared.RxStatus.{RxStatus}
use Rattle.card_rules.specs.Line.{interrupt_line}
use Rattle.card_rules.specs.RxStatus.{rx_told}
use Rattle.card_rules.specs.Calls.{value, done, replying, read_reply, done_reply, told_reply, judged, is_word, is_byte, on_wire, off_wire, Call, Area}

abbrev pub PowerOn : List ℕ → Card → Type 0
PowerOn words r = (ram dir : List ℕ) → length ram ≡ 8192 → length dir ≡ 1110 → Stands r ram dir (power_on words 0)

-- the card c with the memory ram and dir is handed in
module _ (c : Card) (ram dir : List ℕ) where
  abbrev pub ReadsWord : ℕ → After ℕ → Type 0
  ReadsWord o r =
      Call (judged (sound_card c ram dir) (is_word o) 12) (read_reply r.answer) (value (access (ReadWord o) (view c ram dir)).value)
      c r.card ram dir ram dir (access (ReadWord o) (view c ram dir)).adapter

  abbrev pub ReadsByte : ℕ → After ℕ → Type 0
  ReadsByte o r =
      Call (judged (sound_card c ram dir) (is_byte c.select.window o) 12) (read_reply r.answer) (value (access (ReadByte o) (view c ram dir)).value)
      c r.card ram dir ram dir (access (ReadByte o) (view c ram dir)).adapter

  abbrev pub WritesWord : ℕ → ℕ → After ⊤ → List ℕ → List ℕ → Type 0
  WritesWord o v r ram' dir' =
      Call (judged (sound_card c ram dir) (is_word o) 12) (done_reply r.answer) done
      c r.card ram dir ram' dir' (access (WriteWord o v) (view c ram dir)).adapter

  abbrev pub WritesByte : ℕ → ℕ → After ⊤ → List ℕ → List ℕ → Type 0
  WritesByte o v r ram' dir' =
      Call (judged (sound_card c ram dir) (is_byte c.select.window o) 12) (done_reply r.answer) done
      c r.card ram dir ram' dir' (access (WriteByte o v) (view c ram dir)).adapter

  abbrev pub WireStart : List ℕ → After ⊤ → List ℕ → List ℕ → Type 0
  WireStart first r ram' dir' =
      Call (judged (sound_card c ram dir) (off_wire c.receive.receiver.wire) 11) (done_reply r.answer) done
      c r.card ram dir ram' dir' (event.wire_start first (view c ram dir))

  abbrev pub WireByte : ℕ → After ⊤ → List ℕ → List ℕ → Type 0
  WireByte b r ram' dir' =
      Call (judged (sound_card c ram dir) (on_wire c.receive.receiver.wire) 11) (done_reply r.answer) done
      c r.card ram dir ram' dir' (event.wire_byte b (view c ram dir))

  abbrev pub WireEnd : Bool → Bool → After ⊤ → List ℕ → List ℕ → Type 0
  WireEnd check alignment r ram' dir' =
      Call (judged (sound_card c ram dir) (on_wire c.receive.receiver.wire) 11) (done_reply r.answer) done
      c r.card ram dir ram' dir' (event.wire_end check alignment (view c ram dir))

  abbrev pub Success : After ℕ → List ℕ → List ℕ → Type 0
  Success r ram' dir' =
      Call (judged (sound_card c ram dir) (ready (view c ram dir).tx) 11) (told_reply r.answer) (value (length (told_of (view c ram dir).tx.queue.packets)))
      c r.card ram dir ram' dir' (event.success (view c ram dir))

  -- .. and of the area that it tells the wire's bytes in
  abbrev pub SuccessArea : List ℕ → List ℕ → Type 0
  SuccessArea out out' = Area (judged (sound_card c ram dir) (ready (view c ram dir).tx) 11) (told_of (view c ram dir).tx.queue.packets) out out'

  abbrev pub Collisions : After ⊤ → List ℕ → List ℕ → Type 0
  Collisions r ram' dir' =
      Call (judged (sound_card c ram dir) (ready (view c ram dir).tx) 11) (done_reply r.answer) done
      c r.card ram dir ram' dir' (event.collisions (view c ram dir))

  abbrev pub Seat : IdState → After ⊤ → Type 0
  Seat i r =
      Call (judged (sound_card c ram dir) (id_sound i) 1) (done_reply r.answer) done
      c r.card ram dir ram dir (event.seat i (view c ram dir))

  -- The interrupt line that the card drives; it is handed back as it came, since nothing of it is lent to be changed.
  abbrev pub InterruptLine : Result ℕ Refusal → Type 0
  InterruptLine r = read_reply r ≡ replying (judged (sound_card c ram dir) true 1) (value (interrupt_line (view c ram dir)))

  -- RX Status and the unread bytes; nothing of the card is lent to be changed.
  abbrev pub TellsRxStatus : Result RxStatus Refusal → Type 0
  TellsRxStatus r = r ≡ rx_told (sound_card c ram dir) (view c ram dir)
