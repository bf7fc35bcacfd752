-- Every access and event on a sound adapter keeps what settle needs. Assumes nothing.
use mathlib.Core.Path.{◌≡◌, refl, sym, ap, ◌∙◌}
use mathlib.Core.Bool.{Bool, true, false, not, ◌&&◌}
use mathlib.Core.List.{List, [], ◌∷◌}
use Prim.Native.Nat.{ℕ, zero, suc, ◌+◌, ◌*◌, ◌-◌, ◌/◌, ◌%◌, ◌≤◌, ◌<◌}
use native.Mathlib.Omega.{arith}
use borrow.Author.Tests.{le-leb}
use lib.Dec.{ltb, leb, eqb}
use lib.ListN.{length}
use Rattle.bits.proofs.Tests.{both, join, of_cond, of_test, by_test, never}
use Rattle.bits.specs.Bits.{has}
use Rattle.store.specs.Store as store
use Rattle.port_rules.specs.declared.IdState.{IdState}
use Rattle.port_rules.specs.Sound.{id_sound}
use Rattle.receive_rules.specs.Frame.{Frame}
use Rattle.receive_rules.specs.Sound as rxs
use Rattle.receive_rules.specs.Wire as wire
use Rattle.receive_rules.specs.Reading.{deafened, after_read}
use Rattle.receive_rules.proofs.Facts.{sound-kept}
use Rattle.receive_rules.proofs.Keeps as rxk
use Rattle.transmit_rules.specs.Queue.{Queue, room}
use Rattle.transmit_rules.specs.QueueSound.{all_sized, growing, orderly}
use Rattle.transmit_rules.specs.Outcome.{pop}
use Rattle.transmit_rules.proofs.OutcomesKeeps.{pop-keeps}
use Rattle.transmit_rules.specs.Tx as txs
use Rattle.transmit_rules.specs.Tx.{write_data}
use Rattle.transmit_rules.proofs.Keeps as txk
use Rattle.card_rules.specs.declared.Prom.{Prom}
use Rattle.card_rules.specs.Adapter.{Adapter}
use Rattle.card_rules.specs.Update.{with_id, with_config, with_lines, with_rx, with_tx, lines_low, config_second, id_due}
use Rattle.card_rules.specs.Room.{rx_room, tx_room}
use Rattle.card_rules.specs.Power.{power_on}
use Rattle.card_rules.specs.Sound.{select_sound, kept, sound}
use Rattle.card_rules.proofs.Sides.{rx_of_lem, tx_of_lem, registers_of, kept_by, kept_of, rx-kept, tx-kept, identified, idle}
use Rattle.card_rules.specs.declared.Setup.{Setup}
use Rattle.card_rules.specs.Eeprom.{if_enabled, leaving, write_word, erase_word, whole, prom_command, write_all, erase_all}
use Rattle.card_rules.specs.Event.{seated}
use Rattle.card_rules.proofs.CommandKeeps.{Keeping, wire-small, rx_changed, tx_changed, id-kept, reset-keeps, power_on_kept, commanded-keeps, reported-keeps}
use Rattle.card_rules.specs.declared.Lanes.{Lanes}
use Rattle.card_rules.specs.declared.Lanes.TheVariants.{Both, Low, High}
use Rattle.card_rules.specs.Write as writes
use Rattle.card_rules.specs.Write.{covers_low, covers_high, controlled, eeprom, write0, write1, write2, write3, in_use, resplit, write}

-- ---- the EEPROM commands leave the ID state's standing alone

record Standing (i : IdState) (t : Setup) : Type 0 where
  sound : id_sound t.id ≡ id_sound i
  due : t.id.due ≡ i.due

-- a state with other words, or another data register
stays : (v : ℕ) (w : Bool) (b : Bool) (i j : IdState) → id_sound j ≡ id_sound i → j.due ≡ i.due → Standing i (leaving v w (if_enabled b j i))
stays v w true i j e d = record { sound = e; due = d }
stays v w false i j e d = record { sound = refl; due = refl }

whole-stands : (v : ℕ) (i : IdState) (p : Prom) → Standing i (whole v i p)
unfolding whole id_sound
whole-stands v i p =
    of_cond (Standing i) (eqb (v % 64 / 16) 3) (record { sound = refl; due = refl })
    (of_cond (Standing i) (eqb (v % 64 / 16) 2) (stays v false p.writable i (erase_all i) refl refl)
    (of_cond (Standing i) (eqb (v % 64 / 16) 1) (stays v false p.writable i (write_all i) refl refl)
    (record { sound = refl; due = refl })))

prom-stands : (v : ℕ) (i : IdState) (p : Prom) → Standing i (prom_command v i p)
unfolding prom_command id_sound
prom-stands v i p =
    of_cond (Standing i) (eqb (v / 64) 2) (record { sound = refl; due = refl })
    (of_cond (Standing i) (eqb (v / 64) 1) (stays v false p.writable i (write_word (v % 64) i) refl refl)
    (of_cond (Standing i) (eqb (v / 64) 3) (stays v false p.writable i (erase_word (v % 64) i) refl refl)
    (whole-stands v i p)))

-- ---- a split that changes: both FIFOs are empty

unused : (fs : List Frame) (ps : List store.Frame) (n : ℕ) → in_use fs ps n ≡ false → (fs ≡ []) × (ps ≡ []) × (n ≡ 0)
unfolding in_use
unused [] [] zero e = (refl, refl, refl)
unused [] [] (suc n) e = never (sym e)
unused [] (p ∷ ps) n e = never (sym e)
unused (f ∷ fs) ps n e = never (sym e)

-- an empty FIFO is orderly in every size
orderly-any : (size other : ℕ) (q : Queue) → q.packets ≡ [] → q.part.words ≡ 0 → orderly size q ≡ true → orderly other q ≡ true
unfolding room
orderly-any size other q e w h =
    let need : ℕ = room q.packets + 2 * q.part.words in
    let p = both (leb need size && all_sized q.packets) (growing q.part) h in
    let r = both (leb need size) (all_sized q.packets) p.0 in
    let f : need ≤ other = rw (e, w) (omega arith) in
    join (leb need other && all_sized q.packets) (growing q.part) (join (leb need other) (all_sized q.packets) (le-leb need other f) r.1) p.1

module _ (a : Adapter) (s : sound a ≡ true) where
  same : Keeping a
  same = record { is = kept_of a s }

  -- ---- window 0

  controlled-keeps : (v : ℕ) → Keeping (controlled v a)
  unfolding controlled
  controlled-keeps v = of_cond Keeping (has 4 v) (record { is = reset-keeps a s }) (record { is = kept_of a s })

  eeprom-keeps : (v : ℕ) → Keeping (eeprom v a)
  eeprom-keeps v =
      let t = prom-stands v a.id a.prom in
      record { is = id-kept a s (prom_command v a.id a.prom).id (t.sound ∙ identified a s) (ap not t.due ∙ idle a s) }

  write0-keeps : (l : Lanes) (o v : ℕ) → Keeping (write0 l o v a)
  unfolding write0 id_sound
  write0-keeps l o v =
      of_cond Keeping (eqb o 0x04) (of_cond Keeping (covers_low l) (controlled-keeps (v % 256)) same)
      (of_cond Keeping (eqb o 0x06) (record { is = kept_of a s })
      (of_cond Keeping (eqb o 0x08) (record { is = kept_of a s })
      (of_cond Keeping (eqb o 0x0A) (of_cond Keeping (covers_low l) (eeprom-keeps (v % 256)) same)
      (of_cond Keeping (eqb o 0x0C) (record { is = kept_of a s }) same))))

  -- ---- window 1

  write1-keeps : (l : Lanes) (o v : ℕ) → Keeping (write1 l o v a)
  unfolding write1
  write1-keeps l o v =
      of_cond Keeping (ltb o 0x04)
      (record { is = tx_changed a s (write_data (tx_room a) v a.tx) (txk.write_kept (tx_room a) v a.tx (txk.sound-kept (tx_room a) a.tx (tx_of_lem a s))) })
      (of_cond Keeping (eqb o 0x0A) (of_cond Keeping (covers_high l) (record { is = reported-keeps a s pop pop-keeps }) same) same)

  -- ---- windows 2 and 3

  write2-keeps : (l : Lanes) (o v : ℕ) → Keeping (write2 l o v a)
  unfolding write2
  write2-keeps l o v = of_cond Keeping (ltb o 0x06) (record { is = kept_of a s }) same

  split-keeps : (v : ℕ) → Keeping (resplit v a)
  unfolding resplit
  split-keeps v =
      let used : Bool = in_use a.rx.frames a.tx.queue.packets a.tx.queue.part.words in
      by_test used
      (λ y.
      let e : (v / 4 * 4 + a.config.second % 4) % 4 ≡ a.config.second % 4 = omega arith in
      record { is = rw (y, e) (kept_of a s) })
      (λ n.
      let u = unused a.rx.frames a.tx.queue.packets a.tx.queue.part.words n in
      let b : Adapter = with_config (config_second v a.config) a in
      let rx : rxs.kept (rx_room b) a.rx ≡ true = sound-kept (rx_room b) a.rx (rxk.empty_resized (rx_room a) (rx_room b) a.rx u.0 (rx_of_lem a s)) in
      let t = txk.sound-kept (tx_room a) a.tx (tx_of_lem a s) in
      let tx : txs.kept (tx_room b) a.tx ≡ true =
      txk.kept_of (tx_room b) a.tx (orderly-any (tx_room a) (tx_room b) a.tx.queue u.1 u.2 (txk.kept-orderly (tx_room a) a.tx t)) (txk.kept-filled (tx_room a) a.tx t) in
      record { is = rw n (kept_by b rx tx (registers_of a s)) })

  write3-keeps : (l : Lanes) (o v : ℕ) → Keeping (write3 l o v a)
  unfolding write3
  write3-keeps l o v =
      of_cond Keeping (eqb o 0x00) (record { is = kept_of a s }) (of_cond Keeping (eqb o 0x02) (split-keeps (writes.mixed l v a.config.second)) same)

  -- ---- all windows

  pub write_keeps : (l : Lanes) (o v : ℕ) → Keeping (write l o v a)
  unfolding write
  write_keeps l o v =
      of_cond Keeping (eqb a.select.window 0) (write0-keeps l o v)
      (of_cond Keeping (eqb a.select.window 1) (write1-keeps l o v)
      (of_cond Keeping (eqb a.select.window 2) (write2-keeps l o v)
      (of_cond Keeping (eqb a.select.window 3) (write3-keeps l o v) same)))

  pub word_keeps : (o v : ℕ) → Keeping (writes.write_word o v a)
  unfolding writes.write_word
  word_keeps o v = of_cond Keeping (eqb o 0x0E) (commanded-keeps a s v) (write_keeps Both o v)

  -- a data read
  pub taken-keeps : Keeping (with_rx (after_read a.rx) a)
  taken-keeps = record { is = rx_changed a s (after_read a.rx) (rxk.read_kept (rx_room a) a.rx (rx_of_lem a s)) }

-- the held low byte of a command is no part of soundness
low_sound : (a : Adapter) (v : ℕ) → sound a ≡ true → sound (with_lines (lines_low v a.lines) a) ≡ true
low_sound a v s = s

-- a card that was reset, with an ID state that is sound
id-seated : (i : IdState) → id_sound i ≡ true → (wire : ℕ) → wire < 2 → kept (with_id (id_due false i) (power_on i.words wire)) ≡ true
unfolding id_sound select_sound power_on
id-seated i h wire w =
    let b = power_on i.words wire in
    let p = power_on_kept i.words wire w in
    kept_by (with_id (id_due false i) b) (rx-kept b p) (tx-kept b p) (rw h)

module _ (a : Adapter) (s : sound a ≡ true) where
  pub byte-keeps : (o v : ℕ) → Keeping (writes.write_byte o v a)
  unfolding writes.write_byte
  byte-keeps o v =
      of_cond Keeping (eqb o 0x0E) (record { is = kept_of a s })
      (of_cond Keeping (eqb o 0x0F) (commanded-keeps (with_lines (lines_low 0 a.lines) a) (low_sound a 0 s) (v * 256 + a.lines.low))
      (of_cond Keeping (eqb (o % 2) 0) (write_keeps a s Low o v) (write_keeps a s High (o - 1) v)))

  -- ---- the wire, the outcomes, a seated ID state

  pub start-keeps : (taken : Bool) (first : List ℕ) → length first ≡ 8 → a.rx.receiver.wire ≡ 0 → Keeping (with_rx (wire.wire_start (rx_room a) taken first a.rx) a)
  start-keeps taken first l w = record { is = rx_changed a s (wire.wire_start (rx_room a) taken first a.rx) (rxk.start-kept (rx_room a) a.rx (rx_of_lem a s) taken first l w) }

  pub wire-byte-keeps : (b : ℕ) → Keeping (with_rx (wire.wire_byte (rx_room a) b a.rx) a)
  wire-byte-keeps b = record { is = rx_changed a s (wire.wire_byte (rx_room a) b a.rx) (rxk.byte-kept (rx_room a) a.rx (rx_of_lem a s) b) }

  pub end-keeps : (check alignment : Bool) → Keeping (with_rx (wire.wire_end check alignment a.rx) a)
  end-keeps check alignment = record { is = rx_changed a s (wire.wire_end check alignment a.rx) (rxk.end_kept (rx_room a) a.rx (rx_of_lem a s) check alignment) }

  pub success-keeps : Keeping (with_tx (txs.success a.tx) a)
  success-keeps = record { is = tx_changed a s (txs.success a.tx) (txk.success-kept (tx_room a) a.tx (txk.sound-kept (tx_room a) a.tx (tx_of_lem a s))) }

  pub collisions-keeps : Keeping (with_tx (txs.collisions a.tx) a)
  collisions-keeps = record { is = tx_changed a s (txs.collisions a.tx) (txk.collisions-kept (tx_room a) a.tx (txk.sound-kept (tx_room a) a.tx (tx_of_lem a s))) }

  -- an ID state that is sound, seated where no reset is due; and where one is
  pub seat-keeps : (i : IdState) → id_sound i ≡ true → Keeping (seated i a)
  unfolding seated
  seat-keeps i h =
      of_test Keeping i.due (λ y. record { is = id-seated i h (deafened a.rx.receiver.wire) (rxk.deafened-quiet a.rx.receiver.wire (wire-small a s)) })
      (λ n. record { is = id-kept a s i h (ap not n) })
