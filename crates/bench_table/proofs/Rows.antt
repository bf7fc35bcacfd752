-- The rows: short frames by computing, long ones by the laws of what the wire brings. Assumes nothing.
use mathlib.Core.Path.{◌≡◌, refl, ap, ap₂, ◌∙◌, subst}
use mathlib.Core.Bool.{Bool, true, false, ◌||◌}
use mathlib.Core.List.{List, [], ◌∷◌, ◌++◌, map}
use Prim.Native.Nat.{ℕ, ◌+◌, ◌≤◌}
use native.Mathlib.Omega.{arith}
use lib.IntN.{negsuc}
use lib.ListN.{length, replicate}
use lib.Dec.{lit≤}
use Rattle.port_rules.specs.Sequence.{id_byte, id_next}
use Rattle.port_rules.specs.Sound.{id_sound}
use Rattle.port_rules.proofs.Chain.{the_sequence_lem}
use Rattle.port_rules.specs.Search.{id_bytes}
use Rattle.found.proofs.Found.{costs_so}
use Rattle.port_rules.specs.declared.IdState.{IdState}
use Rattle.receive_rules.specs.Frame.{Frame, is_coming, overran, room}
use Rattle.receive_rules.specs.Wire as wire
use Rattle.receive_rules.specs.Wire.{passes, begins, marked, ending, ends, fresh}
use Rattle.receive_rules.specs.Reading as reading
use Rattle.receive_rules.specs.Count.{unread, encoded}
use Rattle.receive_rules.specs.Reading.{marks, complete, readable, oldest, data_word, after_read, without_oldest}
use Rattle.receive_rules.specs.Sound.{in_order, early_settled}
use Rattle.receive_rules.specs.Early.{early_flag, told_flag}
use Rattle.store.specs.Store.{at_newest}
use Rattle.transmit_rules.specs.Queue as queue
use Rattle.transmit_rules.specs.Queue.{Queue}
use Rattle.transmit_rules.specs.QueueSound.{all_sized}
use Rattle.transmit_rules.specs.Outcome.{some, enable, due}
use Rattle.card_rules.specs.declared.Select.{Select}
use Rattle.card_rules.specs.Room.{tx_size, rx_size}
use Rattle.card_rules.specs.Status.{status_of, interrupting}
use Rattle.card_rules.specs.Settle.{settle}
use Rattle.card_rules.specs.RxStatus.{rx_unread}
use Rattle.card_rules.specs.Sound.{select_sound}
use Rattle.card_rules.specs.Power.{power_on}
use Rattle.card_rules.specs.Command.{acknowledge, act, command, commanded}
use Rattle.card_rules.specs.Read.{window1, word_at, after_word}
use Rattle.card_rules.specs.Write.{covers_low, covers_high, write, write1, write2, write_word, write_byte}
use Rattle.card_rules.specs.Access.{ReadWord, Step, access, effect}
use Rattle.card_rules.specs.Event as card
use Rattle.card_rules.proofs.StepEnds.{awake}
use Rattle.driver_rules.specs.declared.Driver.{Driver}
use Rattle.driver_rules.specs.Talk as talk
use Rattle.driver_rules.specs.Talk.{run, read_words}
use Rattle.driver_rules.specs.Open.{open_talk}
use Rattle.driver_rules.specs.Items.{idle_talk, fetch_talk}
use Rattle.driver_rules.specs.Areas.{in_look, in_frame}
use Rattle.driver_rules.specs.Service.{look_talk}
use Rattle.driver_rules.specs.Calls.{open_call, service_call}
use Rattle.driver_rules.specs.Paper.{frame, idle}
use Rattle.runs.specs.Run.{Bench, sound_bench, Start, Byte, End, opens, serves, next, said, after}
use Rattle.runs.proofs.Kept.{after-sound}
use Rattle.runs.proofs.Append.{after-append}
use Rattle.sends_carried.specs.Rooms.{active}
use Rattle.sends_carried.proofs.Rooms.{rows}
use Rattle.frames_carried.specs.Bytes.{octets}
use Rattle.frames_carried.specs.Carried.{Waiting}
use Rattle.frames_carried.proofs.One.{one_handed_up}
use Rattle.bench_table.specs.Table.{opened, coming, ended, rx_status, unread_bytes, after_words, areas, papers, service, TheBenchTable}
use Rattle.bench_table.proofs.Wire.{Same, brought, same-brought, stores_brought}

-- ---- short frames, by computing

record Short : Type 0 where
  good_60 : rx_status (ended 60 true) ≡ 0x003C
  short_59 : rx_status (ended 59 true) ≡ 0x583B
  bad_check : rx_status (ended 60 false) ≡ 0x683C
  after_31 : rx_status (after_words 31 (ended 61 true)) ≡ 0x07FF
  after_32 : rx_status (after_words 32 (ended 61 true)) ≡ 0x07FD
  unread_31 : unread_bytes (after_words 31 (ended 61 true)) ≡ negsuc 0
  unread_32 : unread_bytes (after_words 32 (ended 61 true)) ≡ negsuc 2
  serves_60 : service (ended 60 true) ≡ frame 60 33 ∷ []
  serves_damaged : service (ended 60 false) ≡ idle 5 ∷ []

short : Short
unfolding opened active papers opens serves next said after open_call service_call run talk.after open_talk look_talk idle_talk fetch_talk read_words in_look in_frame access effect commanded command act acknowledge settle power_on write_word write_byte write write1 write2 covers_low covers_high interrupting early_flag told_flag due enable queue.free queue.room tx_size rx_size some complete word_at window1 after_word status_of card.wire_start card.wire_byte card.wire_end wire.wire_start wire.wire_byte wire.wire_end begins passes marked ending is_coming overran room at_newest rx_unread reading.rx_status marks readable oldest data_word after_read reading.discard without_oldest
short = record { good_60 = refl; short_59 = refl; bad_check = refl; after_31 = refl; after_32 = refl; unread_31 = refl; unread_32 = refl; serves_60 = refl; serves_damaged = refl }

-- ---- long frames

-- what RX Status shows of the only frame, unread
status-of : (x : Bench) (f : Frame) → x.adapter.id.active ≡ true → x.adapter.select.window ≡ 1 → x.adapter.rx.receiver.read ≡ 0 → x.adapter.rx.frames ≡ f ∷ [] →
    rx_status x ≡ marks f.state + encoded (unread (length f.bytes) 0)
unfolding effect word_at window1 reading.rx_status
status-of x f y w r e = ap (λ (t : Step). t.value) (awake (ReadWord 8) x.adapter y) ∙ rw (w, r, e)

-- what the driver's open left
record Ready : Type 0 where
  sound : sound_bench opened ≡ true
  driver : opened.driver.opened ≡ true
  on-card : opened.adapter.id.active ≡ true
  window : opened.adapter.select.window ≡ 1
  zero : opened.adapter.select.zero ≡ 254
  failed : opened.adapter.rx.receiver.failed ≡ false
  unspoilt : opened.adapter.tx.queue.failed ≡ false
  statuses : opened.adapter.tx.reports.statuses ≡ []
  read : opened.adapter.rx.receiver.read ≡ 0
  frames : opened.adapter.rx.frames ≡ []
  takes : card.taken (replicate 8 0) opened.adapter ≡ true
  on : opened.adapter.rx.receiver.on ≡ true
  wire : opened.adapter.rx.receiver.wire ≡ 0
  config : opened.adapter.config.second ≡ 0

ready : Ready
unfolding opened active opens next open_call run open_talk access effect commanded command act settle power_on write_word write_byte write write1 write2 covers_low covers_high interrupting early_flag told_flag due enable queue.free queue.room tx_size rx_size some complete passes room readable in_order early_settled all_sized id_sound select_sound
ready =
    record {
      sound = refl;
      driver = refl;
      on-card = refl;
      window = refl;
      zero = refl;
      failed = refl;
      unspoilt = refl;
      statuses = refl;
      read = refl;
      frames = refl;
      takes = refl;
      on = refl;
      wire = refl;
      config = refl;
    }

module _ (bs : List ℕ) (check : Bool) (few : 8 + length bs ≤ 1792) where
  abbrev came : Bench
  came = brought (replicate 8 0) (λ i. 8) bs check true opened

  comes : after ((Start (replicate 8 0) (λ i. 8) ∷ map Byte bs) ++ (End check true ∷ [])) opened ≡ came
  unfolding after
  comes = after-append (map Byte bs) (End check true ∷ []) (next (Start (replicate 8 0) (λ i. 8)) opened)

  abbrev kept : Same came opened
  kept = same-brought (replicate 8 0) (λ i. 8) bs check true opened

  holds : came.adapter.rx.frames ≡ ends check true (fresh (replicate 8 0 ++ bs)) ∷ []
  unfolding room rx_size
  holds =
      stores_brought (replicate 8 0) (λ i. 8) bs check true opened (rw ready.wire) ready.takes ready.on few (rw (ready.frames, ready.config) (omega arith))
      ∙ ap (λ (fs : List Frame). fs ++ (ends check true (fresh (replicate 8 0 ++ bs)) ∷ [])) ready.frames

  on-card : came.adapter.id.active ≡ true
  on-card = ap (λ (i : IdState). i.active) kept.id ∙ ready.on-card

  in_window_lem : came.adapter.select.window ≡ 1
  in_window_lem = ap (λ (s : Select). s.window) kept.select ∙ ready.window

  shown : rx_status came ≡ marks (ends check true (fresh (replicate 8 0 ++ bs))).state + encoded (unread (length (replicate 8 0 ++ bs)) 0)
  shown = status-of came (ends check true (fresh (replicate 8 0 ++ bs))) on-card in_window_lem (kept.read ∙ ready.read) holds

good_1514 : rx_status (ended 1514 true) ≡ 0x05EA
unfolding ending overran marks
good_1514 = ap rx_status (comes (replicate 1506 0) true (lit≤ tt)) ∙ shown (replicate 1506 0) true (lit≤ tt)

long_1515 : rx_status (ended 1515 true) ≡ 0x4DEB
unfolding ending overran marks
long_1515 = ap rx_status (comes (replicate 1507 0) true (lit≤ tt)) ∙ shown (replicate 1507 0) true (lit≤ tt)

-- a frame of 1,514 bytes waits, and is handed up
waits : Waiting (replicate 1514 0) [] 65535 areas (came (replicate 1506 0) true (lit≤ tt))
unfolding ending overran octets
waits =
    let k = kept (replicate 1506 0) true (lit≤ tt) in
    record {
      opened = ap (λ (d : Driver). d.opened) k.driver ∙ ready.driver;
      active = on-card (replicate 1506 0) true (lit≤ tt);
      window = in_window_lem (replicate 1506 0) true (lit≤ tt);
      hides_nothing = ap (λ (v : Select). v.zero) k.select ∙ ready.zero;
      no_failure = ap₂ ◌||◌ (k.failed ∙ ready.failed) (ap (λ (q : Queue). q.failed) k.queue ∙ ready.unspoilt);
      none_to_report = k.statuses ∙ ready.statuses;
      oldest = holds (replicate 1506 0) true (lit≤ tt);
      none_read = k.read ∙ ready.read;
      octets = refl;
      long = lit≤ tt;
      short = lit≤ tt;
      areas = refl;
      enough = lit≤ tt;
    }

serves_1514 : service (ended 1514 true) ≡ frame 1514 760 ∷ []
unfolding papers
serves_1514 =
    let x = came (replicate 1506 0) true (lit≤ tt) in
    let e = comes (replicate 1506 0) true (lit≤ tt) in
    let s : sound_bench x ≡ true = subst (λ (b : Bench). sound_bench b ≡ true) e (after-sound (coming 1514 ++ (End true true ∷ [])) opened ready.sound) in
    ap service e ∙ ap papers (one_handed_up x s (replicate 1514 0) [] 65535 areas waits).answer

pub table : TheBenchTable
unfolding id_bytes id_byte id_next opened tx_size
table =
    record {
      starts = refl;
      ends = the_sequence_lem.ends;
      tx_free_is = rows (replicate 64 0) 0 0 0 0 refl;
      good_60 = short.good_60;
      good_1514 = good_1514;
      short_59 = short.short_59;
      long_1515 = long_1515;
      bad_check = short.bad_check;
      after_31 = short.after_31;
      after_32 = short.after_32;
      unread_31 = short.unread_31;
      unread_32 = short.unread_32;
      serves_60 = short.serves_60;
      serves_1514 = serves_1514;
      serves_damaged = short.serves_damaged;
      search = costs_so;
    }
