-- Reads of the data port give the oldest frame's bytes in order, and RX Discard then drops it. Assumes nothing.
use mathlib.Core.Path.{◌≡◌, refl, ap, subst⁻¹, ◌∙◌}
use mathlib.Core.Bool.{Bool, true, false, cond}
use mathlib.Core.List.{List, [], ◌∷◌}
use Prim.Native.Nat.{ℕ, zero, suc, ◌+◌, ◌*◌, ◌/◌, ◌%◌, ◌≤◌}
use native.Mathlib.Nat.{add-zero}
use native.Mathlib.Omega.{arith}
use lib.ListN.{length, get_or, take, drop}
use lib.Seq.{get_or-drop, drop-drop}
use lib.Dec.{eqb}
use Rattle.store.specs.Store.{round4}
use Rattle.receive_rules.specs.Frame.{Frame, Rx, is_coming}
use Rattle.receive_rules.specs.Update.{with_read, with_receiver}
use Rattle.receive_rules.specs.Reading as reading
use Rattle.receive_rules.specs.Reading.{readable, oldest, data_word, after_read, without_oldest}
use Rattle.receive_rules.proofs.Whole.{word_read, read_moves}
use Rattle.card_rules.specs.Adapter.{Adapter}
use Rattle.card_rules.specs.Update.{with_rx}
use Rattle.card_rules.specs.Settle.{settle}
use Rattle.card_rules.specs.Command.{command, commanded}
use Rattle.card_rules.specs.Read.{window0, window1, window2, window3, window5, word_at, after_word}
use Rattle.card_rules.specs.Write.{write_word}
use Rattle.card_rules.specs.Access.{ReadWord, WriteWord, Step, step, effect, access}
use Rattle.card_rules.proofs.StepEnds.{awake}
use Rattle.driver_rules.specs.Talk as talk
use Rattle.driver_rules.specs.Talk.{after_reads, bytes_read}
use Rattle.frames_carried.specs.Bytes.{octets}
use Rattle.frames_carried.proofs.Good.{octet_at}

-- ---- the accesses, on an active card in window 1

module _ (a : Adapter) (active : a.id.active ≡ true) (window : a.select.window ≡ 1) where
  pub data_access : access (ReadWord 0) a ≡ step (data_word a.rx) (settle (with_rx (after_read a.rx) a))
  unfolding effect word_at window1 after_word
  data_access =
      awake (ReadWord 0) a active
      ∙ ap (λ (n : ℕ). step
      (cond (eqb n 0) (window0 0 a) (cond (eqb n 1) (data_word a.rx) (cond (eqb n 2) (window2 0 a) (cond (eqb n 3) (window3 0 a) (cond (eqb n 5) (window5 0 a) 0)))))
      (settle (cond (eqb n 1) (with_rx (after_read a.rx) a) a))) window

  pub status-access : access (ReadWord 8) a ≡ step (reading.rx_status a.rx.receiver.read a.rx.frames) (settle a)
  unfolding effect word_at window1 after_word
  status-access =
      awake (ReadWord 8) a active
      ∙ ap (λ (n : ℕ). step
      (cond (eqb n 0) (window0 8 a) (cond (eqb n 1) (reading.rx_status a.rx.receiver.read a.rx.frames) (cond (eqb n 2) (window2 8 a) (cond (eqb n 3) (window3 8 a) (cond (eqb n 5) (window5 8 a) 0)))))
      (settle a)) window

  pub discard-access : (f : Frame) (fs : List Frame) → a.rx.receiver.failed ≡ false → a.rx.frames ≡ f ∷ fs
      → access (WriteWord 14 16384) a ≡ step 0 (settle (with_rx (without_oldest a.rx (f ∷ fs)) a))
  unfolding effect write_word commanded command reading.discard
  discard-access f fs good e =
      awake (WriteWord 14 16384) a active
      ∙ ap (λ (n : ℕ). step 0 (settle (cond (eqb n 0) a (with_rx (reading.discard a.rx) a)))) window
      ∙ ap (λ (b : Bool). step 0 (settle (with_rx (cond b a.rx (without_oldest a.rx a.rx.frames)) a))) good
      ∙ ap (λ (l : List Frame). step 0 (settle (with_rx (without_oldest a.rx l) a))) e

-- ---- the oldest frame is f, ended, and i of its bytes are read

pub record At (f : Frame) (fs : List Frame) (o : Adapter) (i : ℕ) (a : Adapter) : Type 0 where
  pub frames : a.rx.frames ≡ f ∷ fs
  pub failed : a.rx.receiver.failed ≡ false
  pub read : a.rx.receiver.read ≡ i
  pub active : a.id.active ≡ true
  pub window : a.select.window ≡ 1
  pub wire : a.rx.receiver.wire ≡ o.rx.receiver.wire
  pub split : a.config.second ≡ o.config.second

pub record Read (f : Frame) (fs : List Frame) (o : Adapter) (i : ℕ) (s : Step) : Type 0 where
  pub value : s.value ≡ get_or f.bytes i 0 + 256 * get_or f.bytes (i + 1) 0
  pub at : At f fs o (i + 2) s.adapter

-- two bytes more
at_read : (f : Frame) (fs : List Frame) (o : Adapter) (i : ℕ) (a : Adapter) → At f fs o i a → is_coming f.state ≡ false → i + 2 ≤ round4 (length f.bytes)
    → Read f fs o i (access (ReadWord 0) a)
unfolding readable oldest settle
at_read f fs o i a h over fits =
    let all : readable a.rx.frames ≡ round4 (length f.bytes) = rw (h.frames, over) in
    let own : oldest a.rx.frames ≡ f.bytes = rw h.frames in
    let two : a.rx.receiver.read + 2 ≤ readable a.rx.frames = rw (all, h.read) fits in
    let x : Rx = with_receiver (with_read (a.rx.receiver.read + 2) a.rx.receiver) a.rx in
    let e : access (ReadWord 0) a ≡ step (data_word a.rx) (settle (with_rx x a)) =
    data_access a h.active h.window ∙ ap (λ (y : Rx). step (data_word a.rx) (settle (with_rx y a))) (read_moves a.rx h.failed two) in
    subst⁻¹ (Read f fs o i) e
    (record {
      value = word_read a.rx h.failed two ∙ rw (own, h.read);
      at = record { frames = h.frames; failed = h.failed; read = ap (λ (n : ℕ). n + 2) h.read; active = h.active; window = h.window; wire = h.wire; split = h.split };
    })

-- w words of some bytes, two bytes each; the pad is 0
unfoldable pub pairs : ℕ → List ℕ → List ℕ
pairs zero bs = []
pairs (suc w) bs = get_or bs 0 0 ∷ (get_or bs 1 0 ∷ pairs w (drop 2 bs))

-- the words of n bytes begin with them
pub take_pairs : (bs : List ℕ) → take (length bs) (pairs ((length bs + 1) / 2) bs) ≡ bs
unfolding pairs
take_pairs [] = refl
take_pairs (x ∷ []) = refl
take_pairs (x ∷ y ∷ bs) =
    let e : (length (x ∷ (y ∷ bs)) + 1) / 2 ≡ suc ((length bs + 1) / 2) = omega arith in
    rw e (ap (λ (l : List ℕ). x ∷ (y ∷ l)) (take_pairs bs))

pub record Reads (f : Frame) (fs : List Frame) (o : Adapter) (i w : ℕ) (a : Adapter) : Type 0 where
  pub bytes : bytes_read w a ≡ pairs w (drop i f.bytes)
  pub at : At f fs o (i + 2 * w) (after_reads w a)

pub reads : (w : ℕ) (f : Frame) (fs : List Frame) (o : Adapter) (i : ℕ) (a : Adapter) → At f fs o i a → is_coming f.state ≡ false → octets f.bytes ≡ true
    → i + 2 * w ≤ round4 (length f.bytes) → Reads f fs o i w a
unfolding bytes_read talk.after pairs
reads zero f fs o i a h over small fits =
    let e : i + 2 * 0 ≡ i = omega arith in
    record { bytes = refl; at = subst⁻¹ (λ (n : ℕ). At f fs o n a) e h }
reads (suc w) f fs o i a h over small fits =
    let r = at_read f fs o i a h over (omega arith) in
    let q = reads w f fs o (i + 2) (access (ReadWord 0) a).adapter r.at over small (omega arith) in
    let e : i + 2 * suc w ≡ i + 2 + 2 * w = omega arith in
    let low : (access (ReadWord 0) a).value % 256 ≡ get_or f.bytes i 0 = rw r.value (omega (arith, octet_at f.bytes i small)) in
    let high : (access (ReadWord 0) a).value / 256 ≡ get_or f.bytes (i + 1) 0 = rw r.value (omega (arith, octet_at f.bytes i small)) in
    record {
      bytes = rw (low, high, get_or-drop i f.bytes 0 0, get_or-drop i f.bytes 1 0, add-zero, drop-drop 2 i f.bytes, q.bytes);
      at = subst⁻¹ (λ (n : ℕ). At f fs o n (after_reads w (access (ReadWord 0) a).adapter)) e q.at;
    }
