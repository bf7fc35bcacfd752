-- What `rx_status` tells, from its contract and the laws of the count; and the rules, one by one. Assumes nothing.
use Rattle.std.specs.Prelude.{Result, Ok, Err}
use mathlib.Core.Path.{◌≡◌, refl, sym, ap, ◌∙◌, subst}
use mathlib.Core.Logic.{◌⊎◌, inl, inr}
use mathlib.Core.Bool.{Bool, true, false, cond, ◌&&◌}
use mathlib.Core.List.{List, [], ◌∷◌}
use Prim.Native.Nat.{ℕ, zero, suc, ◌+◌, ◌%◌, ◌≤◌}
use native.Mathlib.Omega.{arith}
use lib.Dec.{leb}
use lib.IntN.{ℤ, pos}
use lib.Signed.{le_z_yes}
use lib.ListN.{length}
use Rattle.refusal.specs.declared.Refusal.{Refusal}
use Rattle.bits.proofs.Tests.{both, by_test, never}
use Rattle.store.specs.Store as store
use Rattle.refusal.specs.declared.Refusal.TheVariants.{StateUnsound, CardUnfit}
use Rattle.receive_rules.specs.Frame.{Frame, Rx}
use Rattle.receive_rules.specs.Reading as reading
use Rattle.receive_rules.specs.Reading.{marks, unread_in}
use Rattle.receive_rules.specs.Sound as side
use Rattle.receive_rules.specs.View as rx
use Rattle.receive_rules.proofs.Facts.{sound-told}
use Rattle.receive_rules.proofs.Count.{Between, encoded_is, beyond_is, few, count-between, count-told}
use Rattle.card_rules.specs.declared.Card.{Card}
use Rattle.card_rules.specs.declared.RxStatus.{RxStatus}
use Rattle.card_rules.specs.declared.After.{After as AfterCard}
use Rattle.card_rules.specs.Access.{ReadWord, access, effect}
use Rattle.card_rules.specs.Read.{window1, word_at}
use Rattle.card_rules.specs.View.{rx_size_of, view, sound_card}
use Rattle.card_rules.specs.RxStatus.{rx_word, rx_unread, rx_told}
use Rattle.card_rules.specs.Calls.{value, replying, judged, read_reply}
use Rattle.card_rules.specs.CardContracts as contract
use Rattle.driver_rules.specs.declared.Driver.{Driver}
use Rattle.driver_rules.specs.Registers.{status_port, rx_status, rx_discard, unfit, tx_complete, rx_complete, bad, length_in}
use Rattle.driver_rules.specs.Talk.{done, read_word, order}
use Rattle.driver_rules.specs.Items.{plain, report_talk, idle_talk, fetch_talk}
use Rattle.driver_rules.specs.Service.{look_talk, receive_talk, drop_talk}
use Rattle.driver_rules.proofs.Count.{bad_is, good-told}
use Rattle.fits.specs.Signed.{status_before, bad_before, look_before, receive_before, drop_before, Tells, UnreadBytesAreSigned}

-- ---- the answer of the public call

-- what an answer shows
told-word : Result RxStatus Refusal → ℕ
told-word (Ok x) = x.word
told-word (Err why) = 0

told-count : Result RxStatus Refusal → ℤ
told-count (Ok x) = x.unread
told-count (Err why) = pos 0

shows : Result RxStatus Refusal → Bool
shows (Ok x) = true
shows (Err why) = false

module _ (c : Card) (ram dir : List ℕ) where
  x : Rx
  x = rx.rx_of (rx_size_of c) c.receive ram dir

  -- the receive side of a sound card is sound
  side_sound : sound_card c ram dir ≡ true → side.sound (rx_size_of c) x ≡ true
  unfolding sound_card rx.sound_side x
  side_sound h =
      let used : ℕ = store.room_of (store.words (rx.rx_area (rx_size_of c)) c.receive.frames dir) in
      (both (leb c.receive.frames 768 && leb used (rx_size_of c)) (side.sound (rx_size_of c) x) (both (rx.sound_side (rx_size_of c) c.receive ram dir) _ h).0).1

  module _ (s : sound_card c ram dir ≡ true) where
    -- of an active card
    module _ (y : c.id.active ≡ true) where
      word_is : rx_word (view c ram dir) ≡ reading.rx_status x.receiver.read x.frames
      unfolding rx_word view x
      word_is = rw y

      count_is : rx_unread (view c ram dir) ≡ unread_in x.receiver.read x.frames
      unfolding rx_unread view x
      count_is = rw y

    -- .. and of one that is not
    asleep : c.id.active ≡ false → (rx_word (view c ram dir) ≡ 0xFFFF) × (rx_unread (view c ram dir) ≡ pos 0)
    unfolding rx_word rx_unread view
    asleep n = rw n (refl, refl)

    between : Between (rx_unread (view c ram dir))
    between =
        by_test c.id.active
        (λ y. subst Between (sym (count_is y)) (count-between (rx_size_of c) x (side_sound s)))
        (λ n. subst Between (sym (asleep n).1) (le_z_yes tt, le_z_yes tt))

    read_is : (c.id.active ≡ false) ⊎ (c.select.window ≡ 1) → (access (ReadWord 8) (view c ram dir)).value ≡ rx_word (view c ram dir)
    unfolding access effect word_at window1 rx_word view
    read_is (inl n) = rw n
    read_is (inr w) = by_test c.id.active (λ y. rw (y, w)) (λ n. rw n)

    answers : (c.id.active ≡ false) ⊎ (c.select.window ≡ 1) → (r : AfterCard ℕ) → contract.ReadsWord c ram dir 8 r → read_reply r.answer ≡ value (rx_word (view c ram dir))
    unfolding judged replying
    answers a r k = k.answer ∙ rw s (ap value (read_is a))

    tells : Tells c ram dir (rx_word (view c ram dir)) (rx_unread (view c ram dir))
    unfolding reading.rx_status window1 view x
    tells =
        record {
          least = between.0;
          most = between.1;
          decodes = λ y. rw (word_is y, count_is y) (count-told (rx_size_of c) x (side_sound s));
          register = λ y. word_is y;
          read = answers;
          inactive = asleep;
          empty = λ y e. (word_is y ∙ rw e, count_is y ∙ rw e);
        }

  told : (r : Result RxStatus Refusal) (w : ℕ) (n : ℤ) → contract.TellsRxStatus c ram dir r → r ≡ Ok (record { word = w; unread = n }) → Tells c ram dir w n
  unfolding rx_told told-word told-count shows
  told r w n k e =
      by_test (sound_card c ram dir)
      (λ s.
      let same : Ok (record { word = rx_word (view c ram dir); unread = rx_unread (view c ram dir) }) ≡ Ok (record { word = w; unread = n }) = sym (k ∙ rw s) ∙ e in
      subst (λ (v : ℕ). Tells c ram dir v n) (ap told-word same)
      (subst (λ (z : ℤ). Tells c ram dir (rx_word (view c ram dir)) z) (ap told-count same) (tells s)))
      (λ u. let same : Err StateUnsound ≡ Ok (record { word = w; unread = n }) = sym (k ∙ rw u) ∙ e in never (ap shows same))

-- ---- the rules

status-before : (r : ℕ) (fs : List Frame) → r ≤ reading.readable fs → reading.rx_status r fs ≡ status_before r fs
unfolding reading.rx_status
status-before r [] h = refl
status-before r (f ∷ fs) h = ap (λ (k : ℕ). marks f.state + k) (encoded_is (length f.bytes) r (omega (arith, few r f fs h)))

choice_before : (left : ℕ) (d : Driver) (rx : ℕ) → cond (bad rx) (drop_talk left d) (fetch_talk left d (length_in rx)) ≡ cond (bad_before rx) (drop_talk left d) (fetch_talk left d (rx % 2048))
choice_before left d rx =
    by_test (bad rx)
    (λ y. rw (y, sym (bad_is rx) ∙ y) refl)
    (λ n. rw (n, sym (bad_is rx) ∙ n) (ap (fetch_talk left d) (good-told rx n).same))

mutual
  unfolding look_talk look_before

  look-before : (n : ℕ) (d : Driver) → look_talk n d ≡ look_before n d
  look-before zero d = refl
  look-before (suc left) d = λ i. read_word status_port (λ status. cond (unfit status) (done (plain (Err CardUnfit) d)) (cond (tx_complete status) (report_talk left d) (cond (rx_complete status) (receive_before_lem left d i) (idle_talk left d))))

  receive_before_lem : (n : ℕ) (d : Driver) → receive_talk n d ≡ receive_before n d
  receive_before_lem zero d = refl
  receive_before_lem (suc left) d =
      (λ i. read_word rx_status (λ rx. choice_before left d rx i))
      ∙ (λ i. read_word rx_status (λ rx. cond (bad_before rx) (drop-before left d i) (fetch_talk left d (rx % 2048))))

  drop-before : (n : ℕ) (d : Driver) → drop_talk n d ≡ drop_before n d
  drop-before zero d = refl
  drop-before (suc left) d = ap (order rx_discard 0) (look-before left d)

pub signed : UnreadBytesAreSigned
signed =
    record {
      told = told;
      status = λ size x h. status-before x.receiver.read x.frames (sound-told size x h).0.read;
      failure = beyond_is;
      judgement = bad_is;
      size = λ rx b. (good-told rx b).same;
      service = look-before;
    }
