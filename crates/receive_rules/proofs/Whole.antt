-- A start that is taken and each byte that fits are stored; a word that may be read is read. Assumes nothing.
use mathlib.Core.Path.{◌≡◌, refl, ap, ◌∙◌}
use mathlib.Core.Bool.{true, false}
use mathlib.Core.List.{List, [], ◌∷◌, ◌++◌}
use Prim.Native.Nat.{ℕ, ◌+◌, ◌*◌, ◌≤◌, ◌<◌}
use borrow.Author.Tests.{le-leb, lt-leb, le-ltb, eq-eqb}
use lib.ListN.{length, get_or, length-append}
use Rattle.store.specs.Store.{at_newest, round4}
use Rattle.store.proofs.Laws.{at_snoc}
use Rattle.receive_rules.specs.Frame.{Frame, Rx, overran, room}
use Rattle.receive_rules.specs.Update.{with_read, with_receiver}
use Rattle.receive_rules.specs.Reading.{readable, oldest, data_word, after_read}
use Rattle.receive_rules.specs.Wire.{fresh, begins, wire_start, longer, fits, takes, wire_byte}
use Rattle.receive_rules.specs.Early.{settle_early}
use Rattle.receive_rules.proofs.Count.{beyond_is}
use Rattle.receive_rules.proofs.Laws.{room_snoc}
use Rattle.receive_rules.proofs.Taking.{takes-longer}

-- ---- the wire

-- the wire stores a frame, which has these bytes and is not overrun, behind the frames fs
pub record Storing (fs : List Frame) (bytes : List ℕ) (x : Rx) : Type 0 where
  pub wire : x.receiver.wire ≡ 2
  pub frames : x.frames ≡ fs ++ (fresh bytes ∷ [])

fitting : (size b : ℕ) (bytes : List ℕ) (fs : List Frame) → room fs + round4 (length bytes + 1) ≤ size → fits size b (fs ++ (fresh bytes ∷ [])) ≡ true
fitting size b bytes fs h =
    let e : room (at_newest (longer b) (fs ++ (fresh bytes ∷ []))) ≡ room fs + round4 (length bytes + 1) =
    ap room (at_snoc (longer b) fs (fresh bytes)) ∙ room_snoc fs (longer b (fresh bytes)) ∙ ap (λ (n : ℕ). room fs + round4 n) (length-append bytes (b ∷ [])) in
    rw e (le-leb (room fs + round4 (length bytes + 1)) size h)

-- a byte that fits is the frame's next
pub byte-stored : (size b : ℕ) (bytes : List ℕ) (fs : List Frame) (x : Rx) → Storing fs bytes x → length bytes < 1792 → room fs + round4 (length bytes + 1) ≤ size
    → Storing fs (bytes ++ (b ∷ [])) (settle_early (wire_byte size b x))
unfolding wire_byte overran
byte-stored size b bytes fs x S short space =
    let taken : takes b true (fresh bytes) ≡ longer b (fresh bytes) = takes-longer b (fresh bytes) (lt-leb 1792 (length bytes) short) in
    record {
      wire = S.wire;
      frames = rw (eq-eqb _ 2 S.wire, S.frames, fitting size b bytes fs space) (at_snoc (takes b true) fs (fresh bytes) ∙ ap (λ (f : Frame). fs ++ (f ∷ [])) taken);
    }

-- a start that is taken, and for which 8 bytes fit
pub start-stored : (size : ℕ) (first : List ℕ) (x : Rx) → x.receiver.on ≡ true → room x.frames + 8 ≤ size
    → Storing x.frames first (settle_early (wire_start size true first x))
unfolding wire_start begins
start-stored size first x on space = rw (on, le-leb _ size space) (record { wire = refl; frames = refl })

-- ---- the data reads

-- a word that may be read, and the read that takes it
module _ (x : Rx) (good : x.receiver.failed ≡ false) (space : x.receiver.read + 2 ≤ readable x.frames) where
  pub word_read : data_word x ≡ get_or (oldest x.frames) x.receiver.read 0 + 256 * get_or (oldest x.frames) (x.receiver.read + 1) 0
  unfolding data_word
  word_read = rw (good, beyond_is x, le-ltb _ _ space)

  pub read_moves : after_read x ≡ with_receiver (with_read (x.receiver.read + 2) x.receiver) x
  unfolding after_read
  read_moves = rw (good, beyond_is x, le-ltb _ _ space)
