-- A byte of the wire is dropped, marks the frame overrun, or is taken. Assumes nothing.
use mathlib.Core.Path.{◌≡◌, refl, sym}
use mathlib.Core.Bool.{Bool, true, false, cond, not, ◌&&◌, ◌||◌}
use mathlib.Core.List.{List, [], ◌∷◌, ◌++◌}
use Prim.Native.Nat.{ℕ}
use Rattle.receive_rules.specs.Frame.{State, coming, whole, damaged, Frame, is_coming, overran}
use Rattle.receive_rules.specs.Wire.{longer, full, marked, takes}
use Rattle.receive_rules.specs.Sound.{ended, started, sized, in_order}
use Rattle.bits.proofs.Tests.{both, never}
use lib.ListN.{length}

abbrev framed : List ℕ → State → Frame
framed bs s = record { bytes = bs; state = s }

-- the newest frame is coming, where the order says that one is
pub newest-coming : (fs : List Frame) (f : Frame) → in_order true (fs ++ (f ∷ [])) ≡ true → is_coming f.state ≡ true
unfolding in_order
newest-coming [] f h = (both (sized (length f.bytes)) (is_coming f.state) h).1
newest-coming (x ∷ []) f h = (both (sized (length f.bytes)) (is_coming f.state) (both (ended x) (started f) h).1).1
newest-coming (x ∷ y ∷ fs) f h = newest-coming (y ∷ fs) f (both (ended x) (in_order true ((y ∷ fs) ++ (f ∷ []))) h).1

-- after an overrun, and past 1,792 bytes, a byte changes nothing
pub takes_none : (b : ℕ) (space : Bool) (f : Frame) → (overran f.state || full f) ≡ true → takes b space f ≡ f
unfolding overran marked
takes_none b space f h = way f.bytes f.state (full f) h
  where
    way : (bs : List ℕ) (s : State) (much : Bool) → (overran s || much) ≡ true
        → framed (cond (overran s || (much || not space)) bs (bs ++ (b ∷ []))) (marked (not much && not space) s) ≡ framed bs s
    way bs (coming true) much h = refl
    way bs (coming false) true h = refl
    way bs (coming false) false h = never h
    way bs whole true h = refl
    way bs whole false h = never h
    way bs (damaged k) true h = refl
    way bs (damaged k) false h = never h

-- without room it marks the frame
pub takes-marks : (b : ℕ) (f : Frame) → is_coming f.state ≡ true → (overran f.state || full f) ≡ false
    → takes b false f ≡ framed f.bytes (coming true)
unfolding is_coming overran marked
takes-marks b f c h = way f.bytes f.state (full f) c h
  where
    way : (bs : List ℕ) (s : State) (much : Bool) → is_coming s ≡ true → (overran s || much) ≡ false
        → framed (cond (overran s || (much || true)) bs (bs ++ (b ∷ []))) (marked (not much && true) s) ≡ framed bs (coming true)
    way bs (coming true) much c h = never (sym h)
    way bs (coming false) true c h = never (sym h)
    way bs (coming false) false c h = refl
    way bs whole much c h = never c
    way bs (damaged k) much c h = never c

-- with room it is the next of the frame's bytes
pub takes-longer : (b : ℕ) (f : Frame) → (overran f.state || full f) ≡ false → takes b true f ≡ longer b f
unfolding overran marked
takes-longer b f h = way f.bytes f.state (full f) h
  where
    way : (bs : List ℕ) (s : State) (much : Bool) → (overran s || much) ≡ false
        → framed (cond (overran s || (much || false)) bs (bs ++ (b ∷ []))) (marked (not much && false) s) ≡ framed (bs ++ (b ∷ [])) s
    way bs (coming true) much h = never (sym h)
    way bs (coming false) true h = never (sym h)
    way bs (coming false) false h = refl
    way bs whole true h = never (sym h)
    way bs whole false h = refl
    way bs (damaged k) true h = never (sym h)
    way bs (damaged k) false h = refl
