-- Demand 3: a damaged frame leaves no trace. Assumes nothing.
use Rattle.std.specs.Prelude.{◌≡◌, true, false, List, [], ◌∷◌, ◌++◌, ℕ}
use Rattle.driver_rules.specs.Paper.{idle}
use Rattle.runs.specs.Run.{Bench, sound_bench, Areas, Open, Earlier, Said, refused, told, answered, served, next, said, after, sayings, since}
use Rattle.no_trace.specs.Stretch.{calls, whole_frame, closing, quiet, Part, event, stretch, AllDamaged, with_frames, without_frames}

-- the bytes that were handed up
unfoldable pub handed_up : List Said → List ℕ
handed_up [] = []
handed_up (refused n ∷ xs) = handed_up xs
handed_up (told bytes ∷ xs) = handed_up xs
handed_up (answered p ∷ xs) = handed_up xs
handed_up (served p bytes s ∷ xs) = bytes ++ handed_up xs

-- What the closing call answers with the frame, and without: idle with 2 accesses in both (the card ignored the frame), or idle with 5 against 2 (the driver dropped it).
-- Nothing is handed up, and both areas are as they were lent.
pub data Closing (s : Areas) : List Said → List Said → Type 0 where
  ignored : Closing s (served (idle 2) [] s ∷ []) (served (idle 2) [] s ∷ [])
  dropped : Closing s (served (idle 5) [] s ∷ []) (served (idle 2) [] s ∷ [])

-- The run from x with the frames, and the run from y without them, part by part.
unfoldable pub SameAnswers : List Part → Bench → Bench → Type 0
-- the states at the end are equal
SameAnswers [] x y = x ≡ y
-- an event outside the stretches answers the same
SameAnswers (event e ∷ ps) x y = (said e x ≡ said e y) × SameAnswers ps (next e x) (next e y)
-- in a stretch the wire's events answer nothing, and the calls answer the same and hand up nothing; the closing call may differ in its count
SameAnswers (stretch d ∷ ps) x y =
    (sayings (whole_frame d) x ≡ sayings (calls d.during) y)
    × ((handed_up (sayings (whole_frame d) x) ≡ [])
    × (Closing d.areas (said (closing d) (after (whole_frame d) x)) (said (closing d) (quiet d y))
    × SameAnswers ps (next (closing d) (after (whole_frame d) x)) (next (closing d) (quiet d y))))

-- From any sound card and driver, opened or not, after any history, then an open: whatever the driver, the wire and the transmitter do from there on, damaged frames that come at rest leave no trace.
pub record NoTrace (ps : List Part) (b : Bench) : Type 0 where
  pub answers : SameAnswers ps b b
  pub end : after (with_frames ps) b ≡ after (without_frames ps) b

abbrev pub DamagedFramesLeaveNoTrace : Type 0
DamagedFramesLeaveNoTrace =
    (b : Bench) → sound_bench b ≡ true → (history : List Earlier) (w₀ w₁ w₂ : ℕ) (ps : List Part) →
    AllDamaged ps false (next (Open w₀ w₁ w₂) (since history b)) →
    NoTrace ps (next (Open w₀ w₁ w₂) (since history b))
