-- Damaged stretches in a run, and the same run without them. Assumes nothing.
use Rattle.std.specs.Prelude.{◌≡◌, Bool, true, false, cond, List, [], ◌∷◌, ◌++◌, ℕ, ◌≤◌, length, eqb}
use Rattle.receive_rules.specs.Frame.{State, coming, whole, damaged, Frame}
use Rattle.receive_rules.specs.Wire.{end_of}
use Rattle.card_rules.specs.Adapter.{Adapter}
use Rattle.driver_rules.specs.Paper.{Paper, opened, ticket, report, status_alone, frame, idle, short, refused}
use Rattle.runs.specs.Run as run
use Rattle.runs.specs.Run.{Bench, Areas, full, Event, Start, Byte, End, Service, Said, told, answered, served, wire, next, said, after}

-- ---- rest

abbrev pub is_idle : Paper → Bool
is_idle opened = false
is_idle (ticket n) = false
is_idle (report t s used) = false
is_idle (status_alone s used) = false
is_idle (frame n used) = false
is_idle (idle used) = true
is_idle (short used) = false
is_idle (refused n) = false

-- a service call has just answered idle
abbrev pub answers_idle : List Said → Bool
answers_idle [] = false
answers_idle (run.refused n ∷ xs) = false
answers_idle (told bytes ∷ xs) = false
answers_idle (answered p ∷ xs) = false
answers_idle (served p bytes s ∷ xs) = is_idle p

-- At rest: a service call has just answered idle, the receive store is empty, and no frame is on the wire.
pub record AtRest (just : Bool) (b : Bench) : Type 0 where
  pub answered_idle : just ≡ true
  pub none_stored : b.adapter.rx.frames ≡ []
  pub none_on_wire : wire b ≡ 0

-- ---- a damaged stretch

-- Before a frame's end: its bytes, with service calls anywhere between them.
pub data During : Type 0 where
  byte : ℕ → During
  call : (budget : ℕ) → Areas → During

pub record Stretch : Type 0 where
  pub first : List ℕ
  pub eight : length first ≡ 8
  pub during : List During
  pub check : Bool
  pub alignment : Bool
  pub budget : ℕ
  pub areas : Areas

unfoldable pub heard : List During → List Event
heard [] = []
heard (byte v ∷ ds) = Byte v ∷ heard ds
heard (call n s ∷ ds) = Service n s ∷ heard ds

-- the calls alone
unfoldable pub calls : List During → List Event
calls [] = []
calls (byte v ∷ ds) = calls ds
calls (call n s ∷ ds) = Service n s ∷ calls ds

-- the frame before its end, and with it
abbrev pub begun : Stretch → List Event
begun d = Start d.first d.eight ∷ heard d.during

abbrev pub whole_frame : Stretch → List Event
whole_frame d = begun d ++ (End d.check d.alignment ∷ [])

-- after the end, one service call
abbrev pub closing : Stretch → Event
closing d = Service d.budget d.areas

-- A damaged frame is one whose end gives a code. The end of a frame that the card ignores gives none, and needs none.
unfoldable pub is_damaged : State → Bool
is_damaged (coming o) = false
is_damaged whole = false
is_damaged (damaged k) = true

unfoldable pub newest_damaged : Bool → Bool → List Frame → Bool
newest_damaged check alignment [] = true
newest_damaged check alignment (f ∷ []) = is_damaged (end_of check alignment f)
newest_damaged check alignment (f ∷ g ∷ fs) = newest_damaged check alignment (g ∷ fs)

abbrev pub gives_code : Bool → Bool → Adapter → Bool
gives_code check alignment a = cond (eqb a.rx.receiver.wire 2) (newest_damaged check alignment a.rx.frames) true

-- A stretch is damaged: it comes at rest, its end gives a code, and it closes with full areas and a budget of at least 5.
pub record Damaged (d : Stretch) (just : Bool) (b : Bench) : Type 0 where
  pub rest : AtRest just b
  pub code : gives_code d.check d.alignment (after (begun d) b).adapter ≡ true
  pub areas : full d.areas ≡ true
  pub budget : 5 ≤ d.budget

-- ---- a run in parts: events, and stretches

pub data Part : Type 0 where
  event : Event → Part
  stretch : Stretch → Part

unfoldable pub with_frames : List Part → List Event
with_frames [] = []
with_frames (event e ∷ ps) = e ∷ with_frames ps
with_frames (stretch d ∷ ps) = whole_frame d ++ (closing d ∷ with_frames ps)

unfoldable pub without_frames : List Part → List Event
without_frames [] = []
without_frames (event e ∷ ps) = e ∷ without_frames ps
without_frames (stretch d ∷ ps) = calls d.during ++ (closing d ∷ without_frames ps)

-- the bench before the closing call of a stretch, without its frame
abbrev pub quiet : Stretch → Bench → Bench
quiet d b = after (calls d.during) b

-- Every stretch of the run is damaged, as the run without the frames comes to it; `just`: a service call has just answered idle.
unfoldable pub AllDamaged : List Part → Bool → Bench → Type 0
AllDamaged [] just b = Unit {0}
AllDamaged (event e ∷ ps) just b = AllDamaged ps (answers_idle (said e b)) (next e b)
AllDamaged (stretch d ∷ ps) just b =
    Damaged d just b × AllDamaged ps (answers_idle (said (closing d) (quiet d b))) (next (closing d) (quiet d b))
