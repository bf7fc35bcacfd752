-- `reading::discard` meets its contract: the store drops its first frame, and bit 15 of that frame's word says whether it was unfinished. Assumes nothing.
use borrow.Author.Tests.{le-leb, lt-leb, eqb-true, eqb-false}
use mathlib.Core.Path.{◌≡◌}
use mathlib.Core.Bool.{Bool, false}
use mathlib.Core.List.{[]}
use Rattle.bits.proofs.Tests.{by_test, neither}
use Rattle.receive_rules.specs.View.{frames_of, rx_of}
use Rattle.receive_rules.specs.Frame.{Rx}
use Rattle.receive_rules.specs.Reading.{discard, without_oldest}
use Rattle.receive_rules.proofs.Laws.{coming-word}
use Rattle.receive_rules.proofs.Oldest.{none, shown-first}
use Rattle.receive_rules.proofs.Steps.{step_same, step-turns}
use Rattle.receive.proofs.Word.{oldest-leaves}
use Rattle.receive.proofs.reading.discard.Goals as goal

-- where no failure stands, the oldest leaves
discards : (x : Rx) → x.receiver.failed ≡ false → discard x ≡ without_oldest x x.frames
unfolding discard
discards x e = rw e

pub returns-then-r : goal.returns-then-r
unfolding discard without_oldest
returns-then-r c =
    let s = c.args in
    let f : Bool = s.r.receiver.failed in
    let none-left : f ≡ false → frames_of s.size s.r.frames s.ram.now s.dir.now ≡ [] = λ n. none s.size s.r.frames s.ram.now s.dir.now (eqb-true s.r.frames 0 (rw n at c.if-r.true)) in
    step_same s.size s.r s.ram.now s.dir.now _ c.requires.packed (by_test f (λ y. rw y) (λ n. rw (n, none-left n)))

pub returns-then-w-ge-COMING : goal.returns-then-w-ge-COMING
unfolding without_oldest
returns-then-w-ge-COMING c =
    let s = c.args in
    let p = c.requires.packed in
    let some = eqb-false s.r.frames 0 (neither s.r.receiver.failed _ c.if-r.false).1 in
    step-turns s.size _ s.ram.now s.dir.now _ _ _ _
    (oldest-leaves s.size s.r.frames s.ram.now s.dir.now p some _ _ (rw c.area.ensures at c.drop_first.ensures))
    (rw (discards (rx_of s.size s.r s.ram.now s.dir.now) (neither s.r.receiver.failed _ c.if-r.false).0, shown-first s.size s.r.frames s.ram.now s.dir.now p some, coming-word, le-leb _ _ c.if-w-ge-COMING.true))

pub returns : goal.returns
unfolding without_oldest
returns c =
    let s = c.args in
    let p = c.requires.packed in
    let some = eqb-false s.r.frames 0 (neither s.r.receiver.failed _ c.if-r.false).1 in
    step-turns s.size _ s.ram.now s.dir.now _ _ _ _
    (oldest-leaves s.size s.r.frames s.ram.now s.dir.now p some _ _ (rw c.area.ensures at c.drop_first.ensures))
    (rw (discards (rx_of s.size s.r s.ram.now s.dir.now) (neither s.r.receiver.failed _ c.if-r.false).0, shown-first s.size s.r.frames s.ram.now s.dir.now p some, coming-word, lt-leb _ _ c.if-w-ge-COMING.false))
