-- `queue::fifo_sound` meets its contract: its tests on the directory's words are the definition's on the packets. Assumes nothing.
use mathlib.Core.Path.{◌≡◌}
use mathlib.Core.Bool.{true, false}
use mathlib.Core.List.{List}
use Prim.Native.Nat.{ℕ, ◌≤◌}
use lib.ListN.{length}
use Rattle.transmit_rules.specs.declared.Fifo.{Fifo}
use native.Mathlib.Omega.{arith}
use borrow.Author.Tests.{le-leb, lt-leb}
use lib.Dec.{leb}
use Rattle.store.specs.Store as store
use Rattle.transmit_rules.specs.QueueView.{sound_fifo, Packed}
use Rattle.transmit_rules.proofs.QueueSound.{orderly-same, words-many}
use Rattle.queue.proofs.fifo_sound.Goals as goal

-- the packets lie in their area, where the tests before the others say so
packed : (size used : ℕ) (f : Fifo) (ram dir : List ℕ) → size ≤ 4096 → 8192 ≤ length ram → 1110 ≤ length dir → f.packets ≤ 341 → used ≡ store.room_of (store.part 768 f.packets dir) → used ≤ size → Packed size f ram dir
packed size used f ram dir s r d few u k = record { in_ram = omega (arith, s, r); in_dir = omega (arith, d, few); few = omega (arith, few); small = omega (arith, s); room = omega (arith, u, k) }

pub returns-then-n-gt341 : goal.returns-then-n-gt341
unfolding sound_fifo
returns-then-n-gt341 c = rw (lt-leb _ _ c.if-n-gt341.true)

pub returns-then-size-used : goal.returns-then-size-used
unfolding sound_fifo
returns-then-size-used c =
    let s = c.args in
    let u = store.room_of (store.part 768 s.f.packets s.dir.now) in
    let k : leb u s.size ≡ false = lt-leb u s.size (omega (arith, c.used-used.ensures, c.if-size-used.true)) in
    rw (le-leb _ _ c.if-n-gt341.false, k)

pub returns-then-k-gt2048 : goal.returns-then-k-gt2048
unfolding sound_fifo
returns-then-k-gt2048 c =
    let s = c.args in
    let u = store.room_of (store.part 768 s.f.packets s.dir.now) in
    let k : leb u s.size ≡ true = le-leb u s.size (omega (arith, c.used-used.ensures, c.if-size-used.false)) in
    rw (words-many s.size s.f s.ram.now s.dir.now c.requires.0 c.if-k-gt2048.true, le-leb _ _ c.if-n-gt341.false, k)

pub returns : goal.returns
unfolding sound_fifo
returns c =
    let s = c.args in
    let u = store.room_of (store.part 768 s.f.packets s.dir.now) in
    let k : leb u s.size ≡ true = le-leb u s.size (omega (arith, c.used-used.ensures, c.if-size-used.false)) in
    rw (c.good_part-part.ensures, c.good_words-whole.ensures, le-leb _ _ c.if-n-gt341.false, k)
    (orderly-same s.size c.used-used.result s.f s.ram.now s.dir.now (packed s.size _ s.f s.ram.now s.dir.now c.requires.0 c.requires.1 c.requires.2 c.if-n-gt341.false c.used-used.ensures c.if-size-used.false) c.used-used.ensures)
