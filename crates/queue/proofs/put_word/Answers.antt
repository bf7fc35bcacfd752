-- `queue::put_word` meets its contract: each of its five ways is one of the definition's. Assumes nothing.
use mathlib.Core.Path.{◌≡◌, sym, subst}
use mathlib.Core.Bool.{Bool}
use mathlib.Core.List.{List}
use Rattle.transmit_rules.specs.declared.Fifo.{Fifo}
use Prim.Native.Nat.{ℕ, ◌≤◌, ◌<◌, ◌+◌, ◌*◌}
use native.Mathlib.Omega.{arith}
use Rattle.store.specs.Store.{room_of, part}
use Rattle.transmit_rules.specs.Queue.{free}
use Rattle.transmit_rules.specs.QueueView.{queue_of, Packed, Turns}
use Rattle.transmit_rules.specs.Write.{put}
use Rattle.transmit_rules.proofs.Facts.{facts, free_of, words_of}
use Rattle.transmit_rules.proofs.Put.{put-stays, put_full, put_more, turns_same, seconds}
use Rattle.queue.proofs.put_word.Goals as goal

-- there is room for a word, and there is none
left : (size used : ℕ) (f : Fifo) (ram dir : List ℕ) → Packed size f ram dir → used ≡ room_of (part 768 f.packets dir) → used + 4 * f.packets + 2 * f.words + 2 ≤ size → 2 ≤ free size (queue_of size f ram dir)
left size used f ram dir p u h = omega (arith, free_of size f ram dir p, u, h)

none : (size used : ℕ) (f : Fifo) (ram dir : List ℕ) → Packed size f ram dir → used ≡ room_of (part 768 f.packets dir) → size < used + 4 * f.packets + 2 * f.words + 2 → free size (queue_of size f ram dir) < 2
none size used f ram dir p u h = omega (arith, free_of size f ram dir p, u, h)

pub returns-then-f : goal.returns-then-f
returns-then-f c =
    let s = c.args in
    turns_same s.size s.f s.ram.now s.dir.now _ c.requires.packed (sym (put-stays s.size s.v (queue_of s.size s.f s.ram.now s.dir.now) c.if-f.true))

pub overflow_mul-f-2 : goal.overflow_mul-f-2
overflow_mul-f-2 c = omega (arith, (facts c.args.size c.args.f c.args.ram.now c.args.dir.now c.requires).few)

pub overflow_add-used-2 : goal.overflow_add-used-2
overflow_add-used-2 c =
    omega (arith, (facts c.args.size c.args.f c.args.ram.now c.args.dir.now c.requires).few, (facts c.args.size c.args.f c.args.ram.now c.args.dir.now c.requires).space, c.used-used.ensures, c.requires.small)

pub overflow_add-used-3 : goal.overflow_add-used-3
overflow_add-used-3 c =
    omega (arith, (facts c.args.size c.args.f c.args.ram.now c.args.dir.now c.requires).few, (facts c.args.size c.args.f c.args.ram.now c.args.dir.now c.requires).space, c.used-used.ensures, c.requires.small)

pub returns-then-size-used : goal.returns-then-size-used
returns-then-size-used c =
    let s = c.args in
    turns_same s.size (record { failed = _; packets = s.f.packets; words = s.f.words }) s.ram.now s.dir.now _ c.requires.packed
    (sym (put_full s.size s.v (queue_of s.size s.f s.ram.now s.dir.now) c.if-f.false (none c.args.size _ c.args.f c.args.ram.now c.args.dir.now c.requires.packed c.used-used.ensures c.if-size-used.true)))

pub put_first-requires : goal.put_first-requires
put_first-requires c =
    (c.requires, c.if-f.false, c.in-0.is, left c.args.size _ c.args.f c.args.ram.now c.args.dir.now c.requires.packed c.used-used.ensures c.if-size-used.false)

pub returns-in-1 : goal.returns-in-1
returns-in-1 c =
    let s = c.args in
    subst (λ (b : Bool). Turns s.size (record { failed = b; packets = s.f.packets; words = 2 }) s.ram.now s.dir.now s.ram.now s.dir.now (put s.size s.v (queue_of s.size s.f s.ram.now s.dir.now))) (sym c.if-f.false)
    (seconds s.size s.v s.f s.ram.now s.dir.now c.requires c.if-f.false (left c.args.size _ c.args.f c.args.ram.now c.args.dir.now c.requires.packed c.used-used.ensures c.if-size-used.false) c.in-1.is)

pub put_data-requires : goal.put_data-requires
put_data-requires c =
    record { holds = (c.requires, omega (arith, c.in_default), left c.args.size _ c.args.f c.args.ram.now c.args.dir.now c.requires.packed c.used-used.ensures c.if-size-used.false); at_value = omega (arith, c.used-used.ensures) }

pub returns-in_default : goal.returns-in_default
returns-in_default c =
    let s = c.args in
    let q = queue_of s.size s.f s.ram.now s.dir.now in
    let more : 2 ≤ q.part.words = omega (arith, words_of s.size s.f.packets s.f.words s.ram.now s.dir.now, c.in_default) in
    rw (put_more s.size s.v q c.if-f.false (left c.args.size _ c.args.f c.args.ram.now c.args.dir.now c.requires.packed c.used-used.ensures c.if-size-used.false) more) c.put_data.ensures
