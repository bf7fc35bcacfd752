-- `words::put_first` meets its contract: the packet is opened, or its length is a failure. Assumes nothing.
use mathlib.Core.Path.{sym, subst, ◌∙◌}
use mathlib.Core.Bool.{Bool}
use Prim.Native.Nat.{◌+◌}
use lib.ListN.{set}
use native.Mathlib.Omega.{arith}
use Rattle.transmit_rules.specs.QueueView.{queue_of, Turns}
use Rattle.transmit_rules.specs.Write.{put}
use Rattle.transmit_rules.proofs.Facts.{facts, words_of}
use Rattle.transmit_rules.proofs.Put.{put-bad, turns_same, opens}
use Rattle.queue.proofs.words.put_first.Goals as goal

pub bounds-dir-f : goal.bounds-dir-f
bounds-dir-f c =
    let s = c.args in
    let p = c.requires in
    omega (arith, (facts s.size s.f s.ram.now s.dir.now p.0).place, p.0.packed.in_dir)

pub returns-then-len : goal.returns-then-len
returns-then-len c =
    let s = c.args in
    let p = c.requires in
    subst (λ (b : Bool). Turns s.size (record { failed = b; packets = s.f.packets; words = 1 }) s.ram.now s.dir.now s.ram.now (set s.dir.now (768 + s.f.packets) s.v) (put s.size s.v (queue_of s.size s.f s.ram.now s.dir.now))) (sym p.1)
    (opens s.size s.v s.f s.ram.now s.dir.now p.0 p.1 p.3 p.2 c.if-len.true)

pub returns : goal.returns
returns c =
    let s = c.args in
    let p = c.requires in
    let q = queue_of s.size s.f s.ram.now s.dir.now in
    turns_same s.size (record { failed = _; packets = s.f.packets; words = s.f.words }) s.ram.now s.dir.now _ p.0.packed
    (sym (put-bad s.size s.v q p.1 p.3 (words_of s.size s.f.packets s.f.words s.ram.now s.dir.now ∙ p.2) c.if-len.false))
