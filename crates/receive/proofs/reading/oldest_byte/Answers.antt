-- `reading::oldest_byte` meets its contract: the store gives a byte of the oldest frame, and past its end a frame reads 0. Assumes nothing.
use mathlib.Core.Path.{sym, ap, ◌∙◌}
use Prim.Native.Nat.{◌≤◌}
use native.Mathlib.Omega.{arith}
use lib.Dec.{lit<}
use lib.ListN.{length, get_or}
use Rattle.store.specs.declared.Area.{Area}
use Rattle.store.specs.Store as store
use Rattle.receive_rules.proofs.Oldest.{front}
use Rattle.receive.proofs.Word.{oldest-some, oldest-same, get_d_past}
use Rattle.receive.proofs.reading.oldest_byte.Goals as goal

pub returns-then-n-i : goal.returns-then-n-i
returns-then-n-i c =
    let s = c.args in
    let p = c.requires in
    let F = front s.size s.count s.ram.now s.dir.now p.0 (λ e. omega arith) in
    let k : length F.bytes ≤ s.i = omega (arith, F.len) in
    (sym (rw (oldest-some s.size s.count s.ram.now s.dir.now p.0 (λ e. omega arith)) (get_d_past F.bytes s.i k)), lit< tt)

pub returns : goal.returns
returns c =
    let s = c.args in
    let p = c.requires in
    let e = oldest-some s.size s.count s.ram.now s.dir.now p.0 (λ e. omega arith) in
    let d = oldest-same s.size s.count s.ram.now s.dir.now p.0 (λ e. omega arith) in
    let b = ap (λ (a : Area). get_or (store.oldest (store.view a s.count s.ram.now s.dir.now)) s.i 0) c.area.ensures in
    (rw e (rw d at (c.wide.ensures.0 ∙ c.first_byte.ensures ∙ b)), c.wide.ensures.1)
