-- `reading::rx_status` meets its contract: the oldest frame's word holds the marks, and the count is encoded below them. Assumes nothing.
use mathlib.Core.Path.{◌≡◌, sym, ap, ◌∙◌, subst}
use Prim.Native.Nat.{ℕ, ◌+◌, ◌-◌, ◌%◌, ◌<◌}
use native.Mathlib.Nat.{zero-add}
use lib.IntN.{ℤ}
use lib.ListN.{get_or}
use lib.Signed.{mag}
use mathlib.Core.List.{List}
use Rattle.receive_rules.specs.declared.Receive.{Receive}
use Rattle.receive_rules.specs.Count.{unread, encoded}
use Rattle.receive_rules.specs.Reading.{rx_status, unread_in}
use Rattle.receive_rules.specs.View.{frames_of, rx_of, Sound}
use Rattle.receive_rules.proofs.Count.{back, between-small, count-between}
use Rattle.receive_rules.proofs.Oldest.{none}
use Rattle.receive.proofs.Word.{unread-some, status-some, marks-coming, marks-damaged, marks-whole}
use Rattle.receive.proofs.reading.rx_status.Goals as goal

-- what is told is the count of the oldest frame
shown : (size : ℕ) (r : Receive) (ram dir : List ℕ) → Sound size r ram dir → (r.frames ≡ 0 → ⊥) → (told : ℕ) (u : ℤ) → told ≡ encoded u
    → u ≡ unread_in r.receiver.read (frames_of size r.frames ram dir) → told ≡ encoded (unread (get_or dir 0 0 % 2048) r.receiver.read)
shown size r ram dir S h told u e f = e ∙ ap encoded (f ∙ unread-some size r.frames ram dir S.packed h r.receiver.read)

pub returns-then-r-eq0 : goal.returns-then-r-eq0
unfolding rx_status
returns-then-r-eq0 c = rw (none _ _ _ _ c.if-r-eq0.true)

pub encoded-told-requires : goal.encoded-told-requires
encoded-told-requires c =
    let s = c.args in
    subst (λ (z : ℤ). mag z < 2048) (sym (back c.unread.result c.unread.type_inv ∙ c.unread.ensures)) (between-small _ (count-between s.size (rx_of s.size s.r s.ram.now s.dir.now) c.requires.calm))

pub returns-then-w-ge-COMING : goal.returns-then-w-ge-COMING
returns-then-w-ge-COMING c =
    let h = c.if-r-eq0.false in
    let s = c.args in
    rw (status-some s.size s.r.frames s.ram.now s.dir.now c.requires.packed h s.r.receiver.read, marks-coming _ c.if-w-ge-COMING.true)
    (ap (λ (k : ℕ). 32768 + k) (shown s.size s.r s.ram.now s.dir.now c.requires h _ _ c.encoded-told.ensures.0 (back c.unread.result c.unread.type_inv ∙ c.unread.ensures)))

pub returns-then-w-ge16384 : goal.returns-then-w-ge16384
returns-then-w-ge16384 c =
    let h = c.if-r-eq0.false in
    let s = c.args in
    let w : ℕ = get_or s.dir.now 0 0 in
    rw (status-some s.size s.r.frames s.ram.now s.dir.now c.requires.packed h s.r.receiver.read, marks-damaged _ c.if-w-ge-COMING.false c.if-w-ge16384.true)
    (ap (λ (k : ℕ). w - w % 2048 + k) (shown s.size s.r s.ram.now s.dir.now c.requires h _ _ c.encoded-told.ensures.0 (back c.unread.result c.unread.type_inv ∙ c.unread.ensures)))

pub returns : goal.returns
returns c =
    let h = c.if-r-eq0.false in
    let s = c.args in
    rw (status-some s.size s.r.frames s.ram.now s.dir.now c.requires.packed h s.r.receiver.read, marks-whole _ c.if-w-ge16384.false, zero-add)
    (shown s.size s.r s.ram.now s.dir.now c.requires h _ _ c.encoded-told.ensures.0 (back c.unread.result c.unread.type_inv ∙ c.unread.ensures))
