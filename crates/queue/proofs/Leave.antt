-- The oldest packet leaves, over plain numbers and lists. Assumes nothing.
use mathlib.Core.Path.{◌≡◌, refl, sym, ap, ap₂, ◌∙◌}
use mathlib.Core.Bool.{Bool}
use mathlib.Core.List.{List, ◌∷◌}
use Prim.Native.Nat.{ℕ, zero, suc, ◌+◌, ◌*◌, ◌-◌, ◌≤◌, ◌<◌}
use native.Mathlib.Omega.{arith}
use lib.ListN.{length, take, drop, get_or}
use lib.Seq.{take-take}
use Rattle.store.specs.Store as store
use Rattle.store.specs.Store.{Frame, frames, len_of, round4, room_of, part, shifted}
use Rattle.store.proofs.Laws.{part_cons, part_shifted, kept_shift}
use Rattle.transmit_rules.specs.Queue.{Part}
use Rattle.transmit_rules.specs.Leave.{others, leave}
use Rattle.transmit_rules.specs.QueueView.{tx_area, packets_of, part_of, queue_of, Holds, Turns}
use Rattle.transmit_rules.specs.declared.Fifo.{Fifo}
use Rattle.transmit_rules.proofs.Parts.{part-part, get_d_part, frames-same}
use Rattle.transmit_rules.proofs.Facts.{facts}

same-part : (size k words : ℕ) (ram dir ram' dir' : List ℕ) → get_or dir' (768 + k) 0 ≡ get_or dir (768 + suc k) 0
    → part (8192 - size + room_of (part 768 k dir')) (2 * (words - 2)) ram' ≡ part (8192 - size + room_of (part 768 (suc k) dir)) (2 * (words - 2)) ram
    → part_of size k words ram' dir' ≡ part_of size (suc k) words ram dir
unfolding part_of
same-part size k zero ram dir ram' dir' e d = refl
same-part size k (suc j) ram dir ram' dir' e d = ap₂ (λ (x : ℕ) (y : List ℕ). record { words = suc j; preamble = x; bytes = y }) e d

-- n is one more than what is left
leaves_suc : (size r t k words : ℕ) (failed : Bool) (ram dir : List ℕ) → store.Sound (tx_area size) (suc k) ram dir → suc k < 342
    → r ≡ round4 (len_of (get_or dir 768 0)) → r + t ≡ room_of (part 768 (suc k) dir) + 2 * (words - 2) → r + t ≤ size
    → Turns size (record { failed = failed; packets = k; words = words }) ram dir (shifted ram (8192 - size) r t) (shifted dir 768 1 (suc k))
    (leave (queue_of size (record { failed = failed; packets = suc k; words = words }) ram dir))
unfolding frames others room_of
leaves_suc size r t k words failed ram dir S place p q h =
    let base : ℕ = 8192 - size in
    let ws : List ℕ = part 769 k dir in
    let w : ℕ = get_or dir 768 0 in
    let m : List ℕ = part base size ram in
    let ram' : List ℕ = shifted ram base r t in
    let dir' : List ℕ = shifted dir 768 1 (suc k) in
    let dirs : 768 + 342 ≤ length dir = S.in_dir in
    let rams : base + size ≤ length ram = S.in_ram in
    let cons : part 768 (suc k) dir ≡ w ∷ ws = part_cons dir 768 k (omega arith) in
    let sum : room_of (part 768 (suc k) dir) ≡ r + room_of ws = rw (cons, p) in
    let e : t ≡ room_of ws + 2 * (words - 2) = omega arith in
    let down : part 768 (suc k) dir' ≡ part 769 (suc k) dir = part_shifted dir 768 1 (suc k) (omega arith) in
    let new : part 768 k dir' ≡ ws =
    sym (take-take k (suc k) (drop 768 dir') (omega arith)) ∙ ap (λ (l : List ℕ). take k l) down ∙ take-take k (suc k) (drop 769 dir) (omega arith) in
    let moved : part base t ram' ≡ part (base + r) t ram = part_shifted ram base r t (omega arith) in
    let front : take (room_of ws) (part base size ram') ≡ take (room_of ws) (drop r m) =
    take-take (room_of ws) size (drop base ram') (omega arith) ∙ sym (take-take (room_of ws) t (drop base ram') (omega arith))
    ∙ ap (λ (l : List ℕ). take (room_of ws) l) moved ∙ take-take (room_of ws) t (drop (base + r) ram) (omega arith)
    ∙ sym (part-part ram base size r (room_of ws) (omega arith)) in
    let kr = kept_shift ram base r t size (omega arith) (omega arith) in
    let kd = kept_shift dir 768 1 (suc k) 342 (omega arith) (omega arith) in
    let packets : packets_of size k ram' dir' ≡ others (packets_of size (suc k) ram dir) =
    ap (λ (d : List ℕ). frames d (part base size ram')) new ∙ frames-same ws (part base size ram') (drop r m) (room_of ws) (omega arith) front
    ∙ ap (λ (i : ℕ). frames ws (drop i m)) p ∙ sym (ap (λ (d : List ℕ). others (frames d m)) cons) in
    let pre : get_or dir' (768 + k) 0 ≡ get_or dir (768 + suc k) 0 =
    let z : 769 + k ≡ 768 + suc k = omega arith in
    sym (get_d_part dir' 768 (suc k) k (omega arith)) ∙ ap (λ (l : List ℕ). get_or l k 0) down ∙ get_d_part dir 769 (suc k) k (omega arith) ∙ ap (λ (i : ℕ). get_or dir i 0) z in
    let bytes : part (base + room_of (part 768 k dir')) (2 * (words - 2)) ram' ≡ part (base + room_of (part 768 (suc k) dir)) (2 * (words - 2)) ram =
    let z : base + r + room_of ws ≡ base + room_of (part 768 (suc k) dir) = omega arith in
    ap (λ (d : List ℕ). part (base + room_of d) (2 * (words - 2)) ram') new ∙ sym (part-part ram' base t (room_of ws) (2 * (words - 2)) (omega arith))
    ∙ ap (λ (l : List ℕ). part (room_of ws) (2 * (words - 2)) l) moved ∙ part-part ram (base + r) t (room_of ws) (2 * (words - 2)) (omega arith)
    ∙ ap (λ (i : ℕ). part i (2 * (words - 2)) ram) z in
    record {
      holds = ap₂ (λ (x : List Frame) (y : Part). record { failed = failed; packets = x; part = y }) packets (same-part size k words ram dir ram' dir' pre bytes);
      packed = record { in_ram = omega (arith, kr.long); in_dir = omega (arith, kd.long); few = omega arith; small = S.small; room = rw new (omega arith) };
      ram_kept = kr;
      dir_kept = kd;
    }

leaves-n : (size r t n words : ℕ) (failed : Bool) (ram dir : List ℕ) → store.Sound (tx_area size) n ram dir → n < 342 → 0 < n
    → r ≡ round4 (len_of (get_or dir 768 0)) → r + t ≡ room_of (part 768 n dir) + 2 * (words - 2) → r + t ≤ size
    → Turns size (record { failed = failed; packets = n - 1; words = words }) ram dir (shifted ram (8192 - size) r t) (shifted dir 768 1 n)
    (leave (queue_of size (record { failed = failed; packets = n; words = words }) ram dir))
leaves-n size r t zero words failed ram dir S place some p q h = absurd (omega arith)
leaves-n size r t (suc k) words failed ram dir S place some p q h =
    let e : suc k - 1 ≡ k = omega arith in
    rw e (leaves_suc size r t k words failed ram dir S place p q h)

-- the oldest's room is part of the whole
pub oldest-room : (size n : ℕ) (ram dir : List ℕ) → store.Sound (tx_area size) n ram dir → 0 < n → round4 (len_of (get_or dir 768 0)) ≤ room_of (part 768 n dir)
unfolding room_of
oldest-room size zero ram dir S h = absurd (omega arith)
oldest-room size (suc k) ram dir S h =
    let dirs : 768 + 342 ≤ length dir = S.in_dir in
    let few : suc k ≤ 342 = S.few in
    let cons : part 768 (suc k) dir ≡ get_or dir 768 0 ∷ part 769 k dir = part_cons dir 768 k (omega arith) in
    rw cons (omega arith)

pub leaves : (size r t : ℕ) (f : Fifo) (ram dir : List ℕ) → Holds size f ram dir → 0 < f.packets
    → r ≡ round4 (len_of (get_or dir 768 0)) → r + t ≡ room_of (part 768 f.packets dir) + 2 * (f.words - 2)
    → Turns size (record { failed = f.failed; packets = f.packets - 1; words = f.words }) ram dir (shifted ram (8192 - size) r t) (shifted dir 768 1 f.packets) (leave (queue_of size f ram dir))
leaves size r t f ram dir H some p q =
    let F = facts size f ram dir H in
    leaves-n size r t f.packets f.words f.failed ram dir H.packed F.place some p q (omega (arith, F.space))
