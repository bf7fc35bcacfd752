-- What the wire is told of the oldest packet, and what is wanted of it, over plain numbers and lists. Assumes nothing.
use mathlib.Core.Path.{◌≡◌, refl, sym, ap, ◌∙◌}
use mathlib.Core.Bool.{Bool, true, false, cond}
use mathlib.Core.List.{List, ◌∷◌, ◌++◌}
use Prim.Native.Nat.{ℕ, zero, suc, ◌+◌, ◌-◌, ◌/◌, ◌%◌, ◌≤◌, ◌<◌}
use native.Mathlib.Omega.{arith}
use borrow.Author.Tests.{leb-true}
use lib.Dec.{leb}
use lib.ListN.{length, drop, get_or, replicate, length-append}
use lib.Seq.{take-take}
use Rattle.store.specs.Store as store
use Rattle.store.specs.Store.{frames, begun, len_of, part}
use Rattle.store.proofs.Laws.{part_cons}
use Rattle.bits.specs.Bits.{has}
use Rattle.transmit_rules.specs.Leave.{others, told_of, oldest_wanted}
use Rattle.transmit_rules.specs.Write.{sized}
use Rattle.transmit_rules.specs.QueueSound.{all_sized}
use Rattle.transmit_rules.specs.QueueView.{tx_area, packets_of, Holds, Tells}
use Rattle.transmit_rules.specs.declared.Fifo.{Fifo}
use Rattle.bits.proofs.Tests.{both}
use Rattle.transmit_rules.proofs.Parts.{part_length}
use Rattle.transmit_rules.proofs.Facts.{sizes}
use Rattle.queue.proofs.Leave.{oldest-room}

-- ---- the bytes and the zeros behind them

pub length-zeros : (k : ℕ) → length {A = ℕ} (replicate k 0) ≡ k
length-zeros zero = refl
length-zeros (suc k) = ap suc (length-zeros k)

pub padded-length : (ram : List ℕ) (base len n : ℕ) → base + len ≤ length ram → len ≤ n → length (part base len ram ++ replicate (n - len) 0) ≡ n
padded-length ram base len n h k =
    let a : length (part base len ram) ≡ len = part_length ram base len h in
    let b : length {A = ℕ} (replicate (n - len) 0) ≡ n - len = length-zeros (n - len) in
    length-append (part base len ram) (replicate (n - len) 0) ∙ omega arith

-- ---- the oldest packet

pub first_shape : (size n : ℕ) (ram dir : List ℕ) → store.Sound (tx_area size) n ram dir → 0 < n
    → packets_of size n ram dir ≡ begun (get_or dir 768 0 / 2048) (part (8192 - size) (len_of (get_or dir 768 0)) ram) ∷ others (packets_of size n ram dir)
unfolding frames others
first_shape size zero ram dir S h = absurd (omega arith)
first_shape size (suc k) ram dir S h =
    let dirs : 768 + 342 ≤ length dir = S.in_dir in
    let few : suc k ≤ 342 = S.few in
    let w : ℕ = get_or dir 768 0 in
    let cons : part 768 (suc k) dir ≡ w ∷ part 769 k dir = part_cons dir 768 k (omega arith) in
    rw (cons, take-take (len_of w) size (drop (8192 - size) ram) (omega (arith, oldest-room size (suc k) ram dir S h, S.room)))

pub first_short : (size : ℕ) (f : Fifo) (ram dir : List ℕ) → Holds size f ram dir → 0 < f.packets → (len_of (get_or dir 768 0) ≤ 1792) × (8192 - size + len_of (get_or dir 768 0) ≤ length ram)
unfolding all_sized
first_short size f ram dir H some =
    let w : ℕ = get_or dir 768 0 in
    let S = H.packed in
    let inside : 8192 - size + len_of w ≤ length ram = omega (arith, oldest-room size f.packets ram dir S some, S.room, S.in_ram) in
    let e : length (part (8192 - size) (len_of w) ram) ≡ len_of w = part_length ram (8192 - size) (len_of w) inside in
    let g = both (sized (length (part (8192 - size) (len_of w) ram))) (all_sized (others (packets_of size f.packets ram dir))) (rw (first_shape size f.packets ram dir S some) at (sizes size f ram dir H)) in
    let l = both (leb 6 (length (part (8192 - size) (len_of w) ram))) (leb (length (part (8192 - size) (len_of w) ram)) 1792) g.0 in
    (rw e at (leb-true (length (part (8192 - size) (len_of w) ram)) 1792 l.1), inside)

-- what the wire is told of it
pub tells : (size n : ℕ) (f : Fifo) (ram dir out out' : List ℕ) → Holds size f ram dir → 0 < f.packets
    → n ≡ len_of (get_or dir 768 0) + cond (has 4 (get_or dir 768 0 / 2048)) 0 (60 - len_of (get_or dir 768 0))
    → out' ≡ (part (8192 - size) (len_of (get_or dir 768 0)) ram ++ replicate (n - len_of (get_or dir 768 0)) 0) ++ drop n out
    → Tells n out out' (told_of (packets_of size f.packets ram dir))
unfolding told_of
tells size n f ram dir out out' H some e d =
    let w : ℕ = get_or dir 768 0 in
    let S = H.packed in
    let inside = (first_short size f ram dir H some).1 in
    let l : length (part (8192 - size) (len_of w) ram) ≡ len_of w = part_length ram (8192 - size) (len_of w) inside in
    let pad : ℕ = cond (has 4 (w / 2048)) 0 (60 - len_of w) in
    let p : n - len_of w ≡ pad = omega arith in
    let t : told_of (packets_of size f.packets ram dir) ≡ part (8192 - size) (len_of w) ram ++ replicate (n - len_of w) 0 =
    ap told_of (first_shape size f.packets ram dir S some)
    ∙ ap (λ (i : ℕ). part (8192 - size) (len_of w) ram ++ replicate (cond (has 4 (w / 2048)) 0 (60 - i)) 0) l
    ∙ ap (λ (i : ℕ). part (8192 - size) (len_of w) ram ++ replicate i 0) (sym p) in
    record {
      count = sym (ap length t ∙ padded-length ram (8192 - size) (len_of w) n inside (omega arith));
      says = d ∙ ap (λ (x : List ℕ). x ++ drop n out) (sym t);
    }

pub told_bound : (w n : ℕ) → n ≡ w % 2048 + cond (has 4 (w / 2048)) 0 (60 - w % 2048) → w % 2048 ≤ 1792 → (w % 2048 ≤ n) × (n ≤ 1792)
told_bound w n e h = bound (has 4 (w / 2048)) e
  where
    bound : (t : Bool) → n ≡ w % 2048 + cond t 0 (60 - w % 2048) → (w % 2048 ≤ n) × (n ≤ 1792)
    bound true d = (omega arith, omega arith)
    bound false d = (omega arith, omega arith)

-- whether completion is wanted of it
pub wants : (size n : ℕ) (ram dir : List ℕ) → store.Sound (tx_area size) n ram dir → 0 < n → has 16 (get_or dir 768 0 / 2048) ≡ oldest_wanted (packets_of size n ram dir)
unfolding oldest_wanted
wants size n ram dir S h = sym (ap oldest_wanted (first_shape size n ram dir S h))
