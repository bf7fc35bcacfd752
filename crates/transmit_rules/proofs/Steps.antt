-- Steps of the FIFO and of the outcomes as steps of the transmit side. Assumes nothing.
use mathlib.Core.Path.{◌≡◌, refl, sym, ap, ap₂, ◌∙◌}
use mathlib.Core.Bool.{Bool, true, false, not, ◌&&◌}
use mathlib.Core.List.{List}
use Prim.Native.Nat.{ℕ, zero, suc, ◌+◌, ◌≤◌, ◌<◌}
use native.Mathlib.Omega.{arith}
use borrow.Author.Tests.{lt-ltb, ltb-true}
use lib.Dec.{ltb}
use lib.ListN.{length}
use Rattle.store.specs.Store as store
use Rattle.store.specs.Store.{frames}
use Rattle.store.proofs.Laws.{part_cons}
use Rattle.transmit_rules.specs.declared.Fifo.{Fifo}
use Rattle.transmit_rules.specs.Queue.{Queue}
use Rattle.transmit_rules.specs.QueueView.{tx_area, packets_of, queue_of, Packed, Turns}
use Rattle.bits.proofs.Tests.{both}
use Rattle.transmit_rules.proofs.Put.{turns_same}
use Rattle.transmit_rules.specs.declared.Outcomes.{Outcomes}
use Rattle.transmit_rules.specs.Reports.{Reports}
use Rattle.transmit_rules.specs.OutcomesView.{Reported}
use Rattle.transmit_rules.specs.declared.Transmit.{Transmit}
use Rattle.transmit_rules.specs.Tx.{with_reports, any, ready}
use Rattle.transmit_rules.specs.View.{tx_of, Step}

-- the FIFO turns to q, and the outcomes are r
pub step-turns : (size : ℕ) (f : Fifo) (o : Outcomes) (ram dir ram' dir' : List ℕ) (q : Queue) (r : Reports) → Turns size f ram dir ram' dir' q → Reported o r
    → Step size (record { fifo = f; outcomes = o }) ram dir ram' dir' (record { queue = q; reports = r })
step-turns size f o ram dir ram' dir' q r T R =
    record { shows = ap₂ (λ (p : Queue) (s : Reports). record { queue = p; reports = s }) T.holds R.tells; packed = T.packed; stacked = R.stacked; ram_kept = T.ram_kept; dir_kept = T.dir_kept }

-- the FIFO stays, and the outcomes are r
pub step-reports : (size : ℕ) (t : Transmit) (o : Outcomes) (ram dir : List ℕ) (r : Reports) → Packed size t.fifo ram dir → Reported o r
    → Step size (record { fifo = t.fifo; outcomes = o }) ram dir ram dir (with_reports r (tx_of size t ram dir))
step-reports size t o ram dir r P R = step-turns size t.fifo o ram dir ram dir (queue_of size t.fifo ram dir) r (turns_same size t.fifo ram dir (queue_of size t.fifo ram dir) P refl) R

-- what is reported as b says is reported as d says
pub report_as : (o : Outcomes) (g : Bool → Reports) (b d : Bool) → b ≡ d → Reported o (g b) → Reported o (g d)
report_as o g b d e R = record { tells = R.tells ∙ ap g e; stacked = R.stacked }

-- the FIFO is emptied where it lies
abbrev pub emptied : Fifo
emptied = record { failed = false; packets = 0; words = 0 }

-- a whole packet is stored where the count is not 0
pub any_of : (size n : ℕ) (ram dir : List ℕ) → store.Sound (tx_area size) n ram dir → any (packets_of size n ram dir) ≡ ltb 0 n
unfolding any frames
any_of size zero ram dir S = refl
any_of size (suc k) ram dir S =
    let few : suc k ≤ 342 = S.few in
    let dirs : 768 + 342 ≤ length dir = S.in_dir in
    rw (part_cons dir 768 k (omega arith), lt-ltb 0 (suc k) (omega arith))

-- a send outcome is possible: there is a packet
pub ready-some : (size : ℕ) (t : Transmit) (ram dir : List ℕ) → Packed size t.fifo ram dir → ready (tx_of size t ram dir) ≡ true → 0 < t.fifo.packets
ready-some size t ram dir P h =
    let n : ℕ = t.fifo.packets in
    let p = both (t.outcomes.sender.on && not t.fifo.failed) (any (packets_of size n ram dir)) h in
    ltb-true 0 n (sym (any_of size n ram dir P) ∙ p.1)
