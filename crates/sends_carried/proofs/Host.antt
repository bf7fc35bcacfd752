-- What a host writes word by word is one packet, and what the wire is told of it. Assumes nothing.
use mathlib.Core.Path.{◌≡◌, ap, ◌∙◌}
use mathlib.Core.Bool.{Bool, true, false, cond}
use mathlib.Core.List.{List, [], ◌∷◌, ◌++◌}
use Prim.Native.Nat.{ℕ, ◌+◌, ◌-◌, ◌/◌, ◌%◌, ◌≤◌}
use native.Mathlib.Omega.{arith}
use borrow.Author.Tests.{leb-true}
use lib.ListN.{length, take, replicate}
use lib.Dec.{eqb, leb}
use Rattle.bits.specs.Bits.{has}
use Rattle.bits.proofs.Tests.{both}
use Rattle.store.specs.Store.{Frame, len_of, round4}
use Rattle.transmit_rules.specs.Queue.{Queue, no_part, room, free}
use Rattle.transmit_rules.specs.Whole.{puts, bytes_of}
use Rattle.transmit_rules.specs.Leave as leave
use Rattle.transmit_rules.specs.Leave.{told_of, others}
use Rattle.transmit_rules.specs.Tx as tx
use Rattle.transmit_rules.specs.Tx.{ready}
use Rattle.transmit_rules.proofs.Whole.{written-whole}
use Rattle.card_rules.specs.Adapter.{Adapter}
use Rattle.card_rules.specs.Room.{tx_room}
use Rattle.card_rules.specs.Event as card
use Rattle.card_rules.specs.Settle.{settle}
use Rattle.driver_rules.specs.Talk.{after_writes}
use Rattle.runs.specs.Run as run
use Rattle.runs.specs.Run.{Bench, said, next}
use Rattle.sends_carried.specs.Host.{Whole, Writable, packet, on_the_wire, HostPacketsGoOnTheWire}
use Rattle.sends_carried.proofs.Words.{puts-clear}
use Rattle.sends_carried.proofs.Stored.{writes}

-- ---- stored

within : (size w : ℕ) (q : Queue) → q.part.words ≡ 0 → 4 + round4 (len_of w) ≤ free size q → room q.packets + (4 + round4 (len_of w)) ≤ size
unfolding free
within size w q none space = omega (arith, none, space)

puts_whole : (size w z : ℕ) (ds : List ℕ) (q : Queue) → Whole w ds → q.failed ≡ false → q.part.words ≡ 0 → 4 + round4 (len_of w) ≤ free size q
    → puts size (w ∷ z ∷ ds) q ≡ record { failed = false; packets = q.packets ++ (packet w ds ∷ []); part = no_part }
puts_whole size w z [] q k ok none space =
    let six : 6 ≤ len_of w = leb-true 6 (len_of w) (both (leb 6 (len_of w)) (leb (len_of w) 1792) k.length_fits).0 in
    absurd (omega (arith, k.padded, six))
puts_whole size w z (v ∷ vs) q k ok none space =
    let sum : room q.packets + (4 + round4 (len_of w)) ≤ size = within size w q none space in
    puts-clear size w (z ∷ v ∷ vs) q ok none (omega (arith, space)) k.length_fits
    ∙ written-whole size w z v vs q.packets k.length_fits k.padded sum

stores : (w z : ℕ) (ds : List ℕ) (a : Adapter) → Whole w ds → Writable w a →
    (after_writes (w ∷ z ∷ ds) a).tx.queue ≡ record { failed = false; packets = a.tx.queue.packets ++ (packet w ds ∷ []); part = no_part }
stores w z ds a k f =
    (writes (w ∷ z ∷ ds) a f.active f.window).queue
    ∙ puts_whole (tx_room a) w z ds a.tx.queue k f.no_failure f.none_half_written f.fits

-- ---- gone

-- bit 13 of the preamble stands in the word that is kept
bit_13 : (w : ℕ) → has 4 (w / 2048) ≡ has 0x2000 w
bit_13 w =
    let same : w / 2048 / 4 ≡ w / 8192 = omega arith in
    ap (λ (n : ℕ). eqb (n % 2) 1) same

-- of any packet
pub any_told : (p : Frame) (newer : List Frame) (b : Bench) → b.adapter.tx.queue.packets ≡ p ∷ newer → ready b.adapter.tx ≡ true →
    (said run.Sent b ≡ run.told (leave.told p) ∷ []) × ((next run.Sent b).adapter.tx.queue.packets ≡ newer)
unfolding said next told_of card.success settle tx.success others
any_told p newer b e r = (rw (r, e), rw (r, e))

goes : (w : ℕ) (ds : List ℕ) (newer : List Frame) (b : Bench) → b.adapter.tx.queue.packets ≡ packet w ds ∷ newer → ready b.adapter.tx ≡ true →
    (said run.Sent b ≡ run.told (on_the_wire w ds) ∷ []) × ((next run.Sent b).adapter.tx.queue.packets ≡ newer)
goes w ds newer b e r =
    let t = any_told (packet w ds) newer b e r in
    let bytes : List ℕ = take (len_of w) (bytes_of ds) in
    (t.0 ∙ ap (λ (c : Bool). run.told (bytes ++ replicate (cond c 0 (60 - length bytes)) 0) ∷ []) (bit_13 w), t.1)

pub host_packets : HostPacketsGoOnTheWire
host_packets = record { stored = stores; gone = goes }
