-- Each event keeps the order of the packets, and an outcome tells the wire of the oldest; so any sequence does. Assumes nothing.
use mathlib.Core.Path.{◌≡◌, refl, sym, ap, ◌∙◌}
use mathlib.Core.Bool.{Bool, true, false, cond, not, ◌&&◌}
use mathlib.Core.List.{List, [], ◌∷◌, ◌++◌, map, append_assoc, append-nil, map-append}
use Prim.Native.Nat.{ℕ}
use lib.ListN.{length}
use Rattle.bits.proofs.Tests.{both, of_cond, by_test, never}
use Rattle.port_rules.specs.declared.IdState.{IdState}
use Rattle.port_rules.specs.Card.{id_write, id_after_read}
use Rattle.store.specs.Store.{Frame}
use Rattle.transmit_rules.specs.Queue.{Queue}
use Rattle.transmit_rules.specs.Leave as leave
use Rattle.transmit_rules.specs.Leave.{told_of, others}
use Rattle.transmit_rules.specs.Tx as tx
use Rattle.transmit_rules.specs.Tx.{ready}
use Rattle.card_rules.specs.Adapter.{Adapter}
use Rattle.card_rules.specs.Power.{power_on}
use Rattle.card_rules.specs.Settle.{settle}
use Rattle.card_rules.specs.Event as card
use Rattle.card_rules.specs.Calls as calls
use Rattle.driver_rules.specs.Send as sending
use Rattle.runs.specs.Run.{Bench, Areas, full, Event, Start, Byte, End, Sent, Collided, Open, Send, Service, Said, refused, told, answered, served, with_adapter, wire, refusing, opens, serves, next, said, after, sayings, before}
use Rattle.sends_carried.specs.Packets.{are_bytes, stored, padded, packets, Clear, answer_to, accepts, accepted, sends_bytes, Gone, oldest, leaves, gone, all_succeed, on_wire, successes}
use Rattle.sends_carried.specs.Carried.{ASuccessTellsTheBytes, SendsAreCarried, ClearStates}
use Rattle.sends_carried.proofs.Quiet.{Same, open_quiet, service-quiet}
use Rattle.sends_carried.proofs.Stored.{answers, stored-whole}
use Rattle.sends_carried.proofs.Host.{any_told}

-- ---- a success

some_stored : (x : tx.Tx) → ready x ≡ true → tx.any x.queue.packets ≡ true
some_stored x r = (both (x.reports.sender.on && not x.queue.failed) (tx.any x.queue.packets) r).1

pub tells : ASuccessTellsTheBytes
tells packet newer b e r = any_told (stored packet) newer b e r

-- ---- one event

abbrev frame_of : Gone → Frame
frame_of g = g.packet

record Step (e : Event) (b : Bench) : Type 0 where
  in_order : packets b ++ map stored (accepts e b) ≡ map frame_of (leaves e b) ++ packets (next e b)
  on_wire_is : on_wire (said e b) ≡ successes (leaves e b)
  clear : Clear (next e b)

-- an event that leaves the FIFO alone
unmoved : (a b : Bench) → Clear a → Same a.adapter b.adapter → Clear b
unmoved a b c s =
    record { no_failure = ap (λ (q : Queue). q.failed) s ∙ c.no_failure; none_half_written = ap (λ (q : Queue). q.part.words) s ∙ c.none_half_written }

same-packets : (a b : Bench) → Same a.adapter b.adapter → packets a ++ [] ≡ packets b
same-packets a b s = append-nil (packets a) ∙ ap (λ (q : Queue). q.packets) (sym s)

-- a wire event answers nothing, or is refused
silent : (ok : Bool) → on_wire (refusing ok) ≡ []
unfolding on_wire
silent true = refl
silent false = refl

-- an event that leaves the FIFO alone, takes nothing and tells the wire nothing
still : (e : Event) (b : Bench) → accepts e b ≡ [] → leaves e b ≡ [] → on_wire (said e b) ≡ [] → Clear b → Same b.adapter (next e b).adapter → Step e b
unfolding successes
still e b x l w c s = record { in_order = rw (x, l) (same-packets b (next e b) s); on_wire_is = rw l w; clear = unmoved b (next e b) c s }

start-same : (first : List ℕ) (eight : length first ≡ 8) (b : Bench) → Same b.adapter (next (Start first eight) b).adapter
unfolding next card.wire_start settle
start-same first eight b = of_cond (Same b.adapter) (calls.off_wire (wire b)) refl refl

byte-same : (v : ℕ) (b : Bench) → Same b.adapter (next (Byte v) b).adapter
unfolding next card.wire_byte settle
byte-same v b = of_cond (Same b.adapter) (calls.on_wire (wire b)) refl refl

end_same : (check alignment : Bool) (b : Bench) → Same b.adapter (next (End check alignment) b).adapter
unfolding next card.wire_end settle
end_same check alignment b = of_cond (Same b.adapter) (calls.on_wire (wire b)) refl refl

open_same : (w₀ w₁ w₂ : ℕ) (b : Bench) → Same b.adapter (next (Open w₀ w₁ w₂) b).adapter
unfolding next opens
open_same w₀ w₁ w₂ b = open_quiet b.driver w₀ w₁ w₂ b.adapter

service-same : (budget : ℕ) (s : Areas) (b : Bench) → Same b.adapter (next (Service budget s) b).adapter
unfolding next serves
service-same budget s b = service-quiet (full s) b.driver budget b.adapter

send-step : (packet : List ℕ) (b : Bench) → are_bytes packet ≡ true → Clear b → Step (Send packet) b
unfolding accepts leaves said successes on_wire
send-step packet b bytes c =
    let A = answers packet b in
    by_test (sending.refusing (answer_to packet b))
    (λ r.
    record { in_order = rw (A.answer, r) (same-packets b (next (Send packet) b) (A.fifo_kept r)); on_wire_is = refl; clear = unmoved b (next (Send packet) b) c (A.fifo_kept r) })
    (λ t.
    let S = stored-whole packet b bytes c t in
    record { in_order = rw (A.answer, t) (sym S.last); on_wire_is = refl; clear = S.clear })

-- an outcome, and the packets at it
leaves-first : (success : Bool) (ps : List Frame) → tx.any ps ≡ true → ps ++ [] ≡ map frame_of (oldest success ps) ++ others ps
unfolding tx.any oldest others
leaves-first success [] e = never e
leaves-first success (p ∷ ps) e = append-nil (p ∷ ps)

told-first : (ps : List Frame) → tx.any ps ≡ true → on_wire (told (told_of ps) ∷ []) ≡ successes (oldest true ps)
unfolding tx.any oldest told_of on_wire successes
told-first [] e = never e
told-first (p ∷ ps) e = refl

quiet-first : (ps : List Frame) → successes (oldest false ps) ≡ []
unfolding oldest successes
quiet-first [] = refl
quiet-first (p ∷ ps) = refl

sent-step : (b : Bench) → Clear b → Step Sent b
unfolding accepts leaves said next card.success settle tx.success on_wire successes
sent-step b c =
    by_test (ready b.adapter.tx)
    (λ r.
    record {
      in_order = rw r (leaves-first true (packets b) (some_stored b.adapter.tx r));
      on_wire_is = rw r (told-first (packets b) (some_stored b.adapter.tx r));
      clear = rw r (record { no_failure = c.no_failure; none_half_written = c.none_half_written });
    })
    (λ n. record { in_order = rw n (append-nil (packets b)); on_wire_is = rw n refl; clear = rw n c })

collided-step : (b : Bench) → Clear b → Step Collided b
unfolding accepts leaves said next card.collisions settle tx.collisions on_wire successes
collided-step b c =
    by_test (ready b.adapter.tx)
    (λ r.
    record {
      in_order = rw r (leaves-first false (packets b) (some_stored b.adapter.tx r));
      on_wire_is = rw r (sym (quiet-first (packets b)));
      clear = rw r (record { no_failure = c.no_failure; none_half_written = c.none_half_written });
    })
    (λ n. record { in_order = rw n (append-nil (packets b)); on_wire_is = rw n refl; clear = rw n c })

-- the bytes that an event hands to a send
abbrev Handed : Event → Type 0
Handed (Start first eight) = Unit {0}
Handed (Byte v) = Unit {0}
Handed (End check alignment) = Unit {0}
Handed Sent = Unit {0}
Handed Collided = Unit {0}
Handed (Open w₀ w₁ w₂) = Unit {0}
Handed (Send packet) = are_bytes packet ≡ true
Handed (Service budget s) = Unit {0}

step : (e : Event) (b : Bench) → Handed e → Clear b → Step e b
unfolding accepts leaves said on_wire
step (Start first eight) b h c = still (Start first eight) b refl refl (silent (calls.off_wire (wire b))) c (start-same first eight b)
step (Byte v) b h c = still (Byte v) b refl refl (silent (calls.on_wire (wire b))) c (byte-same v b)
step (End check alignment) b h c = still (End check alignment) b refl refl (silent (calls.on_wire (wire b))) c (end_same check alignment b)
step Sent b h c = sent-step b c
step Collided b h c = collided-step b c
step (Open w₀ w₁ w₂) b h c = still (Open w₀ w₁ w₂) b refl refl refl c (open_same w₀ w₁ w₂ b)
step (Send packet) b h c = send-step packet b h c
step (Service budget s) b h c = still (Service budget s) b refl refl refl c (service-same budget s b)

-- ---- lists of answers, one after the other

wire-append : (xs ys : List Said) → on_wire (xs ++ ys) ≡ on_wire xs ++ on_wire ys
unfolding on_wire
wire-append [] ys = refl
wire-append (refused n ∷ xs) ys = wire-append xs ys
wire-append (told bytes ∷ xs) ys = ap {B = List (List ℕ)} (λ l. bytes ∷ l) (wire-append xs ys)
wire-append (answered p ∷ xs) ys = wire-append xs ys
wire-append (served p bytes s ∷ xs) ys = wire-append xs ys

-- one more, or not
one_more : (b : Bool) (x : List ℕ) (l m r : List (List ℕ)) → l ≡ m ++ r → cond b (x ∷ l) l ≡ cond b (x ∷ m) m ++ r
one_more true x l m r e = ap {B = List (List ℕ)} (λ k. x ∷ k) e
one_more false x l m r e = e

successes-append : (xs ys : List Gone) → successes (xs ++ ys) ≡ successes xs ++ successes ys
unfolding successes
successes-append [] ys = refl
successes-append (g ∷ xs) ys = one_more g.success (leave.told g.packet) (successes (xs ++ ys)) (successes xs) (successes ys) (successes-append xs ys)

-- ---- any sequence

handed : (e : Event) (es : List Event) → sends_bytes (e ∷ es) ≡ true → Handed e × (sends_bytes es ≡ true)
unfolding sends_bytes
handed (Start first eight) es h = (tt, h)
handed (Byte v) es h = (tt, h)
handed (End check alignment) es h = (tt, h)
handed Sent es h = (tt, h)
handed Collided es h = (tt, h)
handed (Open w₀ w₁ w₂) es h = (tt, h)
handed (Send packet) es h = both (are_bytes packet) (sends_bytes es) h
handed (Service budget s) es h = (tt, h)

record Steps (es : List Event) (b : Bench) : Type 0 where
  in_order : packets b ++ map stored (accepted es b) ≡ map frame_of (gone es b) ++ packets (after es b)
  on_wire_is : on_wire (sayings es b) ≡ successes (gone es b)
  clear : Clear (after es b)

-- what was stored and taken, then gone and stored, twice
in_turn_lem : (p₀ a₁ a₂ g₁ p₁ g₂ p₂ : List Frame) → p₀ ++ a₁ ≡ g₁ ++ p₁ → p₁ ++ a₂ ≡ g₂ ++ p₂ → p₀ ++ (a₁ ++ a₂) ≡ (g₁ ++ g₂) ++ p₂
in_turn_lem p₀ a₁ a₂ g₁ p₁ g₂ p₂ e f =
    sym (append_assoc p₀ a₁ a₂) ∙ ap (λ (l : List Frame). l ++ a₂) e ∙ append_assoc g₁ p₁ a₂ ∙ ap (λ (l : List Frame). g₁ ++ l) f ∙ sym (append_assoc g₁ g₂ p₂)

steps : (es : List Event) (b : Bench) → sends_bytes es ≡ true → Clear b → Steps es b
unfolding accepted gone sayings after on_wire successes
steps [] b h c = record { in_order = append-nil (packets b); on_wire_is = refl; clear = c }
steps (e ∷ es) b h c =
    let H = handed e es h in
    let S = step e b H.0 c in
    let T = steps es (next e b) H.1 S.clear in
    record {
      in_order =
          rw (map-append stored (accepts e b) (accepted es (next e b)), map-append frame_of (leaves e b) (gone es (next e b)))
          (in_turn_lem (packets b) (map stored (accepts e b)) (map stored (accepted es (next e b))) (map frame_of (leaves e b)) (packets (next e b)) (map frame_of (gone es (next e b)))
          (packets (after es (next e b))) S.in_order T.in_order);
      on_wire_is =
          wire-append (said e b) (sayings es (next e b)) ∙ (λ j. S.on_wire_is j ++ T.on_wire_is j) ∙ sym (successes-append (leaves e b) (gone es (next e b)));
      clear = T.clear;
    }

-- without collisions every packet that has gone is told
all_told : (gs : List Gone) → all_succeed gs ≡ true → map leave.told (map frame_of gs) ≡ successes gs
unfolding all_succeed successes
all_told [] h = refl
all_told (g ∷ gs) h =
    let a = both g.success (all_succeed gs) h in
    rw a.0 (ap {B = List (List ℕ)} (λ l. leave.told g.packet ∷ l) (all_told gs a.1))

-- a packet of the driver's is told as its bytes and zeros
told-padded : (ps : List (List ℕ)) → map leave.told (map stored ps) ≡ map padded ps
told-padded [] = refl
told-padded (p ∷ ps) = ap {B = List (List ℕ)} (λ l. padded p ∷ l) (told-padded ps)

bytes-told : (es : List Event) (b : Bench) → Steps es b → packets b ≡ [] → all_succeed (gone es b) ≡ true
    → on_wire (sayings es b) ++ map leave.told (packets (after es b)) ≡ map padded (accepted es b)
bytes-told es b S none all =
    ap (λ (l : List (List ℕ)). l ++ map leave.told (packets (after es b))) (S.on_wire_is ∙ sym (all_told (gone es b) all))
    ∙ sym (map-append leave.told (map frame_of (gone es b)) (packets (after es b)))
    ∙ ap (λ (l : List Frame). map leave.told l) (sym S.in_order ∙ ap (λ (l : List Frame). l ++ map stored (accepted es b)) none)
    ∙ told-padded (accepted es b)

pub carried : SendsAreCarried
carried es b h c =
    let S = steps es b h c in
    record { in_order = S.in_order; on_wire_is = S.on_wire_is; byte_for_byte = bytes-told es b S; clear = S.clear }

-- ---- clear states

seat-clear : (i : IdState) (b : Bench) → Clear b → Clear (with_adapter (card.seat i b.adapter) b)
unfolding card.seat card.seated settle power_on
seat-clear i b c =
    of_cond (λ (x : Adapter). Clear (with_adapter (settle x) b)) i.due (record { no_failure = refl; none_half_written = refl })
    (record { no_failure = c.no_failure; none_half_written = c.none_half_written })

pub clear : ClearStates
unfolding before power_on
clear =
    record {
      at_power_on_is = λ words. record { no_failure = refl; none_half_written = refl };
      id_write_call = λ p small byte b c. seat-clear (id_write b.adapter.id p byte) b c;
      id_read = λ p small bus b c. seat-clear (id_after_read b.adapter.id p bus) b c;
    }
