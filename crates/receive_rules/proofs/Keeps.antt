-- Every effect on a sound receive side keeps what soundness asks, but for RX Early, which is settled afterwards. Assumes nothing.
use mathlib.Core.Path.{◌≡◌, refl, sym, subst, ◌∙◌}
use mathlib.Core.Bool.{Bool, true, false, cond, not, ◌&&◌, ◌||◌}
use mathlib.Core.List.{List, [], ◌∷◌, ◌++◌}
use Prim.Native.Nat.{ℕ, ◌+◌, ◌≤◌, ◌<◌}
use native.Mathlib.Omega.{arith}
use borrow.Author.Tests.{leb-true, leb-false, le-leb, ltb-false, eqb-false, ne_eqb, not-true}
use lib.Dec.{leb, ltb, eqb, lit<, lit≤}
use lib.ListN.{length, length-append}
use Rattle.store.specs.Store.{at_newest}
use Rattle.receive_rules.specs.declared.Receiver.{Receiver}
use Rattle.receive_rules.specs.Frame.{State, coming, whole, damaged, Frame, Rx, is_coming, overran, room}
use Rattle.receive_rules.specs.Update.{with_on, with_early, with_threshold, with_receiver, with_frames}
use Rattle.receive_rules.specs.Wire.{fresh, begins, fits8, wire_start, longer, fits, full, marked, takes, wire_byte, ending, ends, wire_end}
use Rattle.receive_rules.specs.Reading.{readable, beyond, after_read, without_oldest, discard, deafened, early_default, early_least, rx_reset}
use Rattle.receive_rules.specs.Sound.{sized, ended, started, in_order, early_settled, kept, sound}
use Rattle.bits.proofs.Tests.{by_test, both, join, never, of_test}
use Rattle.receive_rules.proofs.Laws.{room_snoc}
use Rattle.receive_rules.proofs.Count.{beyond_is}
use Rattle.receive_rules.proofs.Facts.{Kept, kept-shown, sound-told, sound-shown, sound-kept}

-- ---- one frame

record Started (f : Frame) : Type 0 where
  pub least : 8 ≤ length f.bytes
  pub most : length f.bytes ≤ 1792
  pub comes : is_coming f.state ≡ true

started-told : (f : Frame) → started f ≡ true → Started f
started-told f h =
    let n : ℕ = length f.bytes in
    let p = both (sized n) (is_coming f.state) h in
    let q = both (leb 8 n) (leb n 1792) p.0 in
    record { least = leb-true 8 n q.0; most = leb-true n 1792 q.1; comes = p.1 }

started-shown : (f : Frame) → Started f → started f ≡ true
started-shown f s = rw (le-leb 8 _ s.least, le-leb _ 1792 s.most, s.comes)

pub marked_comes : (m : Bool) (s : State) → is_coming (marked m s) ≡ is_coming s
unfolding marked is_coming
marked_comes m (coming o) = refl
marked_comes m whole = refl
marked_comes m (damaged k) = refl

-- n bytes have become m: as many, or one more where they were not 1,792
record Grown (n m : ℕ) : Type 0 where
  pub least : n ≤ m
  pub most : m ≤ n + 1
  pub within : n ≤ 1792 → m ≤ 1792

module _ (b : ℕ) (f : Frame) where
  more : length (f.bytes ++ (b ∷ [])) ≡ length f.bytes + 1
  more = length-append f.bytes (b ∷ [])

  -- what a frame's bytes grow to
  grows : (over space : Bool) → Grown (length f.bytes) (length (cond (over || (full f || not space)) f.bytes (f.bytes ++ (b ∷ []))))
  grows true space = record { least = omega arith; most = omega arith; within = λ h. h }
  grows false space = by_test (full f) (λ y. rw y (record { least = omega arith; most = omega arith; within = λ h. h })) (λ m. rw m (way space (leb-false 1792 _ m)))
    where
      way : (space : Bool) → length f.bytes < 1792 → Grown (length f.bytes) (length (cond (not space) f.bytes (f.bytes ++ (b ∷ []))))
      way true l = record { least = omega (arith, more); most = omega (arith, more); within = λ h. omega (arith, more) }
      way false l = record { least = omega arith; most = omega arith; within = λ h. h }

  takes_grows : (space : Bool) → Grown (length f.bytes) (length (takes b space f).bytes)
  takes_grows space = grows (overran f.state) space

  takes-started : (space : Bool) → Started f → Started (takes b space f)
  takes-started space s =
      let t = takes_grows space in
      record { least = omega arith; most = t.within s.most; comes = marked_comes (not (full f) && not space) f.state ∙ s.comes }

  -- with room at most one byte more, without it none
  takes-most : length (takes b true f).bytes ≤ length (f.bytes ++ (b ∷ []))
  takes-most = omega (arith, more, (takes_grows true).most)

  takes_same : length (takes b false f).bytes ≤ length f.bytes
  takes_same = none (overran f.state) (full f)
    where
      none : (over much : Bool) → length (cond (over || (much || true)) f.bytes (f.bytes ++ (b ∷ []))) ≤ length f.bytes
      none true much = omega arith
      none false true = omega arith
      none false false = omega arith

ended-shown : (f : Frame) → 8 ≤ length f.bytes → length f.bytes ≤ 1792 → is_coming f.state ≡ false → ended f ≡ true
ended-shown f l m e = rw (le-leb 8 _ l, le-leb _ 1792 m, e)

not-coming : (f : Frame) → ended f ≡ true → is_coming f.state ≡ false
not-coming f h = not-true (is_coming f.state) (both (sized (length f.bytes)) (not (is_coming f.state)) h).1

-- an ending is not a coming
ending_over : (o : Bool) (n : ℕ) (check alignment : Bool) → is_coming (ending o n check alignment) ≡ false
unfolding ending is_coming
ending_over true n check alignment = refl
ending_over false n check alignment = by_test (ltb 1514 n) (λ y. rw y) (λ m. by_test (ltb n 60) (λ y. rw (m, y)) (λ k. rest check alignment m k))
  where
    rest : (check alignment : Bool) → ltb 1514 n ≡ false → ltb n 60 ≡ false → is_coming (ending false n check alignment) ≡ false
    rest true true m k = rw (m, k)
    rest true false m k = rw (m, k)
    rest false true m k = rw (m, k)
    rest false false m k = rw (m, k)

-- ---- the frames

-- the newest, which was coming, is changed by g: while it comes on, and when it ends
order_at : (s : Bool) (g : Frame → Frame) → ((f : Frame) → started f ≡ true → cond s (started (g f)) (ended (g f)) ≡ true)
    → (fs : List Frame) → in_order true fs ≡ true → in_order s (at_newest g fs) ≡ true
unfolding in_order at_newest
order_at s g k [] h = never h
order_at s g k (f ∷ []) h = k f h
order_at s g k (f ∷ x ∷ []) h =
    let p = both (ended f) (in_order true (x ∷ [])) h in
    join (ended f) (in_order s (at_newest g (x ∷ []))) p.0 (order_at s g k (x ∷ []) p.1)
order_at s g k (f ∷ x ∷ y ∷ fs) h =
    let p = both (ended f) (in_order true (x ∷ y ∷ fs)) h in
    join (ended f) (in_order s (at_newest g (x ∷ y ∷ fs))) p.0 (order_at s g k (x ∷ y ∷ fs) p.1)

order_snoc : (fs : List Frame) (f : Frame) → in_order false fs ≡ true → started f ≡ true → in_order true (fs ++ (f ∷ [])) ≡ true
unfolding in_order
order_snoc [] f h k = k
order_snoc (x ∷ []) f h k = join (ended x) (started f) h k
order_snoc (x ∷ y ∷ fs) f h k =
    let p = both (ended x) (in_order false (y ∷ fs)) h in
    join (ended x) (in_order true ((y ∷ fs) ++ (f ∷ []))) p.0 (order_snoc (y ∷ fs) f p.1 k)

room-le : (g h : Frame → Frame) → ((f : Frame) → length (g f).bytes ≤ length (h f).bytes) → (fs : List Frame) → room (at_newest g fs) ≤ room (at_newest h fs)
unfolding room at_newest
room-le g h k [] = omega arith
room-le g h k (f ∷ []) = omega (arith, k f)
room-le g h k (f ∷ x ∷ fs) = omega (arith, room-le g h k (x ∷ fs))

room-id : (fs : List Frame) → room (at_newest (λ f. f) fs) ≡ room fs
unfolding room at_newest
room-id [] = refl
room-id (f ∷ []) = refl
room-id (f ∷ x ∷ fs) = rw (room-id (x ∷ fs))

-- no less may be read
readable_at : (g : Frame → Frame) → ((f : Frame) → Started f → length f.bytes ≤ readable (g f ∷ [])) → (fs : List Frame) → in_order true fs ≡ true → readable fs ≤ readable (at_newest g fs)
unfolding readable at_newest in_order
readable_at g k [] h = omega arith
readable_at g k (f ∷ []) h =
    let s = started-told f h in
    rw s.comes (k f s)
readable_at g k (f ∷ x ∷ fs) h = omega arith

readable_snoc : (fs : List Frame) (f : Frame) → readable fs ≤ readable (fs ++ (f ∷ []))
unfolding readable
readable_snoc [] f = omega arith
readable_snoc (x ∷ fs) f = omega arith

readable-coming : (f g : Frame) → Started g → length f.bytes ≤ length g.bytes → length f.bytes ≤ readable (g ∷ [])
unfolding readable
readable-coming f g s h = rw s.comes h

readable-ended : (f g : Frame) → is_coming g.state ≡ false → length f.bytes ≤ length g.bytes → length f.bytes ≤ readable (g ∷ [])
unfolding readable
readable-ended f g e h = rw e (omega arith)

-- ---- the effects, as facts

byte-space : (b size : ℕ) (space : Bool) (fs : List Frame) → fits size b fs ≡ space → room fs ≤ size → room (at_newest (takes b space) fs) ≤ size
byte-space b size true fs e h = omega (arith, leb-true (room (at_newest (longer b) fs)) size e, room-le (takes b true) (longer b) (λ f. takes-most b f) fs)
byte-space b size false fs e h = omega (arith, room-id fs, room-le (takes b false) (λ f. f) (λ f. takes_same b f) fs)

byte_facts : (size b : ℕ) (x : Rx) → Kept size x → Kept size (wire_byte size b x)
unfolding wire_byte
byte_facts size b x k =
    by_test (eqb x.receiver.wire 2)
    (λ e.
    let fs : List Frame = x.frames in
    let space : Bool = fits size b fs in
    let o : in_order true fs ≡ true = rw e at k.order in
    let o' : in_order true (at_newest (takes b space) fs) ≡ true = order_at true (takes b space) (λ f h. started-shown _ (takes-started b f space (started-told f h))) fs o in
    let r = readable_at (takes b space) (λ f s. readable-coming f (takes b space f) (takes-started b f space s) (takes_grows b f space).least) fs o in
    rw e (record { space = byte-space b size space fs refl k.space; wire = k.wire; order = rw e o'; read = omega (arith, r, k.read); threshold = k.threshold; early = k.early }))
    (λ e. rw e k)

end_facts : (size : ℕ) (check alignment : Bool) (x : Rx) → Kept size x → Kept size (wire_end check alignment x)
unfolding wire_end
end_facts size check alignment x k =
    by_test (eqb x.receiver.wire 2)
    (λ e.
    let fs : List Frame = x.frames in
    let g : Frame → Frame = ends check alignment in
    let o : in_order true fs ≡ true = rw e at k.order in
    let over : (f : Frame) → is_coming (g f).state ≡ false = λ f. ending_over (overran f.state) (length f.bytes) check alignment in
    let o' : in_order false (at_newest g fs) ≡ true = order_at false g (λ f h. let s = started-told f h in ended-shown (g f) s.least s.most (over f)) fs o in
    let r = readable_at g (λ f s. readable-ended f (g f) (over f) (omega arith)) fs o in
    let same : room (at_newest g fs) ≤ room (at_newest (λ f. f) fs) = room-le g (λ f. f) (λ f. omega arith) fs in
    rw e (record { space = omega (arith, room-id fs, k.space); wire = lit≤ tt; order = o'; read = omega (arith, r, k.read); threshold = k.threshold; early = k.early }))
    (λ e. rw e (record { space = k.space; wire = lit≤ tt; order = rw e at k.order; read = k.read; threshold = k.threshold; early = k.early }))

start_facts : (size : ℕ) (taken : Bool) (first : List ℕ) (x : Rx) → length first ≡ 8 → x.receiver.wire ≡ 0 → Kept size x → Kept size (wire_start size taken first x)
unfolding wire_start begins is_coming
start_facts size taken first x n w k = way (taken && (x.receiver.on && fits8 size fs)) (λ t. (both x.receiver.on (fits8 size fs) (both taken _ t).1).1)
  where
    fs : List Frame
    fs = x.frames

    o : in_order false fs ≡ true
    o = rw w at k.order

    s : Started (fresh first)
    s = record { least = omega arith; most = omega arith; comes = refl }

    way : (t : Bool) → (t ≡ true → fits8 size fs ≡ true) → Kept size (begins t first x)
    way true h = record {
      space = rw (room_snoc fs (fresh first), n) (leb-true (room fs + 8) size (h refl));
      wire = lit≤ tt;
      order = order_snoc fs (fresh first) o (started-shown (fresh first) s);
      read = omega (arith, readable_snoc fs (fresh first), k.read);
      threshold = k.threshold;
      early = k.early;
    }
    way false h = record { space = k.space; wire = lit≤ tt; order = o; read = k.read; threshold = k.threshold; early = k.early }

-- the oldest leaves
leaves : (size : ℕ) (fs : List Frame) (x : Rx) → Kept size (with_frames fs x) → Kept size (without_oldest (with_frames fs x) fs)
unfolding without_oldest room in_order
leaves size [] x k = k
leaves size (f ∷ []) x k =
    by_test (eqb x.receiver.wire 2)
    (λ e.
    let s = started-told f (rw e at k.order) in
    record { space = omega (arith, k.space); wire = rw s.comes (lit≤ tt); order = rw s.comes; read = omega arith; threshold = k.threshold; early = refl })
    (λ e.
    let q = not-coming f (rw e at k.order) in
    record { space = omega (arith, k.space); wire = rw q k.wire; order = rw (q, e); read = omega arith; threshold = k.threshold; early = refl })
leaves size (f ∷ g ∷ fs) x k =
    let p = both (ended f) (in_order (eqb x.receiver.wire 2) (g ∷ fs)) k.order in
    let q = not-coming f p.0 in
    record { space = omega (arith, k.space); wire = rw q k.wire; order = subst (λ (b : Bool). in_order (eqb (cond b 1 x.receiver.wire) 2) (g ∷ fs) ≡ true) (sym q) p.1; read = omega arith; threshold = k.threshold; early = refl }

read_facts : (size : ℕ) (x : Rx) → Kept size x → Kept size (after_read x)
unfolding after_read
read_facts size x k =
    of_test (λ (r : Receiver). Kept size (with_receiver r x)) x.receiver.failed
    (λ e. k)
    (λ e.
    of_test (λ (r : Receiver). Kept size (with_receiver r x)) (beyond x)
    (λ t. record { space = k.space; wire = k.wire; order = k.order; read = k.read; threshold = k.threshold; early = k.early })
    (λ t. record { space = k.space; wire = k.wire; order = k.order; read = ltb-false _ _ (sym (beyond_is x) ∙ t); threshold = k.threshold; early = k.early }))

-- ---- every effect on a sound receive side keeps it

module _ (size : ℕ) (x : Rx) (h : sound size x ≡ true) where
  facts : Kept size x
  facts = (sound-told size x h).0

  pub start-kept : (taken : Bool) (first : List ℕ) → length first ≡ 8 → x.receiver.wire ≡ 0 → kept size (wire_start size taken first x) ≡ true
  start-kept taken first n w = kept-shown size _ (start_facts size taken first x n w facts)

  pub byte-kept : (b : ℕ) → kept size (wire_byte size b x) ≡ true
  byte-kept b = kept-shown size _ (byte_facts size b x facts)

  pub end_kept : (check alignment : Bool) → kept size (wire_end check alignment x) ≡ true
  end_kept check alignment = kept-shown size _ (end_facts size check alignment x facts)

  pub read_kept : kept size (after_read x) ≡ true
  read_kept = kept-shown size _ (read_facts size x facts)

  pub discard-kept : kept size (discard x) ≡ true
  unfolding discard
  discard-kept = kept-shown size _ (of_test (Kept size) x.receiver.failed (λ e. facts) (λ e. leaves size x.frames x facts))

  pub on-kept : (v : Bool) → kept size (with_receiver (with_on v x.receiver) x) ≡ true
  on-kept v = sound-kept size x h

  pub threshold_kept : (v : ℕ) → (early_least ≤ v) × (v ≤ 2047) → kept size (with_receiver (with_threshold v x.receiver) x) ≡ true
  threshold_kept v between =
      let k = facts in
      kept-shown size (with_receiver (with_threshold v x.receiver) x)
      (record { space = k.space; wire = k.wire; order = k.order; read = k.read; threshold = between; early = k.early })

  -- RX Early is acknowledged, or stays as it was
  pub early_kept : (b : Bool) → kept size (with_receiver (with_early (b && x.receiver.early) x.receiver.told x.receiver) x) ≡ true
  early_kept b =
      let k = facts in
      kept-shown size (with_receiver (with_early (b && x.receiver.early) x.receiver.told x.receiver) x)
      (record { space = k.space; wire = k.wire; order = k.order; read = k.read; threshold = k.threshold; early = less b x.receiver.told x.receiver.early k.early })
    where
      less : (b told early : Bool) → (told || not early) ≡ true → (told || not (b && early)) ≡ true
      less b true early e = refl
      less true false early e = e
      less false false early e = refl

-- ---- the size matters to the frames' room alone, so an empty store is sound in any part of the RAM

pub sound_resized : (size other : ℕ) (x : Rx) → room x.frames ≤ other → sound size x ≡ true → sound other x ≡ true
sound_resized size other x space h =
    let p = sound-told size x h in
    let k = p.0 in
    sound-shown other x (record { space = space; wire = k.wire; order = k.order; read = k.read; threshold = k.threshold; early = k.early }) p.1

pub empty_resized : (size other : ℕ) (x : Rx) → x.frames ≡ [] → sound size x ≡ true → sound other x ≡ true
unfolding room
empty_resized size other x e h = sound_resized size other x (rw e (omega arith)) h

-- nothing stored, nothing read, and the wire idle or ignored: power-on, and RX Reset
pub empty-sound : (size wire threshold : ℕ) (on failed : Bool) → wire < 2 → (early_least ≤ threshold) × (threshold ≤ 2047)
    → sound size (record { receiver = record { on = on; failed = failed; early = false; told = false; threshold = threshold; read = 0; wire = wire }; frames = [] }) ≡ true
unfolding room readable in_order early_settled
empty-sound size wire threshold on failed w t =
    rw (le-leb 0 size (omega arith), le-leb wire 2 (omega arith), ne_eqb wire 2 (λ e. omega arith), le-leb 0 0 (omega arith), le-leb early_least threshold t.0, le-leb threshold 2047 t.1)

-- a frame on the wire is ignored to its end
pub deafened-quiet : (wire : ℕ) → wire ≤ 2 → deafened wire < 2
deafened-quiet wire h = of_test (λ (n : ℕ). n < 2) (eqb wire 2) (λ e. lit< tt) (λ e. let n = eqb-false wire 2 e in omega arith)

pub reset-sound : (size : ℕ) (x : Rx) → x.receiver.wire ≤ 2 → sound size (rx_reset x) ≡ true
unfolding rx_reset
reset-sound size x h = empty-sound size (deafened x.receiver.wire) early_default false false (deafened-quiet x.receiver.wire h) (lit≤ tt, lit≤ tt)

pub reset-kept : (size : ℕ) (x : Rx) → x.receiver.wire ≤ 2 → kept size (rx_reset x) ≡ true
reset-kept size x h = sound-kept size (rx_reset x) (reset-sound size x h)
