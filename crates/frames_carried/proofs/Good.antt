-- The good frames of a store through the wire's events, and what was heard of the newest. Assumes nothing.
use mathlib.Core.Path.{◌≡◌, refl, sym, ap, ◌∙◌}
use mathlib.Core.Bool.{Bool, true, false, cond, not, ◌&&◌, ◌||◌}
use mathlib.Core.List.{List, [], ◌∷◌, ◌++◌, append_assoc, append-nil}
use Prim.Native.Nat.{ℕ, zero, suc, ◌+◌, ◌/◌, ◌%◌, ◌≤◌, ◌<◌}
use native.Mathlib.Omega.{arith}
use borrow.Author.Tests.{leb-true, le-leb, lt-leb, ltb-true, ltb-false, le-ltb, eq-eqb, not-true}
use lib.ListN.{length, get_or}
use lib.Dec.{leb, ltb, eqb}
use lib.IntN.{ℤ, pos}
use Rattle.bits.specs.Bits.{has}
use Rattle.bits.proofs.Tests.{both, join, neither, never, by_test, of_cond}
use Rattle.store.specs.Store.{at_newest}
use Rattle.receive_rules.specs.Frame.{State, coming, whole, damaged, Frame, is_coming, overran, room}
use Rattle.receive_rules.specs.Wire.{fresh, full, marked, takes, ending, end_of, ends}
use Rattle.receive_rules.specs.Count.{unread, encoded, decoded}
use Rattle.receive_rules.specs.Reading.{marks, complete}
use Rattle.receive_rules.specs.Sound.{sized, started, ended, in_order}
use Rattle.receive_rules.proofs.Keeps.{marked_comes}
use Rattle.receive_rules.proofs.Taking.{takes_none, takes-marks, takes-longer}
use Rattle.receive_rules.proofs.Count.{unread-between, decoded-encoded}
use Rattle.driver_rules.specs.Registers.{outside_frame, bad, length_of, length_in}
use Rattle.driver_rules.proofs.Count.{good-told}
use Rattle.frames_carried.specs.Bytes.{octets, code_fits, holdable}
use Rattle.frames_carried.specs.Brings.{if_good, good, newest, is_whole, no_code}
use Rattle.frames_carried.specs.Reads.{offered}

-- ---- good frames

pub good-append : (fs gs : List Frame) → good (fs ++ gs) ≡ good fs ++ good gs
unfolding good
good-append [] gs = refl
good-append (f ∷ fs) gs = rw (good-append fs gs, append_assoc)

-- a frame that is coming is none
pub coming-none : (s : State) (bytes : List ℕ) → is_coming s ≡ true → if_good s bytes ≡ []
unfolding is_coming if_good
coming-none (coming o) bytes c = refl
coming-none whole bytes c = never c
coming-none (damaged k) bytes c = never c

pub good_start : (fs : List Frame) (first : List ℕ) → good (fs ++ (fresh first ∷ [])) ≡ good fs
unfolding good if_good
good_start fs first = good-append fs (fresh first ∷ []) ∙ append-nil (good fs)

started-coming : (f : Frame) → started f ≡ true → is_coming f.state ≡ true
started-coming f h = (both (sized (length f.bytes)) (is_coming f.state) h).1

pub good-byte : (v : ℕ) (space : Bool) (fs : List Frame) → in_order true fs ≡ true → good (at_newest (takes v space) fs) ≡ good fs
unfolding good in_order at_newest
good-byte v space [] h = refl
good-byte v space (f ∷ []) h =
    let c = started-coming f h in
    rw (coming-none (marked (not (full f) && not space) f.state) (takes v space f).bytes (marked_comes (not (full f) && not space) f.state ∙ c), coming-none f.state f.bytes c)
good-byte v space (f ∷ g ∷ fs) h =
    ap (λ (l : List (List ℕ)). if_good f.state f.bytes ++ l) (good-byte v space (g ∷ fs) (both (ended f) (in_order true (g ∷ fs)) h).1)

-- ---- what was heard of the newest frame is stored, unless it overran or is full

unfoldable pub Intact : List ℕ → List Frame → Type 0
Intact heard [] = Unit {0}
Intact heard (f ∷ []) = (overran f.state || full f) ≡ false → f.bytes ≡ heard
Intact heard (f ∷ g ∷ fs) = Intact heard (g ∷ fs)

pub intact_outset : (fs : List Frame) → Intact (newest fs) fs
unfolding Intact newest
intact_outset [] = tt
intact_outset (f ∷ []) = λ _. refl
intact_outset (f ∷ g ∷ fs) = intact_outset (g ∷ fs)

pub intact_drop : (heard : List ℕ) (f : Frame) (fs : List Frame) → Intact heard (f ∷ fs) → Intact heard fs
unfolding Intact
intact_drop heard f [] i = tt
intact_drop heard f (g ∷ fs) i = i

pub intact_start : (fs : List Frame) (first : List ℕ) → Intact first (fs ++ (fresh first ∷ []))
unfolding Intact
intact_start [] first = λ _. refl
intact_start (f ∷ []) first = λ _. refl
intact_start (f ∷ g ∷ fs) first = intact_start (g ∷ fs) first

one_byte : (heard : List ℕ) (v : ℕ) (space : Bool) (f : Frame) → is_coming f.state ≡ true → ((overran f.state || full f) ≡ false → f.bytes ≡ heard)
    → (overran (takes v space f).state || full (takes v space f)) ≡ false → (takes v space f).bytes ≡ heard ++ (v ∷ [])
unfolding overran
one_byte heard v space f c i =
    by_test (overran f.state || full f)
    (λ y h. never (sym (sym (ap (λ (g : Frame). overran g.state || full g) (takes_none v space f y) ∙ y) ∙ h)))
    (λ n. by_case space n)
  where
    by_case : (s : Bool) → (overran f.state || full f) ≡ false → (overran (takes v s f).state || full (takes v s f)) ≡ false → (takes v s f).bytes ≡ heard ++ (v ∷ [])
    by_case true n h = ap (λ (g : Frame). g.bytes) (takes-longer v f n) ∙ ap (λ (l : List ℕ). l ++ (v ∷ [])) (i n)
    by_case false n h = never (sym (sym (ap (λ (g : Frame). overran g.state || full g) (takes-marks v f c n)) ∙ h))

pub intact_byte : (heard : List ℕ) (v : ℕ) (space : Bool) (fs : List Frame) → in_order true fs ≡ true → Intact heard fs → Intact (heard ++ (v ∷ [])) (at_newest (takes v space) fs)
unfolding Intact in_order at_newest
intact_byte heard v space [] h i = tt
intact_byte heard v space (f ∷ []) h i = one_byte heard v space f (started-coming f h) i
intact_byte heard v space (f ∷ g ∷ []) h i = intact_byte heard v space (g ∷ []) (both (ended f) (in_order true (g ∷ [])) h).1 i
intact_byte heard v space (f ∷ g ∷ e ∷ fs) h i = intact_byte heard v space (g ∷ e ∷ fs) (both (ended f) (in_order true (g ∷ e ∷ fs)) h).1 i

-- ---- the end

-- an end that gives no code
record SoundEnd (o : Bool) (n : ℕ) : Type 0 where
  clear : o ≡ false
  long : 60 ≤ n
  short : n ≤ 1514

whole-end : (o : Bool) (n : ℕ) (check alignment : Bool) → is_whole (ending o n check alignment) ≡ true → SoundEnd o n
unfolding ending is_whole
whole-end true n check alignment h = never h
whole-end false n check alignment h =
    by_test (ltb 1514 n) (λ y. never (rw y at h))
    (λ p. by_test (ltb n 60) (λ y. never (rw (p, y) at h)) (λ q. record { clear = refl; long = ltb-false n 60 q; short = ltb-false 1514 n p }))

none-good : (s : State) (bytes : List ℕ) → is_whole s ≡ false → if_good s bytes ≡ []
unfolding is_whole if_good
none-good (coming o) bytes e = refl
none-good whole bytes e = never (sym e)
none-good (damaged k) bytes e = refl

pub one-good : (s : State) (bytes : List ℕ) → is_whole s ≡ true → 60 ≤ length bytes → length bytes ≤ 1514 → if_good s bytes ≡ bytes ∷ []
unfolding is_whole if_good
one-good (coming o) bytes e l s = never e
one-good whole bytes e l s = rw (le-leb 60 (length bytes) l, le-leb (length bytes) 1514 s)
one-good (damaged k) bytes e l s = never e

-- a frame of at most 1,514 bytes that did not overrun is as it was heard
one_end : (heard : List ℕ) (check alignment : Bool) (f : Frame) → ((overran f.state || full f) ≡ false → f.bytes ≡ heard)
    → if_good (end_of check alignment f) f.bytes ≡ cond (is_whole (end_of check alignment f)) (heard ∷ []) []
one_end heard check alignment f i =
    by_test (is_whole (end_of check alignment f))
    (λ y.
    let w = whole-end (overran f.state) (length f.bytes) check alignment y in
    let e : f.bytes ≡ heard = i (rw w.clear (lt-leb 1792 (length f.bytes) (omega (arith, w.short)))) in
    one-good (end_of check alignment f) f.bytes y w.long w.short ∙ ap (λ (l : List ℕ). l ∷ []) e ∙ sym (ap (λ (t : Bool). cond t (heard ∷ []) []) y))
    (λ n. none-good (end_of check alignment f) f.bytes n ∙ sym (ap (λ (t : Bool). cond t (heard ∷ []) []) n))

pub good-end : (heard : List ℕ) (check alignment : Bool) (fs : List Frame) → in_order true fs ≡ true → Intact heard fs
    → good (at_newest (ends check alignment) fs) ≡ good fs ++ cond (no_code check alignment fs) (heard ∷ []) []
unfolding Intact in_order at_newest good no_code
good-end heard check alignment [] h i = never h
good-end heard check alignment (f ∷ []) h i = rw (coming-none f.state f.bytes (started-coming f h), append-nil) (one_end heard check alignment f i)
good-end heard check alignment (f ∷ g ∷ fs) h i =
    ap (λ (l : List (List ℕ)). if_good f.state f.bytes ++ l) (good-end heard check alignment (g ∷ fs) (both (ended f) (in_order true (g ∷ fs)) h).1 i)
    ∙ sym (append_assoc (if_good f.state f.bytes) (good (g ∷ fs)) (cond (no_code check alignment (g ∷ fs)) (heard ∷ []) []))

-- ---- what memory can hold

pub octet_at : (bs : List ℕ) (i : ℕ) → octets bs ≡ true → get_or bs i 0 < 256
unfolding octets
octet_at [] i h = omega arith
octet_at (v ∷ vs) zero h = ltb-true v 256 (both (ltb v 256) (octets vs) h).0
octet_at (v ∷ vs) (suc i) h = octet_at vs i (both (ltb v 256) (octets vs) h).1

octets_more : (bs : List ℕ) (v : ℕ) → octets bs ≡ true → ltb v 256 ≡ true → octets (bs ++ (v ∷ [])) ≡ true
unfolding octets
octets_more [] v h b = rw b
octets_more (x ∷ bs) v h b = let p = both (ltb x 256) (octets bs) h in join (ltb x 256) (octets (bs ++ (v ∷ []))) p.0 (octets_more bs v p.1 b)

pub record Holds (f : Frame) : Type 0 where
  pub bytes : octets f.bytes ≡ true
  pub code : code_fits f.state ≡ true

pub holds-first : (f : Frame) (fs : List Frame) → holdable (f ∷ fs) ≡ true → Holds f × (holdable fs ≡ true)
unfolding holdable
holds-first f fs h =
    let p = both (octets f.bytes) (code_fits f.state && holdable fs) h in
    let q = both (code_fits f.state) (holdable fs) p.1 in
    (record { bytes = p.0; code = q.0 }, q.1)

holds_more : (f : Frame) (fs : List Frame) → Holds f → holdable fs ≡ true → holdable (f ∷ fs) ≡ true
unfolding holdable
holds_more f fs p h = join (octets f.bytes) (code_fits f.state && holdable fs) p.bytes (join (code_fits f.state) (holdable fs) p.code h)

holds-newest : (g : Frame → Frame) → ((f : Frame) → Holds f → Holds (g f)) → (fs : List Frame) → holdable fs ≡ true → holdable (at_newest g fs) ≡ true
unfolding at_newest
holds-newest g k [] h = h
holds-newest g k (f ∷ []) h = let p = holds-first f [] h in holds_more (g f) [] (k f p.0) p.1
holds-newest g k (f ∷ e ∷ fs) h = let p = holds-first f (e ∷ fs) h in holds_more f (at_newest g (e ∷ fs)) p.0 (holds-newest g k (e ∷ fs) p.1)

pub holds-start : (fs : List Frame) (first : List ℕ) → octets first ≡ true → holdable fs ≡ true → holdable (fs ++ (fresh first ∷ [])) ≡ true
unfolding code_fits holdable
holds-start [] first o h = rw o
holds-start (f ∷ fs) first o h = let p = holds-first f fs h in holds_more f (fs ++ (fresh first ∷ [])) p.0 (holds-start fs first o p.1)

marked-fits : (m : Bool) (s : State) → code_fits (marked m s) ≡ code_fits s
unfolding code_fits marked
marked-fits m (coming o) = refl
marked-fits m whole = refl
marked-fits m (damaged k) = refl

pub holds-byte : (v : ℕ) (space : Bool) (fs : List Frame) → ltb v 256 ≡ true → holdable fs ≡ true → holdable (at_newest (takes v space) fs) ≡ true
holds-byte v space fs b h =
    holds-newest (takes v space)
    (λ f p.
    record {
      bytes = of_cond (λ (l : List ℕ). octets l ≡ true) (overran f.state || (full f || not space)) p.bytes (octets_more f.bytes v p.bytes b);
      code = marked-fits (not (full f) && not space) f.state ∙ p.code;
    }) fs h

ending-fits : (o : Bool) (n : ℕ) (check alignment : Bool) → code_fits (ending o n check alignment) ≡ true
unfolding code_fits ending
ending-fits o n check alignment =
    of_cond (λ (s : State). code_fits s ≡ true) o refl
    (of_cond (λ (s : State). code_fits s ≡ true) (ltb 1514 n) refl
    (of_cond (λ (s : State). code_fits s ≡ true) (ltb n 60) refl
    (of_cond (λ (s : State). code_fits s ≡ true) alignment (of_cond (λ (s : State). code_fits s ≡ true) check refl refl) refl)))

pub holds-end : (check alignment : Bool) (fs : List Frame) → holdable fs ≡ true → holdable (at_newest (ends check alignment) fs) ≡ true
holds-end check alignment fs h =
    holds-newest (ends check alignment) (λ f p. record { bytes = p.bytes; code = ending-fits (overran f.state) (length f.bytes) check alignment }) fs h

-- ---- what RX Status says of the oldest frame

pub record Oldest (fs : List Frame) : Type 0 where
  pub first : Frame
  pub behind : List Frame
  pub shape : fs ≡ first ∷ behind
  pub over : is_coming first.state ≡ false

pub oldest_of : (fs : List Frame) → complete fs ≡ true → Oldest fs
unfolding complete
oldest_of [] h = never h
oldest_of (f ∷ fs) h = record { first = f; behind = fs; shape = refl; over = not-true (is_coming f.state) h }

abbrev pub shows : State → ℕ → ℕ
shows s n = marks s + encoded (unread n 0)

-- .. it tells its bytes
told-bytes : (s : State) (n : ℕ) → n ≤ 1792 → decoded (shows s n) ≡ pos n
told-bytes s n h = let e : n + 0 ≡ n = omega arith in decoded-encoded s (unread n 0) (unread-between n 0 h (omega arith)) ∙ ap pos e

-- a whole frame of 60 to 1,514 bytes is not bad
pub whole-fine : (n : ℕ) → 60 ≤ n → n ≤ 1514 → (bad (shows whole n) ≡ false) × (length_in (shows whole n) ≡ n)
unfolding marks
whole-fine n l s =
    let e = told-bytes whole n (omega arith) in
    let q : shows whole n / 16384 % 2 ≡ 0 = omega arith in
    (ap (λ (z : ℤ). has 16384 (shows whole n) || outside_frame z) e ∙ rw (q, le-ltb n 60 l, le-ltb 1514 n s), ap length_of e)

pub record FineStatus (s : State) (n v : ℕ) : Type 0 where
  pub whole : is_whole s ≡ true
  pub count : length_in v ≡ n
  pub long : 60 ≤ n
  pub short : n ≤ 1514

pub fine-status : (s : State) (n : ℕ) → is_coming s ≡ false → code_fits s ≡ true → n ≤ 1792 → bad (shows s n) ≡ false → FineStatus s n (shows s n)
unfolding is_coming code_fits marks is_whole
fine-status (coming o) n c k h b = never (sym c)
fine-status whole n c k h b =
    let g = good-told (shows whole n) b in
    let c : length_in (shows whole n) ≡ n = ap length_of (told-bytes whole n h) in
    record { whole = refl; count = c; long = rw c at g.long; short = rw c at g.short }
fine-status (damaged j) n c k h b =
    let small : j < 8 = ltb-true j 8 k in
    let e : shows (damaged j) n / 16384 % 2 ≡ 1 = omega arith in
    never (sym (neither (eqb (shows (damaged j) n / 16384 % 2) 1) _ b).0 ∙ eq-eqb (shows (damaged j) n / 16384 % 2) 1 e)

pub bad-none : (s : State) (bytes : List ℕ) → length bytes ≤ 1792 → bad (shows s (length bytes)) ≡ true → if_good s bytes ≡ []
unfolding marks if_good
bad-none (coming o) bytes h b = refl
bad-none whole bytes h b =
    by_test (leb 60 (length bytes) && leb (length bytes) 1514)
    (λ y.
    let p = both (leb 60 (length bytes)) (leb (length bytes) 1514) y in
    never (sym (whole-fine (length bytes) (leb-true 60 (length bytes) p.0) (leb-true (length bytes) 1514 p.1)).0 ∙ b))
    (λ n. rw n)
bad-none (damaged k) bytes h b = refl

pub offered-some : (bytes : List ℕ) → 60 ≤ length bytes → offered bytes ≡ bytes ∷ []
unfolding offered
offered-some [] h = absurd (omega arith)
offered-some (v ∷ vs) h = refl

-- ---- a frame that is coming stays the newest, and those before it take no more room

pub record Tail (g : Frame) (fs ys : List Frame) : Type 0 where
  pub before : List Frame
  pub shape : ys ≡ before ++ (g ∷ [])
  pub less : room before ≤ room fs

-- from the frames xs to ys
abbrev pub Tails : List Frame → List Frame → Type 0
Tails xs ys = (g : Frame) (fs : List Frame) → is_coming g.state ≡ true → xs ≡ fs ++ (g ∷ []) → Tail g fs ys

pub tail_same : (xs ys : List Frame) → ys ≡ xs → Tails xs ys
tail_same xs ys s g fs c e = record { before = fs; shape = s ∙ e; less = omega arith }

pub tail_then : (xs ys zs : List Frame) → Tails xs ys → Tails ys zs → Tails xs zs
tail_then xs ys zs p q g fs c e =
    let t = p g fs c e in
    let u = q g t.before c t.shape in
    record { before = u.before; shape = u.shape; less = omega (arith, t.less, u.less) }

behind : List Frame → List Frame
behind [] = []
behind (f ∷ fs) = fs

-- an ended frame that leaves is another
pub tail_drop : (xs : List Frame) (f : Frame) (rest : List Frame) → xs ≡ f ∷ rest → is_coming f.state ≡ false → Tails xs rest
unfolding complete behind room
tail_drop xs f rest s over g [] c e =
    never (sym (ap not c) ∙ sym (ap complete e) ∙ ap complete s ∙ ap not over)
tail_drop xs f rest s over g (h ∷ fs) c e =
    record { before = fs; shape = sym (ap behind s) ∙ ap behind e; less = omega arith }
