-- From what the code does to the two lists to what becomes of the frames, once for every area. Assumes nothing.
use mathlib.Core.Path.{◌≡◌, refl, sym, ap, ap₂, ◌∙◌}
use mathlib.Core.Logic.{◌⊎◌}
use mathlib.Core.List.{List, [], ◌∷◌, ◌++◌}
use Prim.Native.Nat.{ℕ, zero, suc, ◌+◌, ◌*◌, ◌-◌, ◌/◌, ◌%◌, ◌≤◌, ◌<◌}
use native.Mathlib.Numerals.{add-one}
use native.Mathlib.Omega.{arith}
use lib.ListN.{length, take, drop, get_or, set, length-drop, length-set, length-append}
use lib.Seq.{take-suc, take-length, length-take-le, take-take, drop-drop, get_or-take}
use Rattle.store.specs.declared.Area.{Area}
use Rattle.store.specs.Store.{len_of, round4, Frame, frames, room_of, part, words, view, at_newest, extended_by, headed, begun, appended, newer, oldest, older, newest, room_in, shifted, Kept, Sound, Becomes, Open}
use Rattle.store.proofs.Laws.{room-append, room-one, room-frames, newest-length, older-frames, newest-appended, older-appended, appended-some, part_cons, part_snoc, part-set, part_snoc_set, part_shifted, kept_shift, kept_set, kept-part, frames-take, frames_more, drop-take-le, at_snoc, frames_snoc, appended_more, appended-none}

part_length : (l : List ℕ) (f n : ℕ) → f + n ≤ length l → length (part f n l) ≡ n
part_length l f n h = length-take-le n (drop f l) (simp length-drop (omega arith))

-- a byte more. k is one less than the frames, w the newest's word, i where its next byte goes in the area
pub more : (a : Area) (k w i b : ℕ) (ram dir : List ℕ) → Sound a (suc k) ram dir → w ≡ get_or dir (a.first + k) 0 → len_of w < 1792
    → i ≡ room_of (words a k dir) + len_of w → room_of (words a k dir) + round4 (len_of w + 1) ≤ a.size
    → Becomes a ram dir (set ram (a.base + i) b) (set dir (a.first + k) (w + 1)) (suc k) (appended b (view a (suc k) ram dir))
more a k w i b ram dir S p short q space =
    let in_dir : a.first + k < length dir = omega arith in
    let old : words a (suc k) dir ≡ words a k dir ++ (w ∷ []) = rw p (part_snoc dir a.first k in_dir) in
    let new : words a (suc k) (set dir (a.first + k) (w + 1)) ≡ words a k dir ++ ((w + 1) ∷ []) = part_snoc_set dir a.first k (w + 1) in_dir in
    let len : length (part a.base a.size ram) ≡ a.size = part_length ram a.base a.size S.in_ram in
    record {
      holds = rw (old, new, part-set ram a.base a.size i b (omega arith), q) (frames_more (words a k dir) w (part a.base a.size ram) b (omega arith) (omega arith));
      sound = record {
        in_ram = rw length-set S.in_ram;
        in_dir = rw length-set S.in_dir;
        few = S.few;
        small = S.small;
        room = rw (new, room-append, room-one) (omega arith);
      };
      ram_kept = kept_set ram a.base a.size (a.base + i) b (omega arith) (omega arith);
      dir_kept = kept_set dir a.first a.slots (a.first + k) (w + 1) (omega arith) (omega arith);
    }

-- of an area that has frames: the words are the oldest's and the rest, and so is the room
head_tail : (a : Area) (k : ℕ) (ram dir : List ℕ) → Sound a (suc k) ram dir → words a (suc k) dir ≡ get_or dir a.first 0 ∷ part (a.first + 1) k dir
head_tail a k ram dir S = part_cons dir a.first k (omega arith)

pub room_split : (a : Area) (k : ℕ) (ram dir : List ℕ) → Sound a (suc k) ram dir
    → room_of (words a (suc k) dir) ≡ round4 (len_of (get_or dir a.first 0)) + room_of (part (a.first + 1) k dir)
unfolding room_of
room_split a k ram dir S = rw (head_tail a k ram dir S)

-- the oldest leaves. r is the room that it took, t the room of the others
pub less : (a : Area) (k r t : ℕ) (ram dir : List ℕ) → Sound a (suc k) ram dir → r ≡ round4 (len_of (get_or dir a.first 0))
    → r + t ≡ room_of (words a (suc k) dir)
    → Becomes a ram dir (shifted ram a.base r t) (shifted dir a.first 1 k) k (newer (view a (suc k) ram dir))
unfolding frames newer
less a k r t ram dir S p q =
    let ws : List ℕ = part (a.first + 1) k dir in
    let m : List ℕ = part a.base a.size ram in
    let ram' : List ℕ = shifted ram a.base r t in
    let split : room_of (words a (suc k) dir) ≡ round4 (len_of (get_or dir a.first 0)) + room_of ws = room_split a k ram dir S in
    let e : t ≡ room_of ws = omega arith in
    let new : words a k (shifted dir a.first 1 k) ≡ ws = part_shifted dir a.first 1 k (omega arith) in
    let kr = kept_shift ram a.base r t a.size (omega arith) (omega arith) in
    let kd = kept_shift dir a.first 1 k a.slots (omega arith) (omega arith) in
    let moved : take t (part a.base a.size ram') ≡ take t (drop r m) =
    take-take t a.size (drop a.base ram') (omega arith) ∙ part_shifted ram a.base r t (omega arith)
    ∙ ap (λ (l : List ℕ). take t l) (sym (drop-drop r a.base ram)) ∙ sym (take-take t (a.size - r) (drop r (drop a.base ram)) (omega arith))
    ∙ ap (λ (l : List ℕ). take t l) (sym (drop-take-le r a.size (drop a.base ram) (omega arith))) in
    record {
      holds =
          ap (λ (d : List ℕ). frames d (part a.base a.size ram')) new
          ∙ sym (frames-take ws (part a.base a.size ram') t (omega arith)) ∙ ap (λ (l : List ℕ). frames ws l) moved ∙ frames-take ws (drop r m) t (omega arith)
          ∙ ap (λ (j : ℕ). frames ws (drop j m)) p ∙ sym (ap (λ (d : List ℕ). newer (frames d m)) (head_tail a k ram dir S));
      sound = record {
        in_ram = omega (arith, kr.long);
        in_dir = omega (arith, kd.long);
        few = omega arith;
        small = S.small;
        room = rw new (omega arith);
      };
      ram_kept = kr;
      dir_kept = kd;
    }

-- a byte of the oldest
pub oldest-byte : (a : Area) (k i : ℕ) (ram dir : List ℕ) → Sound a (suc k) ram dir → i < len_of (get_or dir a.first 0)
    → get_or (drop a.base ram) i 0 ≡ get_or (oldest (view a (suc k) ram dir)) i 0
unfolding frames oldest
oldest-byte a k i ram dir S h =
    let split : room_of (words a (suc k) dir) ≡ round4 (len_of (get_or dir a.first 0)) + room_of (part (a.first + 1) k dir) = room_split a k ram dir S in
    rw (head_tail a k ram dir S, get_or-take (len_of (get_or dir a.first 0)) (part a.base a.size ram) i 0 h, get_or-take a.size (drop a.base ram) i 0 (omega arith))

-- ---- the same at a count n that is not 0

-- what Open says of the frames, said of the words
opened : (a : Area) (k at n : ℕ) (ram dir : List ℕ) → Sound a (suc k) ram dir → Open a at n (view a (suc k) ram dir)
    → (len_of (get_or dir (a.first + k) 0) + n ≤ 1792) × (at ≡ a.base + (room_of (words a k dir) + len_of (get_or dir (a.first + k) 0)))
    × (room_of (words a k dir) + round4 (len_of (get_or dir (a.first + k) 0) + n) ≤ a.size)
opened a k at n ram dir S O =
    let w : ℕ = get_or dir (a.first + k) 0 in
    let m : List ℕ = part a.base a.size ram in
    let len : length m ≡ a.size = part_length ram a.base a.size S.in_ram in
    let old : words a (suc k) dir ≡ words a k dir ++ (w ∷ []) = part_snoc dir a.first k (omega arith) in
    let sum : room_of (words a (suc k) dir) ≡ room_of (words a k dir) + round4 (len_of w) = ap room_of old ∙ room-append (words a k dir) (w ∷ []) ∙ ap (λ (x : ℕ). room_of (words a k dir) + x) (room-one w) in
    let e : length (newest (view a (suc k) ram dir)) ≡ len_of w = rw old (newest-length (words a k dir) w m (omega arith)) in
    let d : room_in (older (view a (suc k) ram dir)) ≡ room_of (words a k dir) = rw (old, older-frames (words a k dir) w m) (room-frames (words a k dir) m (omega arith)) in
    (rw e at O.short, rw (d, e) at O.here, rw (d, e) at O.space)

pub appends : (a : Area) (n at b : ℕ) (ram dir : List ℕ) → Sound a n ram dir → Open a at 1 (view a n ram dir)
    → Becomes a ram dir (set ram at b) (set dir (a.first + n - 1) (get_or dir (a.first + n - 1) 0 + 1)) n (appended b (view a n ram dir))
unfolding frames
appends a zero at b ram dir S O = absurd (O.some refl)
appends a (suc k) at b ram dir S O =
    let e : a.first + suc k - 1 ≡ a.first + k = omega arith in
    let W = opened a k at 1 ram dir S O in
    rw (W.1, e) (more a k (get_or dir (a.first + k) 0) _ b ram dir S refl (omega arith) refl W.2)

-- what the code of append asks of the words
pub asked : (a : Area) (n at : ℕ) (ram dir : List ℕ) → Sound a n ram dir → Open a at 1 (view a n ram dir)
    → (0 < n) × (len_of (get_or dir (a.first + n - 1) 0) < 1792) × (at < length ram)
unfolding frames
asked a zero at ram dir S O = absurd (O.some refl)
asked a (suc k) at ram dir S O =
    let e : a.first + suc k - 1 ≡ a.first + k = omega arith in
    let W = opened a k at 1 ram dir S O in
    (omega arith, rw e (omega arith), omega arith)

-- one step after another
pub after : (a : Area) (ram dir ram' dir' ram'' dir'' : List ℕ) (n m : ℕ) (fs gs : List Frame)
    → Becomes a ram dir ram' dir' n fs → Becomes a ram' dir' ram'' dir'' m gs → Becomes a ram dir ram'' dir'' m gs
after a ram dir ram' dir' ram'' dir'' n m fs gs B C = record {
  holds = C.holds;
  sound = C.sound;
  ram_kept = record { below = C.ram_kept.below ∙ B.ram_kept.below; above = C.ram_kept.above ∙ B.ram_kept.above; long = C.ram_kept.long ∙ B.ram_kept.long };
  dir_kept = record { below = C.dir_kept.below ∙ B.dir_kept.below; above = C.dir_kept.above ∙ B.dir_kept.above; long = C.dir_kept.long ∙ B.dir_kept.long };
}

pub open_more : (a : Area) (at n b : ℕ) (fs : List Frame) → Open a at (n + 1) fs → Open a (at + 1) n (appended b fs)
open_more a at n b fs O =
    let e : length (newest (appended b fs)) ≡ length (newest fs) + 1 = rw (newest-appended b fs O.some) (length-append (newest fs) (b ∷ [])) in
    let d : room_in (older (appended b fs)) ≡ room_in (older fs) = ap room_in (older-appended b fs) in
    record {
      some = appended-some b fs O.some;
      short = rw e (omega arith);
      here = rw (d, e) (omega arith);
      space = rw (d, e) (omega arith);
    }

pub drops : (a : Area) (n r t : ℕ) (ram dir : List ℕ) → Sound a n ram dir → 0 < n → r ≡ round4 (len_of (get_or dir a.first 0))
    → r + t ≡ room_of (words a n dir)
    → Becomes a ram dir (shifted ram a.base r t) (shifted dir a.first 1 (n - 1)) (n - 1) (newer (view a n ram dir))
drops a zero r t ram dir S h p q = absurd (omega arith)
drops a (suc k) r t ram dir S h p q =
    let e : suc k - 1 ≡ k = omega arith in
    rw e (less a k r t ram dir S p q)

pub oldest-room : (a : Area) (n : ℕ) (ram dir : List ℕ) → Sound a n ram dir → 0 < n → round4 (len_of (get_or dir a.first 0)) ≤ room_of (words a n dir)
oldest-room a zero ram dir S h = absurd (omega arith)
oldest-room a (suc k) ram dir S h = omega (arith, room_split a k ram dir S)

pub oldest_at : (a : Area) (n i : ℕ) (ram dir : List ℕ) → Sound a n ram dir → 0 < n → i < len_of (get_or dir a.first 0)
    → get_or (drop a.base ram) i 0 ≡ get_or (oldest (view a n ram dir)) i 0
oldest_at a zero i ram dir S h k = absurd (omega arith)
oldest_at a (suc j) i ram dir S h k = oldest-byte a j i ram dir S k

-- ---- an area that lies apart from the one that changed

pub apart : (a b : Area) (n m : ℕ) (fs : List Frame) (ram dir ram' dir' : List ℕ) → Becomes a ram dir ram' dir' n fs → Sound b m ram dir
    → (b.base + b.size ≤ a.base) ⊎ (a.base + a.size ≤ b.base) → (b.first + m ≤ a.first) ⊎ (a.first + a.slots ≤ b.first)
    → Sound b m ram' dir' × (view b m ram' dir' ≡ view b m ram dir)
apart a b n m fs ram dir ram' dir' B S p q =
    let er : part b.base b.size ram' ≡ part b.base b.size ram = kept-part ram ram' a.base a.size b.base b.size B.ram_kept p in
    let ed : words b m dir' ≡ words b m dir = kept-part dir dir' a.first a.slots b.first m B.dir_kept q in (
      record {
        in_ram = omega (arith, B.ram_kept.long);
        in_dir = omega (arith, B.dir_kept.long);
        few = S.few;
        small = S.small;
        room = rw ed S.room;
      },
      ap₂ frames ed er,
    )

pub open_less : (a : Area) (at m n : ℕ) (fs : List Frame) → m ≤ n → Open a at n fs → Open a at m fs
open_less a at m n fs h O = record { some = O.some; short = omega arith; here = O.here; space = omega arith }

-- ---- the newest's flags, and a new frame

-- the newest gets the flags h. w is its word
pub flags : (a : Area) (k h w : ℕ) (ram dir : List ℕ) → Sound a (suc k) ram dir → w ≡ get_or dir (a.first + k) 0
    → Becomes a ram dir ram (set dir (a.first + k) (h * 2048 + w % 2048)) (suc k) (at_newest (headed h) (view a (suc k) ram dir))
flags a k h w ram dir S p =
    let in_dir : a.first + k < length dir = omega arith in
    let m : List ℕ = part a.base a.size ram in
    let old : words a (suc k) dir ≡ words a k dir ++ (w ∷ []) = rw p (part_snoc dir a.first k in_dir) in
    let v : ℕ = h * 2048 + w % 2048 in
    let new : words a (suc k) (set dir (a.first + k) v) ≡ words a k dir ++ (v ∷ []) = part_snoc_set dir a.first k v in_dir in
    let len : v % 2048 ≡ w % 2048 = omega arith in
    let high : v / 2048 ≡ h = omega arith in
    let sum : room_of (words a (suc k) dir) ≡ room_of (words a k dir) + round4 (len_of w) = ap room_of old ∙ room-append (words a k dir) (w ∷ []) ∙ ap (λ (x : ℕ). room_of (words a k dir) + x) (room-one w) in
    record {
      holds = rw (old, new, frames_snoc (words a k dir) w m, frames_snoc (words a k dir) v m, len, high, at_snoc (headed h) (frames (words a k dir) m));
      sound = record {
        in_ram = S.in_ram;
        in_dir = rw length-set S.in_dir;
        few = S.few;
        small = S.small;
        room = rw (new, room-append, room-one, len) (omega arith);
      };
      ram_kept = record { below = refl; above = refl; long = refl };
      dir_kept = kept_set dir a.first a.slots (a.first + k) v (omega arith) (omega arith);
    }

pub flagged : (a : Area) (n h : ℕ) (ram dir : List ℕ) → Sound a n ram dir → 0 < n
    → Becomes a ram dir ram (set dir (a.first + n - 1) (h * 2048 + get_or dir (a.first + n - 1) 0 % 2048)) n (at_newest (headed h) (view a n ram dir))
flagged a zero h ram dir S p = absurd (omega arith)
flagged a (suc k) h ram dir S p =
    let e : a.first + suc k - 1 ≡ a.first + k = omega arith in
    rw e (flags a k h (get_or dir (a.first + k) 0) ram dir S refl)

-- a frame begins, with the flags h and no bytes
pub begins : (a : Area) (n h : ℕ) (ram dir : List ℕ) → Sound a n ram dir → n < a.slots
    → Becomes a ram dir ram (set dir (a.first + n) (h * 2048)) (n + 1) (view a n ram dir ++ (begun h [] ∷ []))
begins a n h ram dir S p =
    let in_dir : a.first + n < length dir = omega arith in
    let m : List ℕ = part a.base a.size ram in
    let v : ℕ = h * 2048 in
    let new : words a (n + 1) (set dir (a.first + n) v) ≡ words a n dir ++ (v ∷ []) = rw add-one (part_snoc_set dir a.first n v in_dir) in
    let len : v % 2048 ≡ 0 = omega arith in
    let high : v / 2048 ≡ h = omega arith in
    record {
      holds = rw (new, frames_snoc (words a n dir) v m, len, high);
      sound = record {
        in_ram = S.in_ram;
        in_dir = rw length-set S.in_dir;
        few = omega arith;
        small = S.small;
        room = rw (new, room-append, room-one, len) (omega arith);
      };
      ram_kept = record { below = refl; above = refl; long = refl };
      dir_kept = kept_set dir a.first a.slots (a.first + n) v (omega arith) (omega arith);
    }

-- ---- an area that has frames: its newest and its oldest

-- w is the newest's word: the frames are the others and it
pub record Last (a : Area) (n w : ℕ) (ram dir : List ℕ) : Type 0 where
  pub others : List Frame
  pub bytes : List ℕ
  pub shape : view a n ram dir ≡ others ++ (begun (w / 2048) bytes ∷ [])
  pub len : length bytes ≡ w % 2048
  pub sum : room_in others + round4 (w % 2048) ≡ room_of (words a n dir)

pub last : (a : Area) (n : ℕ) (ram dir : List ℕ) → Sound a n ram dir → 0 < n → Last a n (get_or dir (a.first + n - 1) 0) ram dir
last a zero ram dir S h = absurd (omega arith)
last a (suc k) ram dir S h =
    let e : a.first + suc k - 1 ≡ a.first + k = omega arith in
    let w : ℕ = get_or dir (a.first + k) 0 in
    let ws : List ℕ = words a k dir in
    let m : List ℕ = part a.base a.size ram in
    let len : length m ≡ a.size = part_length ram a.base a.size S.in_ram in
    let old : words a (suc k) dir ≡ ws ++ (w ∷ []) = part_snoc dir a.first k (omega arith) in
    let sum : room_of (words a (suc k) dir) ≡ room_of ws + round4 (len_of w) = ap room_of old ∙ room-append ws (w ∷ []) ∙ ap (λ (x : ℕ). room_of ws + x) (room-one w) in
    rw e (record {
      others = frames ws m;
      bytes = take (len_of w) (drop (room_of ws) m);
      shape = rw (old, frames_snoc ws w m);
      len = length-take-le (len_of w) (drop (room_of ws) m) (simp length-drop (omega arith));
      sum = rw (room-frames ws m (omega arith)) (omega arith);
    })

-- w is the oldest's word: the frames are it and the others
pub record First (a : Area) (n w : ℕ) (ram dir : List ℕ) : Type 0 where
  pub bytes : List ℕ
  pub others : List Frame
  pub shape : view a n ram dir ≡ begun (w / 2048) bytes ∷ others
  pub len : length bytes ≡ w % 2048

pub first : (a : Area) (n : ℕ) (ram dir : List ℕ) → Sound a n ram dir → 0 < n → First a n (get_or dir a.first 0) ram dir
unfolding frames
first a zero ram dir S h = absurd (omega arith)
first a (suc k) ram dir S h =
    let w : ℕ = get_or dir a.first 0 in
    let m : List ℕ = part a.base a.size ram in
    let len : length m ≡ a.size = part_length ram a.base a.size S.in_ram in
    record {
      bytes = take (len_of w) m;
      others = frames (part (a.first + 1) k dir) (drop (round4 (len_of w)) m);
      shape = rw (head_tail a k ram dir S);
      len = length-take-le (len_of w) m (omega (arith, room_split a k ram dir S));
    }

pub becomes_same : (a : Area) (n : ℕ) (ram dir : List ℕ) → Sound a n ram dir → Becomes a ram dir ram dir n (view a n ram dir)
becomes_same a n ram dir S = record {
  holds = refl;
  sound = S;
  ram_kept = record { below = refl; above = refl; long = refl };
  dir_kept = record { below = refl; above = refl; long = refl };
}

-- ---- several bytes more: i of them are appended

pub record Sofar (a : Area) (n at i : ℕ) (bs ram₀ dir₀ ram dir : List ℕ) : Type 0 where
  pub few : i ≤ length bs
  pub becomes : Becomes a ram₀ dir₀ ram dir n (at_newest (extended_by (take i bs)) (view a n ram₀ dir₀))
  pub space : Open a (at + i) (length bs - i) (view a n ram dir)

pub sofar_none : (a : Area) (n at : ℕ) (bs ram dir : List ℕ) → Sound a n ram dir → Open a at (length bs) (view a n ram dir) → Sofar a n at 0 bs ram dir ram dir
sofar_none a n at bs ram dir S O =
    let e : at + 0 ≡ at = omega arith in
    let d : length bs - 0 ≡ length bs = omega arith in
    record { few = omega arith; becomes = rw (appended-none (view a n ram dir)) (becomes_same a n ram dir S); space = rw (e, d) O }

pub sofar_open : (a : Area) (n at i : ℕ) (bs ram₀ dir₀ ram dir : List ℕ) → Sofar a n at i bs ram₀ dir₀ ram dir → i < length bs → Open a (at + i) 1 (view a n ram dir)
sofar_open a n at i bs ram₀ dir₀ ram dir F h = open_less a (at + i) 1 (length bs - i) (view a n ram dir) (omega arith) F.space

pub sofar_more : (a : Area) (n at i : ℕ) (bs ram₀ dir₀ ram dir ram' dir' : List ℕ) → Sofar a n at i bs ram₀ dir₀ ram dir → i < length bs
    → Becomes a ram dir ram' dir' n (appended (get_or bs i 0) (view a n ram dir)) → Sofar a n at (i + 1) bs ram₀ dir₀ ram' dir'
sofar_more a n at i bs ram₀ dir₀ ram dir ram' dir' F h C =
    let b : ℕ = get_or bs i 0 in
    let Fs : List Frame = view a n ram₀ dir₀ in
    let B = F.becomes in
    let shape : appended b (view a n ram dir) ≡ at_newest (extended_by (take (i + 1) bs)) Fs =
    ap (λ (l : List Frame). appended b l) B.holds ∙ appended_more b (take i bs) Fs
    ∙ ap (λ (l : List ℕ). at_newest (extended_by l) Fs) (sym (ap (λ (j : ℕ). take j bs) (add-one i) ∙ take-suc bs i 0 h)) in
    let k : length bs - i ≡ length bs - (i + 1) + 1 = omega arith in
    let p : at + i + 1 ≡ at + (i + 1) = omega arith in
    record {
      few = omega arith;
      becomes = rw shape at (after a ram₀ dir₀ ram dir ram' dir' n n _ _ B C);
      space = rw (C.holds, ← p) (open_more a (at + i) (length bs - (i + 1)) b (view a n ram dir) (rw k at F.space));
    }

pub sofar_all : (a : Area) (n at i : ℕ) (bs ram₀ dir₀ ram dir : List ℕ) → Sofar a n at i bs ram₀ dir₀ ram dir → length bs ≤ i
    → Becomes a ram₀ dir₀ ram dir n (at_newest (extended_by bs) (view a n ram₀ dir₀))
sofar_all a n at i bs ram₀ dir₀ ram dir F h =
    let e : i ≡ length bs = omega arith in
    rw (e, take-length) at F.becomes

-- the same from what was kept alone: what a step over any area says
pub apart-kept : (a b : Area) (m : ℕ) (ram dir ram' dir' : List ℕ) → Kept a.base a.size ram ram' → Kept a.first a.slots dir dir' → Sound b m ram dir
    → (b.base + b.size ≤ a.base) ⊎ (a.base + a.size ≤ b.base) → (b.first + m ≤ a.first) ⊎ (a.first + a.slots ≤ b.first)
    → Sound b m ram' dir' × (view b m ram' dir' ≡ view b m ram dir)
apart-kept a b m ram dir ram' dir' kr kd S p q =
    let er : part b.base b.size ram' ≡ part b.base b.size ram = kept-part ram ram' a.base a.size b.base b.size kr p in
    let ed : words b m dir' ≡ words b m dir = kept-part dir dir' a.first a.slots b.first m kd q in
    (record { in_ram = omega (arith, kr.long); in_dir = omega (arith, kd.long); few = S.few; small = S.small; room = rw ed S.room }, ap₂ frames ed er)
