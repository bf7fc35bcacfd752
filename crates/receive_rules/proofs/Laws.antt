-- Laws of frames as the store keeps them and as they are told. Assumes nothing.
use mathlib.Core.Path.{◌≡◌, refl, sym, ap, ◌∙◌}
use mathlib.Core.List.{List, [], ◌∷◌, ◌++◌, map}
use Prim.Native.Nat.{ℕ, ◌+◌, ◌/◌, ◌≤◌, ◌<◌}
use native.Mathlib.Omega.{arith}
use borrow.Author.Tests.{leb-true, leb-false, le-leb, lt-leb}
use lib.Dec.{leb}
use lib.ListN.{length}
use Rattle.bits.proofs.Tests.{by_test}
use Rattle.store.specs.Store as store
use Rattle.store.specs.Store.{round4, room_in}
use Rattle.receive_rules.specs.Frame.{Frame, is_coming, overran, room}
use Rattle.receive_rules.specs.View.{state_of, told, rx_area, Turns}

same-leb : (a b c d : ℕ) → (a ≤ b → c ≤ d) → (c ≤ d → a ≤ b) → leb a b ≡ leb c d
same-leb a b c d f g =
    by_test (leb c d)
    (λ y. le-leb a b (g (leb-true c d y)) ∙ sym y)
    (λ n. by_test (leb a b) (λ y. absurd (omega (arith, leb-false c d n, f (leb-true a b y)))) (λ m. m ∙ sym n))

-- what the words' tests say of the state
pub coming-word : (w : ℕ) → is_coming (state_of (w / 2048)) ≡ leb 32768 w
unfolding state_of is_coming
coming-word w =
    by_test (leb 32768 w)
    (λ y. rw (y, le-leb 16 (w / 2048) (omega (arith, leb-true 32768 w y))))
    (λ n. rw (n, lt-leb 16 (w / 2048) (omega (arith, leb-false 32768 w n))) (by_test (leb 8 (w / 2048)) (λ y. rw y) (λ m. rw m)))

pub overran-word : (w : ℕ) → overran (state_of (w / 2048)) ≡ leb 49152 w
unfolding state_of overran
overran-word w =
    by_test (leb 32768 w)
    (λ y. rw (le-leb 16 (w / 2048) (omega (arith, leb-true 32768 w y))) (same-leb 24 (w / 2048) 49152 w (λ h. omega arith) (λ h. omega arith)))
    (λ n.
    let k : w < 32768 = leb-false 32768 w n in
    rw (lt-leb 49152 w (omega arith), lt-leb 16 (w / 2048) (omega arith)) (by_test (leb 8 (w / 2048)) (λ y. rw y) (λ m. rw m)))

-- rooms
pub room-told : (fs : List store.Frame) → room (map told fs) ≡ room_in fs
unfolding room room_in
room-told [] = refl
room-told (f ∷ fs) = rw (room-told fs)

pub room_snoc : (fs : List Frame) (f : Frame) → room (fs ++ (f ∷ [])) ≡ room fs + round4 (length f.bytes)
unfolding room
room_snoc [] f = omega arith
room_snoc (x ∷ fs) f = omega (arith, room_snoc fs f)

pub map_snoc : (fs : List store.Frame) (f : store.Frame) → map told (fs ++ (f ∷ [])) ≡ map told fs ++ (told f ∷ [])
map_snoc [] f = refl
map_snoc (x ∷ fs) f = rw (map_snoc fs f)

-- what becomes of the stored frames, told
pub lift : (size : ℕ) (ram dir ram' dir' : List ℕ) (n : ℕ) (fs : List store.Frame) (gs : List Frame)
    → store.Becomes (rx_area size) ram dir ram' dir' n fs → map told fs ≡ gs → Turns size ram dir ram' dir' n gs
lift size ram dir ram' dir' n fs gs B e = record {
  holds = ap (λ (l : List store.Frame). map told l) B.holds ∙ e;
  packed = B.sound;
  ram_kept = B.ram_kept;
  dir_kept = B.dir_kept;
}
