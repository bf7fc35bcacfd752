-- How many bytes fields in turn take: each known field fits into what its card may still take, and a card begins with 9 + 8 * 136.
-- Assumes nothing.
use Prim.Native.Nat.{ℕ, ◌+◌, ◌*◌, ◌-◌, ◌≤◌, ◌<◌}
use mathlib.Core.Path.{◌≡◌, refl, sym, ap, ◌∙◌}
use mathlib.Core.Bool.{Bool, true, false, cond, ◌&&◌, ◌||◌, not}
use mathlib.Core.List.{List, [], ◌∷◌, ◌++◌}
use native.Mathlib.Omega.{arith}
use borrow.Author.Tests.{eqb-true, ltb-true, not-true}
use lib.ListN.{length, length-append}
use lib.Dec.{eqb, ltb}
use Rattle.bits.proofs.Tests.{never, both}
use Rattle.catalogue_rules.specs.Field.{Field, bytes_of, number_at}
use Rattle.catalogue_rules.specs.declared.Turn.{Turn}
use Rattle.catalogue_rules.specs.declared.Turn.TheVariants.{Begun, Addressed, Numbered, Imaged, Damaged}
use Rattle.catalogue_rules.specs.Turns.{address_of, after_address, after_number, after_image, after, is_damaged}
use Rattle.catalogue_rules.specs.Reading.{catalogue, read, addresses_of, count_field, file_of}
use Rattle.catalogue_rules.specs.RoundTrip.{Bytes, in_turn, WellFormed}
use Rattle.catalogue_rules.proofs.Fit.{accepted_is_well_formed_lem}
use Rattle.catalogue_rules.proofs.Round.{read_is_written_lem}
use Rattle.catalogue_rules.specs.FileWalk.{one_if}
use Rattle.catalogue_rules.proofs.Walks.{one_more}
use Rattle.catalogue_rules.specs.Unknown.{is_known}
use Rattle.catalogue_area.specs.Area.{unknown_bytes, full_size}

-- ---- what a card may still take

-- The versions that the card in hand has so far.
abbrev told : Turn → ℕ
told Begun = 8
told Addressed = 0
told (Numbered nth n) = nth
told (Imaged nth n) = nth
told Damaged = 8

-- An image of 131 bytes where one is due, and a pair of 136 for each version that may still come.
abbrev due : Turn → ℕ
due Begun = 0
due Addressed = 0
due (Numbered nth n) = 131
due (Imaged nth n) = 0
due Damaged = 0

abbrev may_take : Turn → ℕ
may_take turn = due turn + 136 * (8 - told turn)

-- A field of so many bytes leads from one turn to the next: it fits into what may be taken, a new card, or what is unknown.
record Fits (turn next : Turn) (size card unknown : ℕ) : Type 0 where
  most : told next ≤ 8
  takes : size + may_take next ≤ may_take turn + 1097 * card + unknown

-- The same unless it is damage.
abbrev Goes : Turn → Turn → ℕ → ℕ → ℕ → Type 0
Goes turn next size card unknown = is_damaged next ≡ false → Fits turn next size card unknown

-- ---- one field

module _ (l : ℕ) where
  of_length : (n card : ℕ) (b : Bool) (turn next : Turn) → eqb l n ≡ b → (l ≡ n → Goes turn next (3 + l) card 0) → Goes turn (cond b next Damaged) (3 + l) card 0
  of_length n card true turn next e g d = g (eqb-true l n e) d
  of_length n card false turn next e g d = never (sym d)

  card-fits : (turn : Turn) → l ≡ 6 → Goes turn (after_address turn) (3 + l) 1 0
  card-fits Begun e d = record { most = omega arith; takes = omega arith }
  card-fits Addressed e d = never (sym d)
  card-fits (Numbered nth n) e d = never (sym d)
  card-fits (Imaged nth n) e d = record { most = omega arith; takes = omega arith }
  card-fits Damaged e d = never (sym d)

  next_fits : (nth last number : ℕ) (b c : Bool) → ltb nth 8 ≡ b → l ≡ 2 → Goes (Imaged nth last) (cond (b && c) (Numbered (nth + 1) number) Damaged) (3 + l) 0 0
  next_fits nth last number true true t e d = let k : nth < 8 = ltb-true nth 8 t in record { most = omega arith; takes = omega arith }
  next_fits nth last number true false t e d = never (sym d)
  next_fits nth last number false c t e d = never (sym d)

  number_fits : (turn : Turn) (number : ℕ) → l ≡ 2 → Goes turn (after_number turn number) (3 + l) 0 0
  number_fits Begun number e d = never (sym d)
  number_fits Addressed number e d = record { most = omega arith; takes = omega arith }
  number_fits (Numbered nth n) number e d = never (sym d)
  number_fits (Imaged nth n) number e d = next_fits nth n number (ltb nth 8) (ltb n number) refl e d
  number_fits Damaged number e d = never (sym d)

  image-fits : (turn : Turn) → told turn ≤ 8 → l ≡ 128 → Goes turn (after_image turn) (3 + l) 0 0
  image-fits Begun m e d = never (sym d)
  image-fits Addressed m e d = never (sym d)
  image-fits (Numbered nth n) m e d = record { most = m; takes = omega arith }
  image-fits (Imaged nth n) m e d = never (sym d)
  image-fits Damaged m e d = never (sym d)

-- By the tests of its tag.
module _ (turn : Turn) (f : Field) (m : told turn ≤ 8) where
  by_tag : (a b c : Bool) → Goes turn
      (cond a (cond (eqb (length f.value) 6) (after_address turn) Damaged)
      (cond b (cond (eqb (length f.value) 2) (after_number turn (number_at f.value 0)) Damaged)
      (cond c (cond (eqb (length f.value) 128) (after_image turn) Damaged) turn)))
      (3 + length f.value) (one_if a) (cond (a || (b || c)) 0 (3 + length f.value))
  by_tag true b c d = of_length (length f.value) 6 1 (eqb (length f.value) 6) turn (after_address turn) refl (card-fits (length f.value) turn) d
  by_tag false true c d =
      of_length (length f.value) 2 0 (eqb (length f.value) 2) turn (after_number turn (number_at f.value 0)) refl (number_fits (length f.value) turn (number_at f.value 0)) d
  by_tag false false true d = of_length (length f.value) 128 0 (eqb (length f.value) 128) turn (after_image turn) refl (image-fits (length f.value) turn m) d
  by_tag false false false d = record { most = m; takes = omega arith }

  fits : Goes turn (after turn f) (3 + length f.value) (one_if (eqb f.tag 1)) (cond (is_known f) 0 (3 + length f.value))
  unfolding after
  fits = by_tag (eqb f.tag 1) (eqb f.tag 2) (eqb f.tag 3)

-- ---- all fields

more_cards : (f : Field) (fs : List Field) → length (addresses_of (f ∷ fs)) ≡ one_if (eqb f.tag 1) + length (addresses_of fs)
unfolding addresses_of
more_cards f fs = one_more (eqb f.tag 1) (address_of f.value) (addresses_of fs)

unknown_if : (f : Field) (fs : List Field) (b : Bool) → is_known f ≡ b → cond b 0 (3 + length f.value) + unknown_bytes fs ≤ unknown_bytes (f ∷ fs)
unfolding unknown_bytes
unknown_if f fs true e = rw e (omega arith)
unknown_if f fs false e = rw e (omega arith)

all_fit : (fs : List Field) (turn : Turn) → told turn ≤ 8 → in_turn turn fs ≡ true → length (bytes_of fs) ≤ may_take turn + 1097 * length (addresses_of fs) + unknown_bytes fs
unfolding bytes_of in_turn
all_fit [] turn m t = omega arith
all_fit (f ∷ fs) turn m t =
    let x : (not (is_damaged (after turn f)) ≡ true) × (in_turn (after turn f) fs ≡ true) = both _ _ (both (not (eqb f.tag 4)) _ t).1 in
    let s : Fits turn (after turn f) (3 + length f.value) (one_if (eqb f.tag 1)) (cond (is_known f) 0 (3 + length f.value)) = fits turn f m (not-true (is_damaged (after turn f)) x.0) in
    omega (arith, all_fit fs (after turn f) s.most x.1, more_cards f fs, unknown_if f fs (is_known f) refl, length-append f.value (bytes_of fs))

-- ---- the file

length-bytes : (fs gs : List Field) → length (bytes_of (fs ++ gs)) ≡ length (bytes_of fs) + length (bytes_of gs)
unfolding bytes_of
length-bytes [] gs = omega arith
length-bytes (f ∷ fs) gs = omega (arith, length-append f.value (bytes_of (fs ++ gs)), length-append f.value (bytes_of fs), length-bytes fs gs)

count-size : (n : ℕ) → length (bytes_of (count_field n ∷ [])) ≡ 5
unfolding bytes_of
count-size n = refl

length_file : (fs : List Field) → length (file_of fs) ≡ length (bytes_of fs) + 5
unfolding file_of
length_file fs = length-bytes fs (count_field (length fs) ∷ []) ∙ ap (λ (n : ℕ). length (bytes_of fs) + n) (count-size (length fs))

pub size : (file : List ℕ) (fs : List Field) → Bytes file → read file ≡ catalogue fs → length file ≤ full_size + unknown_bytes fs
size file fs b e =
    let w : WellFormed fs = accepted_is_well_formed_lem file fs b e in
    let same : length (file_of fs) ≡ length file = ap length (read_is_written_lem file fs b e) in
    let all : length (bytes_of fs) ≤ 0 + 1097 * length (addresses_of fs) + unknown_bytes fs = all_fit fs Begun (omega arith) w.turns in
    let few : length (addresses_of fs) ≤ 64 = w.cards in
    omega (arith, length_file fs)
