-- The check notices every change of a single byte of a sound image outside words 18h to 1Fh.
-- Each checksum byte equals the exclusive-or of its list of words. A changed byte changes the exclusive-or of the
-- lists that name its word an odd number of times, and every place outside words 18h to 1Fh is either a checksum
-- byte, which its own list does not name, or in a word that one of the lists names once.
-- Assumes nothing.
use mathlib.Core.Path.{◌≡◌, refl, sym, ap, ap₂, ◌∙◌}
use mathlib.Core.Bool.{Bool, true, false, cond, not, ◌||◌, true≢false, false≢true}
use mathlib.Core.List.{List, [], ◌∷◌, map}
use Prim.Native.Nat.{ℕ, zero, suc, ◌+◌, ◌*◌, ◌/◌, ◌%◌, ◌<◌}
use native.Mathlib.Nat.{zero-add}
use native.Mathlib.Omega.{arith}
use lib.ListN.{length, get_or, set, replicate, get_or-replicate, get_or-map}
use lib.Seq.{get_or-set_same, get_or-set_other}
use lib.Dec.{eqb}
use lib.Bits.{bit_xor, xor_self, xor_comm, xor_zero_r, xor_lt}
use borrow.Author.Tests.{eqb-true, eqb-false, not-true}
use Rattle.std.specs.Prelude.{Result, Ok}
use Rattle.refusal.specs.declared.Refusal.{Refusal}
use Rattle.refusal.specs.declared.Refusal.TheVariants.{LengthOutside, MakerWrong, ChecksumWrong, SecondaryWrong}
use Rattle.image_rules.specs.declared.Node.{Node}
use Rattle.image_rules.specs.Image.{place_of, byte_at, low_at, high_at, word_at, from, span, is_among, except, both_bytes, xor_of, configuration, checksum_of, vital, configurable, secondary_of, or_refused, check_of}
use Rattle.image_check.specs.Noticed.{is_sound, Bytes, OneByteNoticed}
use Rattle.image_rules.proofs.Xor.{xor_assoc, xor_across}

-- ---- exclusive-or undone

xor_twice : (a b : ℕ) → bit_xor a (bit_xor a b) ≡ b
xor_twice a b = sym (xor_assoc a a b) ∙ ap (λ (x : ℕ). bit_xor x b) (xor_self a)

xor_cancel : (a b c : ℕ) → bit_xor a (bit_xor b c) ≡ a → b ≡ c
xor_cancel a b c e =
    sym (xor_zero_r b) ∙ ap (bit_xor b) (sym (xor_self a) ∙ ap (bit_xor a) (sym e) ∙ xor_twice a (bit_xor b c)) ∙ xor_twice b c

-- ---- an odd number of times

abbrev unlike : Bool → Bool → Bool
unlike true b = not b
unlike false b = b

-- The word w stands in the list an odd number of times.
abbrev oddly : ℕ → List ℕ → Bool
oddly w [] = false
oddly w (v ∷ offsets) = unlike (eqb (v % 64) w) (oddly w offsets)

both_changes : (a b : Bool) (d : ℕ) → bit_xor (cond a d 0) (cond b d 0) ≡ cond (unlike a b) d 0
both_changes true true d = xor_self d
both_changes true false d = xor_zero_r d
both_changes false b d = refl

-- ---- one byte changed

module _ (image : List ℕ) (place value : ℕ) (here : place < length image) where
  abbrev changed : List ℕ
  changed = set image place value

  abbrev change : ℕ
  change = bit_xor (byte_at image place) value

  same : byte_at changed place ≡ value
  same = get_or-set_same image place value 0 here

  other : (at : ℕ) → (at ≡ place → ⊥) → byte_at changed at ≡ byte_at image at
  other at n = get_or-set_other image place at value 0 n

  -- the low byte of the word u, and the high one
  low_changed : (u : ℕ) → place ≡ 2 * u
      → bit_xor (byte_at changed (2 * u + 1)) (byte_at changed (2 * u)) ≡ bit_xor (bit_xor (byte_at image (2 * u + 1)) (byte_at image (2 * u))) change
  low_changed u e =
      ap₂ bit_xor (other (2 * u + 1) (λ f. omega arith)) (ap (byte_at changed) (sym e) ∙ same)
      ∙ ap (bit_xor (byte_at image (2 * u + 1))) (sym (xor_twice (byte_at image place) value) ∙ ap (λ (x : ℕ). bit_xor (byte_at image x) change) e)
      ∙ sym (xor_assoc (byte_at image (2 * u + 1)) (byte_at image (2 * u)) change)

  high_changed : (u : ℕ) → place ≡ 2 * u + 1
      → bit_xor (byte_at changed (2 * u + 1)) (byte_at changed (2 * u)) ≡ bit_xor (bit_xor (byte_at image (2 * u + 1)) (byte_at image (2 * u))) change
  high_changed u e =
      ap₂ bit_xor (ap (byte_at changed) (sym e) ∙ same) (other (2 * u) (λ f. omega arith))
      ∙ xor_comm value (byte_at image (2 * u))
      ∙ ap (bit_xor (byte_at image (2 * u))) (sym (xor_twice (byte_at image place) value) ∙ ap (λ (x : ℕ). bit_xor (byte_at image x) change) e)
      ∙ sym (xor_assoc (byte_at image (2 * u)) (byte_at image (2 * u + 1)) change)
      ∙ ap (λ (x : ℕ). bit_xor x change) (xor_comm (byte_at image (2 * u)) (byte_at image (2 * u + 1)))

  word_changed : (u : ℕ) (own low : Bool) → eqb u (place / 2) ≡ own → eqb place (2 * u) ≡ low
      → bit_xor (byte_at changed (2 * u + 1)) (byte_at changed (2 * u)) ≡ bit_xor (bit_xor (byte_at image (2 * u + 1)) (byte_at image (2 * u))) (cond own change 0)
  word_changed u true true e f = low_changed u (eqb-true _ _ f)
  word_changed u true false e f =
      let g : place ≡ 2 * u → ⊥ = eqb-false _ _ f in
      let h : u ≡ place / 2 = eqb-true _ _ e in
      high_changed u (omega (arith, g))
  word_changed u false low e f =
      let g : u ≡ place / 2 → ⊥ = eqb-false _ _ e in
      ap₂ bit_xor (other (2 * u + 1) (λ h. g (omega arith))) (other (2 * u) (λ h. g (omega arith)))
      ∙ sym (xor_zero_r (bit_xor (byte_at image (2 * u + 1)) (byte_at image (2 * u))))

  list_changed : (offsets : List ℕ) → xor_of changed offsets ≡ bit_xor (xor_of image offsets) (cond (oddly (place / 2) offsets) change 0)
  unfolding xor_of both_bytes
  list_changed [] = refl
  list_changed (v ∷ offsets) =
      ap₂ bit_xor (word_changed (v % 64) (eqb (v % 64) (place / 2)) (eqb place (2 * (v % 64))) refl refl) (list_changed offsets)
      ∙ xor_across (both_bytes image v) (cond (eqb (v % 64) (place / 2)) change 0) (xor_of image offsets) (cond (oddly (place / 2) offsets) change 0)
      ∙ ap (bit_xor (bit_xor (both_bytes image v) (xor_of image offsets))) (both_changes (eqb (v % 64) (place / 2)) (oddly (place / 2) offsets) change)

  -- A checksum byte `at` over a list that does not name its word.
  module _ (at : ℕ) (offsets : List ℕ) (apart : oddly (at / 2) offsets ≡ false)
      (before : byte_at image at ≡ xor_of image offsets) (after : byte_at changed at ≡ xor_of changed offsets) where
    named : oddly (place / 2) offsets ≡ true → byte_at image place ≡ value
    named odd =
        xor_cancel (xor_of image offsets) (byte_at image place) value
        (ap (λ (b : Bool). bit_xor (xor_of image offsets) (cond b change 0)) (sym odd)
        ∙ sym (list_changed offsets) ∙ sym after
        ∙ other at (λ e. true≢false (sym odd ∙ ap (λ (x : ℕ). oddly (x / 2) offsets) (sym e) ∙ apart))
        ∙ before)

    itself : place ≡ at → byte_at image place ≡ value
    itself e =
        ap (byte_at image) e ∙ before ∙ sym (xor_zero_r (xor_of image offsets))
        ∙ ap (λ (b : Bool). bit_xor (xor_of image offsets) (cond b change 0)) (sym apart ∙ ap (λ (x : ℕ). oddly (x / 2) offsets) (sym e))
        ∙ sym (list_changed offsets) ∙ sym after ∙ ap (byte_at changed) (sym e) ∙ same

-- ---- what a sound image's four checksum bytes are

record Checksums (image : List ℕ) : Type 0 where
  high0_f : byte_at image 0x1F ≡ xor_of image (except (span 0x00 0x0E) configuration)
  low0_f : byte_at image 0x1E ≡ xor_of image configuration
  high17 : byte_at image 0x2F ≡ xor_of image vital
  low17 : byte_at image 0x2E ≡ xor_of image configurable

-- A sound answer has passed every test.
passed : (a b c d : Bool) (answer : Result Node Refusal)
    → is_sound (or_refused a LengthOutside (or_refused b MakerWrong (or_refused c ChecksumWrong (or_refused d SecondaryWrong answer)))) ≡ true
    → (a ≡ true) × (c ≡ true) × (d ≡ true)
passed true true true true answer e = (refl, refl, refl)
passed true true true false answer e = absurd (false≢true e)
passed true true false d answer e = absurd (false≢true e)
passed true false c d answer e = absurd (false≢true e)
passed false b c d answer e = absurd (false≢true e)

xor_of-byte : (image offsets : List ℕ) → Bytes image → xor_of image offsets < 256
unfolding xor_of both_bytes
xor_of-byte image [] bytes = omega arith
xor_of-byte image (v ∷ offsets) bytes =
    xor_lt 8 (both_bytes image v) (xor_of image offsets)
    (xor_lt 8 (high_at image v) (low_at image v) (bytes (place_of v + 1)) (bytes (place_of v)))
    (xor_of-byte image offsets bytes)

-- Words are equal where both bytes are.
halves : (a b c d : ℕ) → a < 256 → b < 256 → c < 256 → d < 256 → a * 256 + b ≡ c * 256 + d → (a ≡ c) × (b ≡ d)
halves a b c d ha hb hc hd e = (omega arith, omega arith)

tests : (image : List ℕ) → is_sound (check_of image) ≡ true
    → (eqb (length image) 128 ≡ true) × (eqb (word_at image 0x0F) (checksum_of image) ≡ true) × (eqb (word_at image 0x17) (secondary_of image) ≡ true)
unfolding check_of
tests image e =
    passed (eqb (length image) 128) (eqb (word_at image 0x07) 0x6D50) (eqb (word_at image 0x0F) (checksum_of image)) (eqb (word_at image 0x17) (secondary_of image))
    (Ok (record { node0 = word_at image 0x00; node1 = word_at image 0x01; node2 = word_at image 0x02 })) e

checksums : (image : List ℕ) → Bytes image → is_sound (check_of image) ≡ true → Checksums image
unfolding word_at checksum_of secondary_of
checksums image bytes e =
    let high = except (span 0x00 0x0E) configuration in
    let word0_f =
    halves (byte_at image 0x1F) (byte_at image 0x1E) (xor_of image high) (xor_of image configuration) (bytes 0x1F) (bytes 0x1E)
    (xor_of-byte image high bytes) (xor_of-byte image configuration bytes) (eqb-true _ _ (tests image e).1) in
    let word17 =
    halves (byte_at image 0x2F) (byte_at image 0x2E) (xor_of image vital) (xor_of image configurable) (bytes 0x2F) (bytes 0x2E)
    (xor_of-byte image vital bytes) (xor_of-byte image configurable bytes) (eqb-true _ _ (tests image e).2) in
    record { high0_f = word0_f.0; low0_f = word0_f.1; high17 = word17.0; low17 = word17.1 }

-- ---- every place outside words 18h to 1Fh is a checksum byte, or in a word that a list names

abbrev seen : ℕ → Bool
seen place =
    oddly (place / 2) (except (span 0x00 0x0E) configuration)
    || (oddly (place / 2) configuration
    || (oddly (place / 2) vital
    || (oddly (place / 2) configurable
    || (eqb place 0x1F
    || (eqb place 0x1E
    || (eqb place 0x2F
    || (eqb place 0x2E
    || is_among (place / 2) (span 0x18 0x1F))))))))

table : map seen (from 0 128) ≡ replicate 128 true
table = refl

from_at : (first n i : ℕ) → i < n → get_or (from first n) i 0 ≡ first + i
from_at first zero i h = absurd (omega arith)
from_at first (suc n) zero h = omega arith
from_at first (suc n) (suc i) h = from_at (suc first) n i (omega arith) ∙ omega arith

all_seen : (place : ℕ) → place < 128 → seen place ≡ true
all_seen place h =
    ap seen (sym (from_at 0 128 place h ∙ zero-add place))
    ∙ sym (get_or-map seen (from 0 128) place 0)
    ∙ ap (λ (l : List Bool). get_or l place (seen 0)) table
    ∙ get_or-replicate 128 place true (seen 0) h

excluded : (b : Bool) → (b || not b) ≡ true
excluded true = refl
excluded false = refl

either : {P : Type 0} (a b : Bool) → (a ≡ true → P) → (b ≡ true → P) → (a || b) ≡ true → P
either true b f g e = f refl
either false b f g e = g e

-- ---- the law

changed_bytes : (image : List ℕ) (place value : ℕ) → place < length image → Bytes image → value < 256 → Bytes (set image place value)
changed_bytes image place value here bytes small at =
    either (eqb at place) (not (eqb at place))
    (λ e. rw (eqb-true at place e, same image place value here) small)
    (λ e. rw (other image place value here at (eqb-false at place (not-true (eqb at place) e))) (bytes at))
    (excluded (eqb at place))

pub noticed : OneByteNoticed
noticed image place value bytes small near outside sound still =
    let size : length image ≡ 128 = eqb-true _ _ (tests image sound).0 in
    let here : place < length image = omega arith in
    let before = checksums image bytes sound in
    let after = checksums (set image place value) (changed_bytes image place value here bytes small) still in
    either _ _ (named image place value here 0x1F (except (span 0x00 0x0E) configuration) refl before.high0_f after.high0_f)
    (either _ _ (named image place value here 0x1E configuration refl before.low0_f after.low0_f)
    (either _ _ (named image place value here 0x2F vital refl before.high17 after.high17)
    (either _ _ (named image place value here 0x2E configurable refl before.low17 after.low17)
    (either _ _ (λ e. itself image place value here 0x1F (except (span 0x00 0x0E) configuration) refl before.high0_f after.high0_f (eqb-true _ _ e))
    (either _ _ (λ e. itself image place value here 0x1E configuration refl before.low0_f after.low0_f (eqb-true _ _ e))
    (either _ _ (λ e. itself image place value here 0x2F vital refl before.high17 after.high17 (eqb-true _ _ e))
    (either _ _ (λ e. itself image place value here 0x2E configurable refl before.low17 after.low17 (eqb-true _ _ e))
    (λ e. absurd (true≢false (sym e ∙ outside)))))))))) (all_seen place near)
