-- Document 01, "EEPROM image", over the list of the image's bytes.
-- Assumes nothing.
use Rattle.std.specs.Prelude.{ℕ, zero, suc, ◌+◌, ◌*◌, ◌-◌, ◌%◌, Bool, true, false, cond, ◌||◌, List, [], ◌∷◌, ◌++◌, length, get_or, eqb, Result, Ok, Err}
use Rattle.std.specs.Int.Bits.{bit_xor}
use Rattle.refusal.specs.declared.Refusal.{Refusal}
use Rattle.refusal.specs.declared.Refusal.TheVariants.{LengthOutside, MakerWrong, ChecksumWrong, SecondaryWrong}
use Rattle.image_rules.specs.declared.Node.{Node}

-- The byte place of the word at offset w. An offset has six bits: it counts modulo 64.
abbrev pub place_of : ℕ → ℕ
place_of w = 2 * (w % 64)

-- The byte at a place; 0 past the end.
abbrev pub byte_at : List ℕ → ℕ → ℕ
byte_at image place = get_or image place 0

-- Words stand low byte first.
abbrev pub low_at : List ℕ → ℕ → ℕ
low_at image w = byte_at image (place_of w)

abbrev pub high_at : List ℕ → ℕ → ℕ
high_at image w = byte_at image (place_of w + 1)

unfoldable pub word_at : List ℕ → ℕ → ℕ
word_at image w = high_at image w * 256 + low_at image w

-- Words first to last.
abbrev pub from : ℕ → ℕ → List ℕ
from w zero = []
from w (suc n) = w ∷ from (suc w) n

abbrev pub span : ℕ → ℕ → List ℕ
span first last = from first (suc last - first)

-- These words, except those.
abbrev pub is_among : ℕ → List ℕ → Bool
is_among w [] = false
is_among w (v ∷ those) = eqb v w || is_among w those

abbrev pub except : List ℕ → List ℕ → List ℕ
except [] those = []
except (w ∷ these) those = cond (is_among w those) (except these those) (w ∷ except these those)

-- Exclusive-or of both bytes of the words at the offsets.
unfoldable pub both_bytes : List ℕ → ℕ → ℕ
both_bytes image w = bit_xor (high_at image w) (low_at image w)

unfoldable pub xor_of : List ℕ → List ℕ → ℕ
xor_of image [] = 0
xor_of image (w ∷ offsets) = bit_xor (both_bytes image w) (xor_of image offsets)

-- High byte of 0Fh: exclusive-or of both bytes of words 00h-0Eh except 08h, 09h, 0Dh.
-- Low byte: the same over 08h, 09h, 0Dh.
abbrev pub configuration : List ℕ
configuration = 0x08 ∷ 0x09 ∷ 0x0D ∷ []

unfoldable pub checksum_of : List ℕ → ℕ
checksum_of image = xor_of image (except (span 0x00 0x0E) configuration) * 256 + xor_of image configuration

-- The vital data checksum covers words 10h, 11h, and 12h as well as words 20h through 3Fh.
-- The configurable data checksum covers words 13h through 16h.
abbrev pub vital : List ℕ
vital = (0x10 ∷ 0x11 ∷ 0x12 ∷ []) ++ span 0x20 0x3F

abbrev pub configurable : List ℕ
configurable = span 0x13 0x16

-- Word 17h: the high byte is the vital data checksum; the low byte is the configurable data checksum.
unfoldable pub secondary_of : List ℕ → ℕ
secondary_of image = xor_of image vital * 256 + xor_of image configurable

-- The refusal, unless the test holds.
abbrev pub or_refused : Bool → Refusal → Result Node Refusal → Result Node Refusal
or_refused true why answer = answer
or_refused false why answer = Err why

-- Image not 128 bytes; word 07h is not 6D50h; word 0Fh is not the checksum; word 17h is not the
-- secondary checksums: the first of these wins. A sound image gives words 00h-02h.
unfoldable pub check_of : List ℕ → Result Node Refusal
check_of image =
    or_refused (eqb (length image) 128) LengthOutside
    (or_refused (eqb (word_at image 0x07) 0x6D50) MakerWrong
    (or_refused (eqb (word_at image 0x0F) (checksum_of image)) ChecksumWrong
    (or_refused (eqb (word_at image 0x17) (secondary_of image)) SecondaryWrong
    (Ok (record { node0 = word_at image 0x00; node1 = word_at image 0x01; node2 = word_at image 0x02 })))))
