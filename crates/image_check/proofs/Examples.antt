-- Worked images, by computing: a sound one, each refusal, and what a change of one word does.
-- Assumes nothing.
use mathlib.Core.Path.{◌≡◌, refl}
use mathlib.Core.List.{List, [], ◌∷◌, ◌++◌, map}
use Prim.Native.Nat.{ℕ, ◌/◌, ◌%◌}
use lib.ListN.{get_or, set, take, replicate}
use lib.Bits.{bit_xor}
use Rattle.std.specs.Prelude.{Result, Ok, Err}
use Rattle.refusal.specs.Number.{number_of}
use Rattle.refusal.specs.declared.Refusal.{Refusal}
use Rattle.refusal.specs.declared.Refusal.TheVariants.{LengthOutside, MakerWrong, ChecksumWrong, SecondaryWrong}
use Rattle.image_rules.specs.declared.Node.{Node}
use Rattle.image_rules.specs.Image.{place_of, word_at, both_bytes, xor_of, span, checksum_of, secondary_of, check_of}

-- Word offset 0Fh stands at byte place 1Eh.
checksum-place : place_of 0x0F ≡ 0x1E
checksum-place = refl

-- Words as bytes, low byte first.
abbrev bytes_of : List ℕ → List ℕ
bytes_of [] = []
bytes_of (w ∷ words) = (w % 256) ∷ (w / 256) ∷ bytes_of words

-- The words of a card, offsets 00h to 3Fh, eight to a line.
abbrev card : List ℕ
card =
    0x0020 ∷ 0xAFC4 ∷ 0x12E5 ∷ 0x9150 ∷ 0x5C6A ∷ 0x0041 ∷ 0x3730 ∷ 0x6D50
    ∷ 0x0010 ∷ 0x3F00 ∷ 0x0020 ∷ 0xAFC4 ∷ 0x12E5 ∷ 0x0310 ∷ 0x0000 ∷ 0x8C3C
    ∷ 0x2083 ∷ 0x0000 ∷ 0x0000 ∷ 0x0000 ∷ 0x0011 ∷ 0x0000 ∷ 0x0000 ∷ 0x3111
    ∷ 0x6D50 ∷ 0x9050 ∷ 0x0000 ∷ 0x0000 ∷ 0x0A00 ∷ 0x0010 ∷ 0x0082 ∷ 0x4333
    ∷ 0x6F43 ∷ 0x206D ∷ 0x4333 ∷ 0x3035 ∷ 0x4239 ∷ 0x4520 ∷ 0x6874 ∷ 0x7265
    ∷ 0x694C ∷ 0x6B6E ∷ 0x4920 ∷ 0x4949 ∷ 0x0015 ∷ 0x506D ∷ 0x9051 ∷ 0x1600
    ∷ 0x6D50 ∷ 0x9050 ∷ 0x0047 ∷ 0x0210 ∷ 0xE003 ∷ 0x1003 ∷ 0x2210 ∷ 0x9EA8
    ∷ 0x0079 ∷ 0xFFFF ∷ 0xFFFF ∷ 0xFFFF ∷ 0xFFFF ∷ 0xFFFF ∷ 0xFFFF ∷ 0xFFFF ∷ []

-- The card's image with another word at an offset.
abbrev with : ℕ → ℕ → List ℕ
with w value = bytes_of (set card w value)

sound : check_of (bytes_of card) ≡ Ok (record { node0 = 0x0020; node1 = 0xAFC4; node2 = 0x12E5 })
unfolding check_of word_at checksum_of secondary_of xor_of both_bytes
sound = refl

-- 2: image not 128 bytes.
none : check_of [] ≡ Err LengthOutside
unfolding check_of
none = refl

one-short : check_of (take 127 (bytes_of card)) ≡ Err LengthOutside
unfolding check_of
one-short = refl

one-long : check_of (bytes_of card ++ (0 ∷ [])) ≡ Err LengthOutside
unfolding check_of
one-long = refl

-- 8: word 07h is not 6D50h.
zeros : check_of (replicate 128 0) ≡ Err MakerWrong
unfolding check_of word_at
zeros = refl

maker_turned : check_of (with 0x07 0x506D) ≡ Err MakerWrong
unfolding check_of word_at
maker_turned = refl

-- 9: word 0Fh is not the checksum.
checksum_wrong : check_of (with 0x0F 0x3C8C) ≡ Err ChecksumWrong
unfolding check_of word_at checksum_of xor_of both_bytes
checksum_wrong = refl

-- 10: word 17h is not the secondary checksums.
secondary_wrong : check_of (with 0x17 0x1131) ≡ Err SecondaryWrong
unfolding check_of word_at checksum_of secondary_of xor_of both_bytes
secondary_wrong = refl

-- The paper's number of a refusal, and 0 for a sound image.
abbrev outcome : Result Node Refusal → ℕ
outcome (Ok node) = 0
outcome (Err why) = number_of why

-- What the check answers with the lowest bit of one word changed, for each word in order: 00h to 06h, 07h,
-- 08h to 0Fh, 10h to 17h, 18h to 1Fh, 20h to 3Fh. Words 18h to 1Fh go unnoticed: no checksum covers them.
-- Words 07h, 0Fh and 17h are each held to one value, so no change of theirs passes. In every other word a change
-- of one byte is noticed (`noticed`), and a change of the same bits in both bytes is not, as an exchange
-- of the two; nor is a change of the same bits in two words of one list: in the exclusive-or they cancel.
one_bit_changed : map (λ (w : ℕ). outcome (check_of (with w (bit_xor 1 (get_or card w 0))))) (span 0x00 0x3F)
    ≡ replicate 7 9 ++ ((8 ∷ []) ++ (replicate 8 9 ++ (replicate 8 10 ++ (replicate 8 0 ++ replicate 32 10))))
unfolding check_of word_at checksum_of secondary_of xor_of both_bytes
one_bit_changed = refl

-- The two bytes of word 00h exchanged: unnoticed.
bytes_exchanged : check_of (with 0x00 0x2000) ≡ Ok (record { node0 = 0x2000; node1 = 0xAFC4; node2 = 0x12E5 })
unfolding check_of word_at checksum_of secondary_of xor_of both_bytes
bytes_exchanged = refl
