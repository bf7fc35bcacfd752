-- Worked numbers of document 01, "EEPROM image", by computing: a small image, its checksums, and each refusal.
-- Assumes nothing.
use mathlib.Core.Path.{◌≡◌, refl}
use mathlib.Core.List.{List, [], ◌∷◌, ◌++◌}
use Prim.Native.Nat.{ℕ, ◌/◌, ◌%◌}
use lib.ListN.{set, take, replicate}
use Rattle.std.specs.Prelude.{Ok, Err}
use Rattle.refusal.specs.declared.Refusal.TheVariants.{LengthOutside, MakerWrong, ChecksumWrong, SecondaryWrong}
use Rattle.image_rules.specs.Image.{place_of, byte_at, word_at, both_bytes, xor_of, checksum_of, secondary_of, check_of}

-- Word offset 0Fh stands at byte place 1Eh.
checksum-place : place_of 0x0F ≡ 0x1E
checksum-place = refl

-- Past the end every byte counts as 0.
past_the_end : byte_at (replicate 128 7) 128 ≡ 0
past_the_end = refl

-- Word 07h of every image: 50h, then 6Dh.
low_byte_first : word_at (0x50 ∷ 0x6D ∷ []) 0x00 ≡ 0x6D50
unfolding word_at
low_byte_first = refl

-- Words as bytes, low byte first.
abbrev bytes_of : List ℕ → List ℕ
bytes_of [] = []
bytes_of (w ∷ words) = (w % 256) ∷ (w / 256) ∷ bytes_of words

-- The words of a small image: offsets 00h to 17h, eight to a line, then zeros, and at 3Fh 0079h.
abbrev words : List ℕ
words =
    (0x0020 ∷ 0xAFC4 ∷ 0x12E5 ∷ 0x0000 ∷ 0x0000 ∷ 0x0000 ∷ 0x0000 ∷ 0x6D50
    ∷ 0x0010 ∷ 0x3F00 ∷ 0x0000 ∷ 0x0000 ∷ 0x0000 ∷ 0x0310 ∷ 0x0000 ∷ 0x813C
    ∷ 0x2083 ∷ 0x0000 ∷ 0x0000 ∷ 0x0000 ∷ 0x0011 ∷ 0x0000 ∷ 0x0000 ∷ 0xDA11 ∷ [])
    ++ (replicate 39 0 ++ (0x0079 ∷ []))

-- The image with other words at 0Fh and 17h.
abbrev with : ℕ → ℕ → List ℕ
with checksum secondary = bytes_of (set (set words 0x0F checksum) 0x17 secondary)

-- High byte: words 00h-0Eh except 08h, 09h, 0Dh; low byte: those three.
checksum : checksum_of (bytes_of words) ≡ 0x813C
unfolding checksum_of xor_of both_bytes
checksum = refl

-- High byte: words 10h-12h and 20h-3Fh; low byte: words 13h-16h.
secondary : secondary_of (bytes_of words) ≡ 0xDA11
unfolding secondary_of xor_of both_bytes
secondary = refl

sound : check_of (bytes_of words) ≡ Ok (record { node0 = 0x0020; node1 = 0xAFC4; node2 = 0x12E5 })
unfolding check_of word_at checksum_of secondary_of xor_of both_bytes
sound = refl

-- 2: image not 128 bytes.
one-short : check_of (take 127 (bytes_of words)) ≡ Err LengthOutside
unfolding check_of word_at checksum_of secondary_of xor_of both_bytes
one-short = refl

-- 8: word 07h is not 6D50h.
zeros : check_of (replicate 128 0) ≡ Err MakerWrong
unfolding check_of word_at
zeros = refl

-- 9: word 0Fh is not the checksum.
bytes_exchanged : check_of (with 0x3C81 0xDA11) ≡ Err ChecksumWrong
unfolding check_of word_at checksum_of secondary_of xor_of both_bytes
bytes_exchanged = refl

-- 10: word 17h is not the secondary checksums.
secondary_wrong : check_of (with 0x813C 0x11DA) ≡ Err SecondaryWrong
unfolding check_of word_at checksum_of secondary_of xor_of both_bytes
secondary_wrong = refl

-- Neither is: 9 wins.
both_wrong : check_of (with 0x3C81 0x11DA) ≡ Err ChecksumWrong
unfolding check_of word_at checksum_of secondary_of xor_of both_bytes
both_wrong = refl
