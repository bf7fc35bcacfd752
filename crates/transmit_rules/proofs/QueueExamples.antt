-- Computed examples of the transmit FIFO, the bench table's among them. Assumes nothing.
use mathlib.Core.Path.{◌≡◌, refl, ap, ◌∙◌}
use mathlib.Core.Bool.{true, false}
use mathlib.Core.List.{List, [], ◌∷◌, ◌++◌}
use Prim.Native.Nat.{ℕ}
use lib.Dec.{lit≤}
use lib.ListN.{length, replicate}
use Rattle.store.specs.Store.{Frame, begun}
use Rattle.transmit_rules.specs.Queue.{Queue, empty, no_part, room, free}
use Rattle.transmit_rules.specs.Write.{put, completed}
use Rattle.transmit_rules.specs.Leave.{oldest_wanted, told, others, leave}
use Rattle.transmit_rules.specs.QueueSound.{all_sized, orderly}
use Rattle.transmit_rules.specs.Whole.{puts, bytes_of}
use Rattle.transmit_rules.proofs.Whole.{written-whole}

-- a packet of n bytes, with no flags, as the host writes it: the preamble, and zeros padded to 4
written : ℕ → ℕ → Queue → Queue
written n words q = puts 3072 (n ∷ 0 ∷ replicate words 0) q

-- 14 bytes leave TX Free 3,052 of 3,072
fourteen : free 3072 (written 14 8 empty) ≡ 3052
unfolding written puts put completed free room
fourteen = refl

-- packets of 1,514 zeros, one and two, and that they are what the host's words make
big : Frame
big = begun 0 (replicate 1514 0)

stores : List Frame → Queue
stores ps = record { failed = false; packets = ps; part = no_part }

one_written : written 1514 758 empty ≡ stores (big ∷ [])
unfolding written stores big bytes_of room
one_written = written-whole 3072 1514 0 0 (replicate 757 0) [] refl refl (lit≤ tt)

two-written : written 1514 758 (stores (big ∷ [])) ≡ stores (big ∷ big ∷ [])
unfolding written stores big bytes_of room
two-written = written-whole 3072 1514 0 0 (replicate 757 0) (big ∷ []) refl refl (lit≤ tt)

-- two of 1,514 leave 32
two-left : free 3072 (written 1514 758 (written 1514 758 empty)) ≡ 32
unfolding free room stores big
two-left = ap (free 3072) (ap (written 1514 758) one_written ∙ two-written)

-- then a packet of 28 is taken, and one of 29 is not: its last words find no room
two : Queue
two = stores (big ∷ big ∷ [])

twenty_eight : ((written 28 14 two).failed ≡ false) × (length (written 28 14 two).packets ≡ 3) × (free 3072 (written 28 14 two) ≡ 0)
unfolding two stores big written puts put completed free room
twenty_eight = (refl, refl, refl)

twenty_nine : ((written 29 16 two).failed ≡ true) × (length (written 29 16 two).packets ≡ 2)
unfolding two stores big written puts put completed free room
twenty_nine = (refl, refl)

-- each word takes 2
by_twos : (free 3072 (puts 3072 (14 ∷ []) empty) ≡ 3070) × (free 3072 (puts 3072 (14 ∷ 0 ∷ 0 ∷ []) empty) ≡ 3066)
unfolding puts put completed free room
by_twos = (refl, refl)

-- one byte is no room for a word
one_byte : put 1 14 empty ≡ record { failed = true; packets = []; part = no_part }
unfolding put free room
one_byte = refl

-- a preamble of 5 fails, and so does one of 1,793; neither takes room. 6 and 1,792 are taken
fails_5 : put 3072 5 empty ≡ record { failed = true; packets = []; part = no_part }
unfolding put free room
fails_5 = refl

fails_1793 : put 3072 1793 empty ≡ record { failed = true; packets = []; part = no_part }
unfolding put free room
fails_1793 = refl

takes_6 : put 3072 6 empty ≡ record { failed = false; packets = []; part = record { words = 1; preamble = 6; bytes = [] } }
unfolding put free room
takes_6 = refl

takes_1792 : (put 3072 1792 empty).failed ≡ false
unfolding put free room
takes_1792 = refl

-- the low byte goes first, and the pad is not kept: 8006h begins a packet of 6 bytes with bit 15
low_first : puts 3072 (32774 ∷ 0 ∷ 513 ∷ 1027 ∷ 1541 ∷ 0 ∷ []) empty ≡ record { failed = false; packets = begun 16 (1 ∷ 2 ∷ 3 ∷ 4 ∷ 5 ∷ 6 ∷ []) ∷ []; part = no_part }
unfolding puts put completed free room
low_first = refl

-- a packet of 14 tells 60 bytes; with bit 13 it tells 14
sixty : told (begun 0 (replicate 14 1)) ≡ replicate 14 1 ++ replicate 46 0
sixty = refl

included : told (begun 4 (replicate 14 1)) ≡ replicate 14 1
included = refl

-- completion is wanted by bit 15, and not by bit 14
wanted_15 : oldest_wanted (begun 16 (replicate 14 1) ∷ []) ≡ true
unfolding oldest_wanted
wanted_15 = refl

unwanted_14 : oldest_wanted (begun 8 (replicate 14 1) ∷ []) ≡ false
unfolding oldest_wanted
unwanted_14 = refl

-- the oldest packet leaves, and all that has come of the one being written stays: 3 words of data are 6 bytes
leaves : leave (puts 3072 (14 ∷ 0 ∷ 513 ∷ 1027 ∷ 1541 ∷ []) (written 14 8 empty)) ≡ record { failed = false; packets = []; part = record { words = 5; preamble = 14; bytes = 1 ∷ 2 ∷ 3 ∷ 4 ∷ 5 ∷ 6 ∷ [] } }
unfolding written puts put completed free room others
leaves = refl

-- of 64 bytes a packet of 40 takes 44, and two would take 88
sum_fits : orderly 64 (stores (begun 0 (replicate 40 0) ∷ [])) ≡ true
unfolding stores room all_sized
sum_fits = refl

sum_over : orderly 64 (stores (begun 0 (replicate 40 0) ∷ begun 0 (replicate 40 0) ∷ [])) ≡ false
unfolding stores room all_sized
sum_over = refl
