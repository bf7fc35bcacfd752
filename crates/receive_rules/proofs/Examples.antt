-- Worked numbers of document 01, computed from the definitions. Assumes nothing.
use mathlib.Core.Path.{◌≡◌, refl}
use mathlib.Core.Bool.{Bool, true, false}
use mathlib.Core.List.{List, [], ◌∷◌}
use Prim.Native.Nat.{ℕ, zero, suc}
use lib.IntN.{ℤ, pos, negsuc}
use lib.ListN.{replicate}
use Rattle.store.specs.Store.{at_newest, frames, room_of}
use Rattle.receive_rules.specs.Frame.{coming, Frame, Rx, is_coming, overran, room}
use Rattle.receive_rules.specs.Update.{with_on, with_failed, with_early, with_threshold, with_receiver}
use Rattle.receive_rules.specs.Wire.{passes, begins, wire_start, marked, wire_byte, ending, wire_end}
use Rattle.receive_rules.specs.Count.{decoded}
use Rattle.receive_rules.specs.Reading.{marks, unread_in, rx_status, readable, oldest, data_word, after_read, without_oldest, discard}
use Rattle.receive_rules.specs.Early.{early_flag, told_flag, settle_early}
use Rattle.receive_rules.specs.Sound.{in_order, early_settled}
use Rattle.receive_rules.specs.View.{state_of, sound_side}

-- a receiver that is on, with the wire in the state w and some frames stored
side : ℕ → List Frame → Rx
side w fs = record { receiver = record { on = true; failed = false; early = false; told = false; threshold = 2044; read = 0; wire = w }; frames = fs }

-- a frame of n bytes is coming, and then ends
arriving : ℕ → Rx
unfolding side
arriving n = side 2 (record { bytes = replicate n 7; state = coming false } ∷ [])

status : Rx → ℕ
status x = rx_status x.receiver.read x.frames

shown : ℕ → Bool → Bool → ℕ
unfolding status
shown n check alignment = status (wire_end check alignment (arriving n))

-- ---- the start and the bytes

fed : ℕ → Rx → Rx
fed zero x = x
fed (suc n) x = fed n (settle_early (wire_byte 5120 7 x))

-- 8 bytes and 52 more are 60
fed_60 : fed 52 (settle_early (wire_start 5120 true (replicate 8 7) (side 0 []))) ≡ arriving 60
unfolding fed side arriving wire_start begins wire_byte marked at_newest room overran is_coming early_flag told_flag
fed_60 = refl

-- a frame that is not taken, that comes to a receiver that is off, or whose 8 bytes don't fit, is ignored
ignored : wire_start 5120 false (replicate 8 7) (side 0 []) ≡ side 1 []
unfolding side wire_start begins
ignored = refl

off : wire_start 5120 true (replicate 8 7) (with_receiver (with_on false (side 0 []).receiver) (side 0 [])) ≡ with_receiver (with_on false (side 1 []).receiver) (side 1 [])
unfolding side wire_start begins
off = refl

no_room : wire_start 7 true (replicate 8 7) (side 0 []) ≡ side 1 []
unfolding side wire_start begins room
no_room = refl

-- a frame that has started is incomplete
begun : status (wire_start 5120 true (replicate 8 7) (side 0 [])) ≡ 0x8008
unfolding status side wire_start begins room rx_status marks
begun = refl

-- bytes past 1,792 are dropped, with room for them or without, and mark nothing
past_1792 : wire_byte 1792 7 (arriving 1792) ≡ arriving 1792
unfolding side arriving wire_byte marked at_newest room overran
past_1792 = refl

past_roomy : wire_byte 5120 7 (arriving 1792) ≡ arriving 1792
unfolding side arriving wire_byte marked at_newest room overran
past_roomy = refl

-- the filter's bits: the station's own address, a group, broadcast, all
own : passes 1 (replicate 6 2) (replicate 8 2) ≡ true
unfolding passes
own = refl

other : passes 7 (replicate 6 2) (replicate 8 4) ≡ false
unfolding passes
other = refl

group : passes 2 (replicate 6 2) (replicate 8 1) ≡ true
unfolding passes
group = refl

broadcast : passes 4 (replicate 6 2) (replicate 8 255) ≡ true
unfolding passes
broadcast = refl

all : passes 8 (replicate 6 2) (replicate 8 4) ≡ true
unfolding passes
all = refl

-- ---- RX Status

-- good 60 shows 003Ch, 1,514 shows 05EAh
good_60 : shown 60 true true ≡ 0x003C
unfolding shown status side arriving wire_end ending at_newest overran rx_status marks
good_60 = refl

good_1514 : shown 1514 true true ≡ 0x05EA
unfolding shown status side arriving wire_end ending at_newest overran rx_status marks
good_1514 = refl

-- 59 shows 583Bh, 1,515 shows 4DEBh, bad check at 60 shows 683Ch
short_59 : shown 59 true true ≡ 0x583B
unfolding shown status side arriving wire_end ending at_newest overran rx_status marks
short_59 = refl

long_1515 : shown 1515 true true ≡ 0x4DEB
unfolding shown status side arriving wire_end ending at_newest overran rx_status marks
long_1515 = refl

bad_check : shown 60 false true ≡ 0x683C
unfolding shown status side arriving wire_end ending at_newest overran rx_status marks
bad_check = refl

-- alignment wins over check, and overrun over shorter than 60
both-bad : shown 60 false false ≡ 0x603C
unfolding shown status side arriving wire_end ending at_newest overran rx_status marks
both-bad = refl

overrun : status (wire_end true true (wire_byte 8 7 (arriving 8))) ≡ 0x4008
unfolding status side arriving wire_byte marked wire_end ending at_newest room overran rx_status marks
overrun = refl

-- bit 15 until the end, and an empty store
incomplete : status (arriving 60) ≡ 0x803C
unfolding status side arriving rx_status marks
incomplete = refl

empty : status (side 0 []) ≡ 0x8000
unfolding status side rx_status
empty = refl

-- ---- the data read

reads : ℕ → Rx → Rx
reads zero x = x
reads (suc n) x = reads n (settle_early (after_read x))

-- 61 bytes after 31 words show 07FFh, after 32 show 07FDh
after_31 : status (reads 31 (wire_end true true (arriving 61))) ≡ 0x07FF
unfolding reads status side arriving wire_end ending at_newest overran is_coming readable after_read early_flag told_flag rx_status marks
after_31 = refl

after_32 : status (reads 32 (wire_end true true (arriving 61))) ≡ 0x07FD
unfolding reads status side arriving wire_end ending at_newest overran is_coming readable after_read early_flag told_flag rx_status marks
after_32 = refl

-- as signed numbers -1 and -3, since 1 byte and 3 of the pad were read
count : Rx → ℤ
count x = unread_in x.receiver.read x.frames

unread_31 : count (reads 31 (wire_end true true (arriving 61))) ≡ negsuc 0
unfolding reads count side arriving wire_end ending at_newest overran is_coming after_read early_flag told_flag
unread_31 = refl

unread_32 : count (reads 32 (wire_end true true (arriving 61))) ≡ negsuc 2
unfolding reads count side arriving wire_end ending at_newest overran is_coming after_read early_flag told_flag
unread_32 = refl

-- the most, none read, and an empty store
unread-most : (count (arriving 1792) ≡ pos 1792) × ((count (arriving 60) ≡ pos 60) × (count (side 0 []) ≡ pos 0))
unfolding count side arriving
unread-most = (refl, (refl, refl))

-- no pad counts before the end: with one byte of 61 left the read is a failure, and the byte stays unread
unread-coming : (count (reads 31 (arriving 61)) ≡ pos 1) × ((reads 31 (arriving 61)).receiver.failed ≡ true)
unfolding reads count side arriving is_coming after_read early_flag told_flag
unread-coming = (refl, refl)

-- the words tell them: 1,792 is the most, 1,793 would be -255
told_counts : (decoded 0x07FF ≡ negsuc 0) × ((decoded 0x07FD ≡ negsuc 2) × ((decoded 0x8000 ≡ pos 0) × ((decoded 0x4DEB ≡ pos 1515) × ((decoded 0x0700 ≡ pos 1792) × (decoded 0x0701 ≡ negsuc 254)))))
told_counts = (refl, (refl, (refl, (refl, (refl, refl)))))

-- the 31st word is the last byte and a zero of the pad
last_word : data_word (reads 30 (wire_end true true (arriving 61))) ≡ 7
unfolding reads side arriving wire_end ending at_newest overran is_coming readable after_read early_flag told_flag data_word oldest
last_word = refl

-- and the 32nd is pad alone
pad_word : data_word (reads 31 (wire_end true true (arriving 61))) ≡ 0
unfolding reads side arriving wire_end ending at_newest overran is_coming readable after_read early_flag told_flag data_word oldest
pad_word = refl

-- a read past the rounded length is a failure, which gives 0 and moves nothing
past_end : status (reads 33 (wire_end true true (arriving 61))) ≡ 0x07FD
unfolding reads status side arriving wire_end ending at_newest overran is_coming readable after_read early_flag told_flag rx_status marks
past_end = refl

past_fails : (reads 33 (wire_end true true (arriving 61))).receiver.failed ≡ true
unfolding reads side arriving wire_end ending at_newest overran is_coming readable after_read early_flag told_flag
past_fails = refl

past_word : data_word (reads 33 (wire_end true true (arriving 61))) ≡ 0
unfolding reads side arriving wire_end ending at_newest overran is_coming readable after_read early_flag told_flag data_word
past_word = refl

-- a receive failure stands, with 60 bytes to read
failing : Rx
failing = with_receiver (with_failed true (arriving 60).receiver) (arriving 60)

-- a read gives 0 then and moves nothing
not-read : data_word failing ≡ 0
unfolding failing arriving side data_word
not-read = refl

not-moved : after_read failing ≡ failing
unfolding failing arriving side after_read readable is_coming
not-moved = refl

-- RX Discard does nothing then
not-discarded : discard failing ≡ failing
unfolding failing arriving side discard
not-discarded = refl

-- RX Discard on an unfinished frame drops its rest too
discarded : discard (arriving 60) ≡ side 1 []
unfolding side arriving discard without_oldest is_coming
discarded = refl

-- ---- RX Early is set once per frame: acknowledged, it does not come again

-- 60 bytes have come with the threshold 60: RX Early stands or not, and was set or not
early : Bool → Bool → Rx
early stands was = with_receiver (with_early stands was (with_threshold 60 (arriving 60).receiver)) (arriving 60)

early_set : settle_early (early false false) ≡ early true true
unfolding early arriving side early_flag told_flag is_coming
early_set = refl

early_once : settle_early (early false true) ≡ early false true
unfolding early arriving side early_flag told_flag is_coming
early_once = refl

-- ---- the test of soundness

-- an idle receiver with 64 bytes, and n whole frames of 40 in the directory
handed : ℕ → Bool
handed n = sound_side 64 (record { receiver = (side 0 []).receiver; frames = n }) (replicate 64 7) (replicate 2 40)

-- one fits; two would take 80
sum_fits : handed 1 ≡ true
unfolding handed side sound_side frames room_of room is_coming state_of in_order readable early_settled
sum_fits = refl

sum_over : handed 2 ≡ false
unfolding handed side sound_side frames room_of room is_coming state_of in_order readable early_settled
sum_over = refl

-- an empty store with this threshold: 8 to 2,047
with_threshold_lem : ℕ → Bool
with_threshold_lem n = sound_side 64 (record { receiver = with_threshold n (side 0 []).receiver; frames = 0 }) (replicate 64 7) []

threshold_sound : (with_threshold_lem 8 ≡ true) × (with_threshold_lem 2047 ≡ true)
unfolding with_threshold_lem side sound_side frames room_of room in_order readable early_settled
threshold_sound = (refl, refl)

threshold_unsound : (with_threshold_lem 7 ≡ false) × (with_threshold_lem 2048 ≡ false)
unfolding with_threshold_lem side sound_side frames room_of room in_order readable early_settled
threshold_unsound = (refl, refl)
