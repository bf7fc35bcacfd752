-- Worked figures, computed. Assumes nothing.
use mathlib.Core.Path.{◌≡◌, refl}
use mathlib.Core.Bool.{true, false}
use mathlib.Core.List.{List, [], ◌∷◌, ◌++◌}
use Prim.Native.Nat.{ℕ}
use lib.ListN.{get_or, drop, replicate}
use Rattle.card_rules.specs.Adapter.{Adapter}
use Rattle.card_rules.specs.Access.{Access, access}
use Rattle.driver_rules.specs.declared.Driver.{Driver}
use Rattle.driver_rules.specs.Registers.{unfit, rx_complete, bad}
use Rattle.driver_rules.specs.Talk.{Talk, done, ask, run, words_of}
use Rattle.driver_rules.specs.Driver.{driver_sound, opening, sending, oldest_ticket}
use Rattle.driver_rules.specs.Packet.{outside, lacks_room, packet_words}

abbrev after : ℕ → ℕ → Driver
after sent unreported = record { opened = true; sent = sent; unreported = unreported; error = false }

-- Of seven packets three are unreported, 4, 5 and 6: the oldest ticket is 4.
of_seven_three : oldest_ticket (after 7 3) ≡ 4
of_seven_three = refl

-- Tickets go round: before ticket 0 comes 65,535.
round : oldest_ticket (after 1 3) ≡ 65534
round = refl

-- Ticket 65,535 is given, and the next is 0.
last-ticket : sending (after 65535 3) ≡ after 0 4
last-ticket = refl

-- A second open keeps the three.
kept-three : opening (after 7 3) ≡ after 7 3
kept-three = refl

-- At most sixteen packets are unreported.
sixteen : driver_sound (after 20 16) ≡ true
sixteen = refl

seventeen : driver_sound (after 20 17) ≡ false
seventeen = refl

-- ---- the Status word

-- Window 1 is fit, window 2 is not, nor is Adapter Failure.
window_1 : unfit 0x2000 ≡ false
window_1 = refl

window_2 : unfit 0x4000 ≡ true
window_2 = refl

failure : unfit 0x2002 ≡ true
failure = refl

-- RX Complete is bit 4; RX Early, bit 5, tells of a frame that is still coming.
complete : rx_complete 0x2010 ≡ true
complete = refl

early : rx_complete 0x2020 ≡ false
early = refl

-- ---- RX Status

-- 60 and 1,514 bytes are good, 59 and 1,515 are not.
good_60 : bad 0x003C ≡ false
good_60 = refl

good_1514 : bad 0x05EA ≡ false
good_1514 = refl

short_59 : bad 0x003B ≡ true
short_59 = refl

long_1515 : bad 0x05EB ≡ true
long_1515 = refl

-- A bad check at 60 shows 683Ch: bit 14.
bad_check : bad 0x683C ≡ true
bad_check = refl

-- ---- a packet

-- 14 bytes are taken, and 1,514; 13 and 1,515 are not.
taken_14 : outside 14 ≡ false
taken_14 = refl

taken_1514 : outside 1514 ≡ false
taken_1514 = refl

outside_13 : outside 13 ≡ true
outside_13 = refl

outside_1515 : outside 1515 ≡ true
outside_1515 = refl

-- 28 bytes need 32, and 29 need more.
room_32 : lacks_room 32 28 ≡ false
room_32 = refl

room_31 : lacks_room 31 28 ≡ true
room_31 = refl

room_29 : lacks_room 32 29 ≡ true
room_29 = refl

-- 14 bytes: the two preamble words, seven words, and one of zeros.
words_14 : packet_words (replicate 14 7) ≡ (0x800E ∷ (0 ∷ [])) ++ (replicate 7 0x0707 ++ (0 ∷ []))
unfolding words_of
words_14 = refl

-- ---- a run

-- An access leaves its card to the rest of the run.
one-step : (x : Access) (a : Adapter) → (run (ask x (λ v. done v)) a).adapter ≡ (access x a).adapter
unfolding run
one-step x a = refl

-- The accesses of a tree, where they give the values vs in turn, then 0: for the examples of those that cite this.
unfoldable pub made : {A : Type 0} → Talk A → List ℕ → List Access
made (done x) vs = []
made (ask x next) vs = x ∷ made (next (get_or vs 0 0)) (drop 1 vs)

-- What it answers then.
unfoldable pub answer : {A : Type 0} → Talk A → List ℕ → A
answer (done x) vs = x
answer (ask x next) vs = answer (next (get_or vs 0 0)) (drop 1 vs)
