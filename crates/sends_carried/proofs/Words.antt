-- The words that the driver writes make one packet of the bytes they came from. Assumes nothing.
use mathlib.Core.Path.{◌≡◌, refl, sym, ap, ◌∙◌}
use mathlib.Core.Bool.{true, false, ◌&&◌}
use mathlib.Core.List.{List, [], ◌∷◌, ◌++◌}
use Prim.Native.Nat.{ℕ, zero, suc, ◌+◌, ◌*◌, ◌-◌, ◌/◌, ◌%◌, ◌≤◌, ◌<◌}
use native.Mathlib.Omega.{arith}
use borrow.Author.Tests.{ltb-true, le-leb}
use lib.Dec.{ltb}
use lib.ListN.{length, take, drop}
use Rattle.bits.proofs.Tests.{both}
use Rattle.store.specs.Store.{begun, len_of, round4}
use Rattle.transmit_rules.specs.Queue.{Queue, no_part, room, free}
use Rattle.transmit_rules.specs.Write.{sized, opened}
use Rattle.transmit_rules.specs.Whole.{puts, bytes_of}
use Rattle.transmit_rules.proofs.Put.{put-opens}
use Rattle.transmit_rules.proofs.Whole.{written-whole}
use Rattle.driver_rules.specs.Talk.{words_of}
use Rattle.driver_rules.specs.Packet.{packet_words}
use Rattle.sends_carried.specs.Packets.{are_bytes, stored}

words-length : (m : ℕ) (p : List ℕ) → length (words_of m p) ≡ m
unfolding words_of
words-length zero p = refl
words-length (suc m) p = ap suc (words-length m (drop 2 p))

-- the bytes of the words are those that they were made of
words-bytes : (m : ℕ) (p : List ℕ) → length p ≤ 2 * m → are_bytes p ≡ true → take (length p) (bytes_of (words_of m p)) ≡ p
unfolding words_of bytes_of are_bytes
words-bytes m [] h e = refl
words-bytes zero (x ∷ p) h e = absurd (omega arith)
words-bytes (suc m) (x ∷ []) h e =
    let l : x < 256 = ltb-true x 256 (both (ltb x 256) true e).0 in
    let low : (x + 256 * 0) % 256 ≡ x = omega arith in
    ap (λ (v : ℕ). v ∷ []) low
words-bytes (suc m) (x ∷ y ∷ p) h e =
    let f = both (ltb x 256) (ltb y 256 && are_bytes p) e in
    let g = both (ltb y 256) (are_bytes p) f.1 in
    let l : x < 256 = ltb-true x 256 f.0 in
    let k : y < 256 = ltb-true y 256 g.0 in
    let low : (x + 256 * y) % 256 ≡ x = omega arith in
    let high : (x + 256 * y) / 256 ≡ y = omega arith in
    λ j. low j ∷ high j ∷ words-bytes m p (omega arith) g.1 j

-- a queue in which nothing is half written is as good as one with no part
pub puts-clear : (size w : ℕ) (vs : List ℕ) (q : Queue) → q.failed ≡ false → q.part.words ≡ 0 → 2 ≤ free size q → sized (len_of w) ≡ true
    → puts size (w ∷ vs) q ≡ puts size (w ∷ vs) (record { failed = false; packets = q.packets; part = no_part })
unfolding puts free
puts-clear size w vs q f e r s =
    let c : Queue = record { failed = false; packets = q.packets; part = no_part } in
    ap (puts size vs) (put-opens size w q f r e s ∙ (λ j. record { failed = f j; packets = q.packets; part = opened w }) ∙ sym (put-opens size w c refl (omega arith) refl s))

-- the preamble's length and flags
module _ (p : List ℕ) (long : 14 ≤ length p) (short : length p ≤ 1514) where
  abbrev w : ℕ
  w = 0x8000 + length p

  says : len_of w ≡ length p
  says = omega arith

  flagged : w / 2048 ≡ 16
  flagged = omega arith

  fits : sized (len_of w) ≡ true
  fits = rw (says, le-leb 6 (length p) (omega arith), le-leb (length p) 1792 (omega arith))

  module _ (bytes : are_bytes p ≡ true) (size : ℕ) (q : Queue) (ok : q.failed ≡ false) (none : q.part.words ≡ 0) (space : 4 + round4 (length p) ≤ free size q) where
    sum : room q.packets + (4 + round4 (length p)) ≤ size
    unfolding free
    sum = omega arith

    whole : (v : ℕ) (vs : List ℕ) (m : ℕ) → words_of (suc m) p ≡ v ∷ vs → round4 (length p) / 2 ≡ suc m
        → puts size (w ∷ 0 ∷ v ∷ vs) q ≡ record { failed = false; packets = q.packets ++ (stored p ∷ []); part = no_part }
    whole v vs m e h =
        let n : suc (length vs) ≡ suc m = sym (ap length e) ∙ words-length (suc m) p in
        let t : take (len_of w) (bytes_of (v ∷ vs)) ≡ p =
        ap (λ (i : ℕ). take i (bytes_of (v ∷ vs))) says ∙ ap (λ (l : List ℕ). take (length p) (bytes_of l)) (sym e) ∙ words-bytes (suc m) p (omega arith) bytes in
        puts-clear size w (0 ∷ v ∷ vs) q ok none (omega arith) fits
        ∙ written-whole size w 0 v vs q.packets fits (omega (arith, says)) (omega (arith, says, sum))
        ∙ (λ j. record { failed = false; packets = q.packets ++ (begun (flagged j) (t j) ∷ []); part = no_part })

    pub packet-whole : puts size (packet_words p) q ≡ record { failed = false; packets = q.packets ++ (stored p ∷ []); part = no_part }
    unfolding words_of
    packet-whole =
        let h : round4 (length p) / 2 ≡ suc (round4 (length p) / 2 - 1) = omega arith in
        ap (λ (m : ℕ). puts size (w ∷ 0 ∷ words_of m p) q) h ∙ whole _ _ (round4 (length p) / 2 - 1) refl h
