-- The store that a card's memory holds has bytes, and codes of three bits: what `Unread` asks of it is no premise on a real card. Assumes nothing.
use mathlib.Core.Path.{◌≡◌, refl}
use mathlib.Core.Bool.{true, ◌&&◌}
use mathlib.Core.List.{List, [], ◌∷◌, map}
use Prim.Native.Nat.{ℕ, zero, suc, ◌-◌, ◌/◌, ◌%◌, ◌<◌}
use native.Mathlib.Omega.{arith}
use borrow.Author.Tests.{ltb-true, lt-ltb, leb-false}
use lib.ListN.{take, drop}
use lib.Dec.{leb, ltb}
use Rattle.bits.proofs.Tests.{both, join, of_test}
use Rattle.store.specs.Store as store
use Rattle.store.specs.Store.{round4}
use Rattle.receive_rules.specs.Frame.{State, Frame}
use Rattle.receive_rules.specs.View.{state_of, told}
use Rattle.card_rules.specs.Power.{power_on}
use Rattle.card_rules.specs.View.{view, rx_size_of}
use Rattle.frames_carried.specs.Bytes.{octets, dir_words, code_fits, holdable}
use Rattle.frames_carried.specs.Carried.{StoresAreSuch}

octets-take : (n : ℕ) (bs : List ℕ) → octets bs ≡ true → octets (take n bs) ≡ true
unfolding octets
octets-take zero bs h = refl
octets-take (suc n) [] h = refl
octets-take (suc n) (v ∷ bs) h = let p = both (ltb v 256) (octets bs) h in join (ltb v 256) (octets (take n bs)) p.0 (octets-take n bs p.1)

octets-drop : (n : ℕ) (bs : List ℕ) → octets bs ≡ true → octets (drop n bs) ≡ true
unfolding octets
octets-drop zero bs h = h
octets-drop (suc n) [] h = refl
octets-drop (suc n) (v ∷ bs) h = octets-drop n bs (both (ltb v 256) (octets bs) h).1

words_take : (n : ℕ) (ws : List ℕ) → dir_words ws ≡ true → dir_words (take n ws) ≡ true
unfolding dir_words
words_take zero ws h = refl
words_take (suc n) [] h = refl
words_take (suc n) (w ∷ ws) h = let p = both (ltb w 65536) (dir_words ws) h in join (ltb w 65536) (dir_words (take n ws)) p.0 (words_take n ws p.1)

-- a directory word has 16 bits, so that its code has three
code-small : (h : ℕ) → h < 32 → code_fits (state_of h) ≡ true
unfolding state_of code_fits
code-small h s =
    of_test (λ (t : State). code_fits t ≡ true) (leb 16 h) (λ _. refl)
    (λ n. of_test (λ (t : State). code_fits t ≡ true) (leb 8 h) (λ _. lt-ltb (h - 8) 8 (omega (arith, leb-false 16 h n))) (λ _. refl))

frames-held : (ws m : List ℕ) → dir_words ws ≡ true → octets m ≡ true → holdable (map told (store.frames ws m)) ≡ true
unfolding store.frames dir_words holdable
frames-held [] m w o = refl
frames-held (x ∷ ws) m w o =
    let p = both (ltb x 65536) (dir_words ws) w in
    let small : x < 65536 = ltb-true x 65536 p.0 in
    let rest : List Frame = map told (store.frames ws (drop (round4 (x % 2048)) m)) in
    join (octets (take (x % 2048) m)) (code_fits (state_of (x / 2048)) && holdable rest) (octets-take (x % 2048) m o)
    (join (code_fits (state_of (x / 2048))) (holdable rest) (code-small (x / 2048) (omega arith)) (frames-held ws (drop (round4 (x % 2048)) m) p.1 (octets-drop (round4 (x % 2048)) m o)))

pub stores_are_such_lem : StoresAreSuch
unfolding power_on holdable view
stores_are_such_lem =
    record {
      at_power_on_is = λ words. record { none_read = refl; no_failure = refl; held = refl };
      in_memory = λ c ram dir o w.
          frames-held (take c.receive.frames (drop 0 dir)) (take (rx_size_of c) (drop 0 ram)) (words_take c.receive.frames dir w) (octets-take (rx_size_of c) ram o);
    }
