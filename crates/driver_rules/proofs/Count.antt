-- What the driver makes of RX Status goes by the signed count, and is what it was by bits 10-0. Assumes nothing.
use mathlib.Core.Path.{◌≡◌, refl, sym, ◌∙◌}
use mathlib.Core.Bool.{Bool, false, ◌||◌}
use Prim.Native.Nat.{ℕ, ◌%◌, ◌≤◌}
use native.Mathlib.Omega.{arith}
use borrow.Author.Tests.{leb-false, ltb-false, lt-ltb, le-ltb}
use lib.Dec.{ltb, leb}
use lib.IntN.{ℤ}
use Rattle.bits.specs.Bits.{has}
use Rattle.bits.proofs.Tests.{of_test, neither}
use Rattle.receive_rules.specs.Count.{decoded}
use Rattle.driver_rules.specs.Registers.{outside_frame, bad, length_of, length_in}

-- outside 60 to 1,514 as bits 10-0 have it
abbrev pub outside_before : ℕ → Bool
outside_before rx = ltb (rx % 2048) 60 || ltb 1514 (rx % 2048)

outside_is : (rx : ℕ) → outside_frame (decoded rx) ≡ outside_before rx
outside_is rx =
    of_test (λ (z : ℤ). outside_frame z ≡ outside_before rx) (leb (rx % 2048) 1792)
    (λ y. refl)
    (λ n. let h = leb-false (rx % 2048) 1792 n in rw (le-ltb (rx % 2048) 60 (omega arith), lt-ltb 1514 (rx % 2048) (omega arith)))

pub bad_is : (rx : ℕ) → bad rx ≡ (has 16384 rx || outside_before rx)
bad_is rx = rw (outside_is rx)

-- a word that is not bad tells 60 to 1,514 bytes, in bits 10-0 as they are
pub record Good (rx : ℕ) : Type 0 where
  pub same : length_in rx ≡ rx % 2048
  pub long : 60 ≤ length_in rx
  pub short : length_in rx ≤ 1514

pub good-told : (rx : ℕ) → bad rx ≡ false → Good rx
good-told rx b =
    let p = (neither (has 16384 rx) (outside_before rx) (sym (bad_is rx) ∙ b)).1 in
    let q = neither (ltb (rx % 2048) 60) (ltb 1514 (rx % 2048)) p in
    let long = ltb-false (rx % 2048) 60 q.0 in
    let short = ltb-false 1514 (rx % 2048) q.1 in
    let e : length_in rx ≡ rx % 2048 = of_test (λ (z : ℤ). length_of z ≡ rx % 2048) (leb (rx % 2048) 1792) (λ y. refl) (λ n. let h = leb-false (rx % 2048) 1792 n in absurd (omega arith)) in
    record { same = e; long = rw e long; short = rw e short }
