-- What the driver sees in the Status word: the window, and each flag that the Read Zero mask does not hide. Assumes nothing.
use mathlib.Core.Path.{◌≡◌, refl, sym, ap, ◌∙◌}
use mathlib.Core.Bool.{Bool, true, false, not, ◌&&◌, ◌||◌}
use Prim.Native.Nat.{ℕ, ◌+◌, ◌*◌, ◌/◌, ◌%◌, ◌≤◌}
use native.Mathlib.Omega.{arith}
use borrow.Author.Tests.{eqb-true, not-false}
use lib.Dec.{eqb}
use Rattle.bits.specs.Bits.{has, weigh}
use Rattle.bits.proofs.Tests.{neither}
use Rattle.card_rules.specs.declared.Select.{Select}
use Rattle.card_rules.specs.declared.Flags.{Flags}
use Rattle.card_rules.specs.Status.{status_of}
use Rattle.driver_rules.specs.Registers.{unfit, tx_complete, rx_complete}

light : (k : ℕ) (b : Bool) → weigh k b ≤ k
light k true = omega arith
light k false = omega arith

weighed : (k : ℕ) (b : Bool) → weigh k b ≡ k * weigh 1 b
weighed k true = omega arith
weighed k false = omega arith

is_one : (b : Bool) → eqb (weigh 1 b) 1 ≡ b
is_one true = refl
is_one false = refl

second_bit : (l c m : ℕ) → l ≤ 1 → c ≤ 1 → (l + 2 * c + 4 * m) / 2 % 2 ≡ c
second_bit l c m p q = omega arith

module _ (s : Select) (f : Flags) where
  abbrev t : Bool
  t = has 16 s.zero && f.received

  pub status-window : status_of s f / 8192 ≡ s.window
  unfolding status_of
  status-window =
      omega (arith, light 1 f.latch, light 2 (has 2 s.zero && f.failed), light 4 (has 4 s.zero && f.completed), light 8 (has 8 s.zero && f.available), light 16 t, light 32 (has 32 s.zero && f.early), light 64 (has 64 s.zero && f.requested))

  pub status_received : rx_complete (status_of s f) ≡ (has 16 s.zero && f.received)
  unfolding status_of
  status_received =
      let e : status_of s f / 16 % 2 ≡ weigh 1 t =
      omega (arith, light 1 f.latch, light 2 (has 2 s.zero && f.failed), light 4 (has 4 s.zero && f.completed), light 8 (has 8 s.zero && f.available), weighed 16 t, light 1 t, weighed 32 (has 32 s.zero && f.early), weighed 64 (has 64 s.zero && f.requested)) in
      ap (λ (n : ℕ). eqb n 1) e ∙ is_one t

  pub status-completed : tx_complete (status_of s f) ≡ (has 4 s.zero && f.completed)
  unfolding status_of
  status-completed =
      let c : Bool = has 4 s.zero && f.completed in
      let e : status_of s f / 4 % 2 ≡ weigh 1 c =
      omega (arith, light 1 f.latch, light 2 (has 2 s.zero && f.failed), weighed 4 c, light 1 c, weighed 8 (has 8 s.zero && f.available), weighed 16 t, weighed 32 (has 32 s.zero && f.early), weighed 64 (has 64 s.zero && f.requested)) in
      ap (λ (n : ℕ). eqb n 1) e ∙ is_one c

  pub status-failed : has 2 (status_of s f) ≡ (has 2 s.zero && f.failed)
  unfolding status_of
  status-failed =
      let c : Bool = has 2 s.zero && f.failed in
      let m : ℕ = s.window * 2048 + (weigh 1 (has 4 s.zero && f.completed) + 2 * weigh 1 (has 8 s.zero && f.available) + 4 * weigh 1 t + 8 * weigh 1 (has 32 s.zero && f.early) + 16 * weigh 1 (has 64 s.zero && f.requested)) in
      let e : status_of s f ≡ weigh 1 f.latch + 2 * weigh 1 c + 4 * m =
      omega (arith, weighed 2 c, weighed 4 (has 4 s.zero && f.completed), weighed 8 (has 8 s.zero && f.available), weighed 16 t, weighed 32 (has 32 s.zero && f.early), weighed 64 (has 64 s.zero && f.requested)) in
      ap (has 2) e ∙ ap (λ (n : ℕ). eqb n 1) (second_bit (weigh 1 f.latch) (weigh 1 c) m (light 1 f.latch) (light 1 c)) ∙ is_one c

-- a card is unfit by its window, or by a failure that is not hidden
pub unfit-status : (s : Select) (f : Flags) → unfit (status_of s f) ≡ (not (eqb s.window 1) || has 2 s.zero && f.failed)
unfit-status s f =
    ap (λ (n : ℕ). not (eqb n 1) || has 2 (status_of s f)) (status-window s f)
    ∙ ap (λ (b : Bool). not (eqb s.window 1) || b) (status-failed s f)

-- a fit Status is that of a card in window 1
pub fit-window : (s : Select) (f : Flags) → unfit (status_of s f) ≡ false → s.window ≡ 1
fit-window s f e =
    sym (status-window s f) ∙ eqb-true (status_of s f / 8192) 1 (not-false (eqb (status_of s f / 8192) 1) (neither (not (eqb (status_of s f / 8192) 1)) (has 2 (status_of s f)) e).0)
