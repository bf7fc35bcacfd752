-- The search ends for any cards at all: each part of the talk has a bound on its accesses, whatever is read.
-- Assumes nothing.
use Prim.Native.Nat.{ℕ, zero, suc, ◌+◌, ◌-◌, ◌*◌, ◌≤◌}
use mathlib.Core.Bool.{Bool, true, false, cond}
use mathlib.Core.List.{List, [], ◌∷◌}
use native.Mathlib.Omega.{arith}
use lib.Dec.{eqb}
use lib.ListN.{length}
use Rattle.port_rules.specs.declared.IdState.{IdState}
use Rattle.port_rules.specs.Port.{Access, Talk, done, ask, write, read, run, value, after}
use Rattle.port_rules.specs.Search.{put, puts, id_bytes, bits, call_up, read_address, rounds, search, all_ones}
use Rattle.found.specs.Theorems.{TheSearchEnds}
use Rattle.found.proofs.Called.{id_bytes-length}

-- at most b accesses
abbrev Within : {A : Type 0} → ℕ → Talk A → ℕ → Type 0
Within p t b = (cs : List IdState) → length (run p t cs).accesses ≤ b

within-ask : {A : Type 0} (p b : ℕ) (a : Access) (k : ℕ → Talk A) → ((v : ℕ) → Within p (k v) b) → Within p (ask a k) (1 + b)
unfolding run
within-ask p b a k h cs = omega (arith, h (value p a cs) (after p a cs))

within-puts : {A : Type 0} (p b : ℕ) (xs : List ℕ) (k : Talk A) → Within p k b → Within p (puts xs k) (length xs + b)
unfolding puts
within-puts p b [] k h cs = omega (arith, h cs)
within-puts p b (x ∷ xs) k h cs = omega (arith, within-ask p (length xs + b) (write x) (λ _. puts xs k) (λ _. within-puts p b xs k h) cs)

within-call : {A : Type 0} (p b : ℕ) (k : Talk A) → Within p k b → Within p (call_up k) (257 + b)
unfolding call_up puts
within-call p b k h cs = omega (arith, within-puts p b (0 ∷ (0 ∷ id_bytes 0 255)) k h cs, id_bytes-length 255 0)

within-bits : {A : Type 0} (p b n a : ℕ) (k : ℕ → Talk A) → ((v : ℕ) → Within p (k v) b) → Within p (bits n a k) (n + b)
unfolding bits
within-bits p b zero a k h cs = omega (arith, h a cs)
within-bits p b (suc n) a k h cs = omega (arith, within-ask p (n + b) read (λ v. bits n (a * 2 + v) k) (λ v. within-bits p b n (a * 2 + v) k h) cs)

within_word : {A : Type 0} (p b x a : ℕ) (k : ℕ → Talk A) → ((v : ℕ) → Within p (k v) b) → Within p (put x (bits 16 a k)) (17 + b)
within_word p b x a k h cs = omega (arith, within-ask p (16 + b) (write x) (λ _. bits 16 a k) (λ _. within-bits p b 16 a k h) cs)

within-address : {A : Type 0} (p b : ℕ) (k : ℕ → Talk A) → ((v : ℕ) → Within p (k v) b) → Within p (read_address k) (17 + (17 + (17 + b)))
unfolding read_address
within-address p b k h = within_word p (17 + (17 + b)) 128 0 _ (λ v. within_word p (17 + b) 129 0 _ (λ w. within_word p b 130 0 _ (λ x. h _)))

within_choice : {A : Type 0} (p n : ℕ) (t u : Talk A) → Within p t n → Within p u n → (b : Bool) → Within p (cond b t u) n
within_choice p n t u h g true = h
within_choice p n t u h g false = g

within-rounds : {A : Type 0} (p b free : ℕ) (k : List ℕ → Talk A) → ((xs : List ℕ) → Within p (k xs) b) → Within p (rounds free k) (309 * free + b)
unfolding rounds
within-rounds p b zero k h cs = omega (arith, h [] cs)
within-rounds p b (suc free) k h cs =
    let n : ℕ = 1 + (309 * free + b) in
    omega (
      arith,
      within-call p (17 + (17 + (17 + n))) _ (within-address p n _ (λ v.
          within_choice p n (k []) (put (208 + (7 - free)) (rounds free (λ found. k (v ∷ found)))) (λ ds. omega (arith, h [] ds))
          (within-ask p (309 * free + b) (write (208 + (7 - free))) (λ _. rounds free (λ found. k (v ∷ found))) (λ _. within-rounds p b free (λ found. k (v ∷ found)) (λ xs. h (v ∷ xs)))) (eqb v all_ones))) cs,
    )

pub ends : TheSearchEnds
unfolding search run
ends p cs = omega (arith, within-call p (1 + (309 * 7 + 0)) (put 208 (rounds 7 done)) (within-ask p (309 * 7 + 0) (write 208) (λ _. rounds 7 done) (λ _. within-rounds p 0 7 done (λ xs ds. omega arith))) cs)
