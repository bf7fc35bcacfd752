-- The loop that reads a frame into an area: two bytes a word, and of an odd length only the low byte of the last. `access` stays shut.
-- Assumes nothing.
use mathlib.Core.Path.{◌≡◌, refl, ap, sym, ◌∙◌}
use mathlib.Core.List.{List, ◌∷◌, ◌++◌, append_assoc}
use Prim.Native.Nat.{ℕ, suc, ◌+◌, ◌-◌, ◌*◌, ◌/◌, ◌%◌, ◌<◌, ◌≤◌}
use native.Mathlib.Nat.{sub-zero, add-zero}
use native.Mathlib.Numerals.{add-one}
use native.Mathlib.Omega.{arith}
use lib.ListN.{length, get_or, set, take, drop, length-set}
use lib.Seq.{get_or-drop, drop-drop, drop-cons, set_at, take-suc, length-take-le}
use Rattle.card_rules.specs.Adapter.{Adapter}
use Rattle.card_rules.specs.Access.{ReadWord, Step, step, access}
use Rattle.driver_rules.specs.Talk.{after, after_reads, bytes_read}
use Rattle.driver_rules.proofs.Runs.{read_length}

read_one : (k : ℕ) (s s' : Adapter) (v : ℕ) → access (ReadWord 0) s ≡ step v s'
    → (after_reads (suc k) s ≡ after_reads k s') × (bytes_read (suc k) s ≡ v % 256 ∷ (v / 256 ∷ bytes_read k s'))
unfolding bytes_read after
read_one k s s' v a = (ap (λ (t : Step). after_reads k t.adapter) a, rw a)

-- word j of w
read_turn : (w j : ℕ) (s s' : Adapter) (v : ℕ) → j < w → access (ReadWord 0) s ≡ step v s'
    → (after_reads (w - j) s ≡ after_reads (w - (j + 1)) s') × (bytes_read (w - j) s ≡ v % 256 ∷ (v / 256 ∷ bytes_read (w - (j + 1)) s'))
read_turn w j s s' v h a =
    let more : w - j ≡ suc (w - (j + 1)) = omega arith in
    rw more (read_one (w - (j + 1)) s s' v a)

-- the first i bytes of b lie in an area, and one more
lay_more : (b area : List ℕ) (i v : ℕ) → i < length b → i < length area → get_or b i 0 ≡ v → set (take i b ++ drop i area) i v ≡ take (i + 1) b ++ drop (i + 1) area
lay_more b area i v h k e =
    rw (drop-cons area i 0, set_at (take i b) _ _ v i (length-take-le i b (omega arith)), add-one, take-suc b i 0, e, append_assoc)

-- what is left to read of b begins with two bytes
two-left : (b rest : List ℕ) (i x y : ℕ) → drop i b ≡ x ∷ (y ∷ rest) → (get_or b i 0 ≡ x) × ((get_or b (i + 1) 0 ≡ y) × (drop (i + 2) b ≡ rest))
two-left b rest i x y e =
    (rw add-zero at (sym (get_or-drop i b 0 0)) ∙ ap (λ l. get_or l 0 0) e, (sym (get_or-drop i b 1 0) ∙ ap (λ l. get_or l 1 0) e, sym (drop-drop 2 i b) ∙ ap (λ l. drop 2 l) e))

-- after w words, i bytes of n are in the area: two a word, and no more than n
abbrev Here : ℕ → ℕ → ℕ → Type 0
Here n w i = (2 * w ≤ n → i ≡ 2 * w) × (n ≤ 2 * w → i ≡ n)

-- a frame of n bytes is being read into an area: w words are there
pub record Reading (n : ℕ) (s₀ : Adapter) (area₀ : List ℕ) (w : ℕ) (s : Adapter) (area : List ℕ) : Type 0 where
  pub size : length area ≡ length area₀
  pub onward : after_reads ((n + 1) / 2) s₀ ≡ after_reads ((n + 1) / 2 - w) s
  pub rest : drop (2 * w) (bytes_read ((n + 1) / 2) s₀) ≡ bytes_read ((n + 1) / 2 - w) s
  pub laid : (i : ℕ) → Here n w i → area ≡ take i (bytes_read ((n + 1) / 2) s₀) ++ drop i area₀

pub reading-none : (n : ℕ) (s : Adapter) (area : List ℕ) → Reading n s area 0 s area
reading-none n s area =
    record { size = refl; onward = rw sub-zero; rest = rw sub-zero; laid = λ i h. let e : i ≡ 0 = h.0 (omega arith) in rw e }

module _ (n : ℕ) (s₀ : Adapter) (area₀ : List ℕ) (w : ℕ) (s : Adapter) (area : List ℕ) (s' : Adapter) (v : ℕ)
    (R : Reading n s₀ area₀ w s area) (more : w < (n + 1) / 2) (fits : n ≤ length area₀) (read : access (ReadWord 0) s ≡ step v s') where
  word : (after_reads ((n + 1) / 2 - w) s ≡ after_reads ((n + 1) / 2 - (w + 1)) s') × (bytes_read ((n + 1) / 2 - w) s ≡ v % 256 ∷ (v / 256 ∷ bytes_read ((n + 1) / 2 - (w + 1)) s'))
  word = read_turn ((n + 1) / 2) w s s' v more read

  both : (get_or (bytes_read ((n + 1) / 2) s₀) (2 * w) 0 ≡ v % 256) × ((get_or (bytes_read ((n + 1) / 2) s₀) (2 * w + 1) 0 ≡ v / 256) × (drop (2 * w + 2) (bytes_read ((n + 1) / 2) s₀) ≡ bytes_read ((n + 1) / 2 - (w + 1)) s'))
  both = two-left (bytes_read ((n + 1) / 2) s₀) _ (2 * w) _ _ (R.rest ∙ word.1)

  rest : drop (2 * (w + 1)) (bytes_read ((n + 1) / 2) s₀) ≡ bytes_read ((n + 1) / 2 - (w + 1)) s'
  rest = let e : 2 * (w + 1) ≡ 2 * w + 2 = omega arith in rw e both.1.1

  low : set area (2 * w) (v % 256) ≡ take (2 * w + 1) (bytes_read ((n + 1) / 2) s₀) ++ drop (2 * w + 1) area₀
  low = rw (R.laid (2 * w) (λ _. refl, λ h. omega arith)) (lay_more (bytes_read ((n + 1) / 2) s₀) area₀ (2 * w) (v % 256) (omega (arith, read_length ((n + 1) / 2) s₀)) (omega arith) both.0)

  -- the last byte of an odd length
  pub reading-one : n ≤ 2 * w + 1 → Reading n s₀ area₀ (w + 1) s' (set area (2 * w) (v % 256))
  reading-one last =
      record {
        size = simp length-set R.size;
        onward = R.onward ∙ word.0;
        rest = rest;
        laid = λ i h. let e : i ≡ 2 * w + 1 = omega (arith, h.1 (omega arith)) in rw e low;
      }

  pub reading-two : 2 * w + 1 < n → Reading n s₀ area₀ (w + 1) s' (set (set area (2 * w) (v % 256)) (2 * w + 1) (v / 256))
  reading-two further =
      record {
        size = simp length-set R.size;
        onward = R.onward ∙ word.0;
        rest = rest;
        laid = λ i h.
            let e : i ≡ 2 * w + 1 + 1 = omega (arith, h.0 (omega arith)) in
            rw (e, low) (lay_more (bytes_read ((n + 1) / 2) s₀) area₀ (2 * w + 1) (v / 256) (omega (arith, read_length ((n + 1) / 2) s₀)) (omega arith) both.1.0);
      }

pub reading_all : (n : ℕ) (s₀ : Adapter) (area₀ : List ℕ) (w : ℕ) (s : Adapter) (area : List ℕ) → Reading n s₀ area₀ w s area → w ≡ (n + 1) / 2 → (s ≡ after_reads ((n + 1) / 2) s₀) × (area ≡ take n (bytes_read ((n + 1) / 2) s₀) ++ drop n area₀)
unfolding after
reading_all n s₀ area₀ w s area R e =
    let none : (n + 1) / 2 - w ≡ 0 = omega arith in
    (sym (rw none at R.onward), R.laid n (λ h. omega arith, λ _. refl))
