-- What the loops that read keep. Assumes nothing.
use Prim.Native.Nat.{ℕ, zero, suc, ◌+◌, ◌*◌, ◌/◌, ◌%◌, ◌≤◌, ◌<◌}
use mathlib.Core.Path.{◌≡◌, refl, ap, sym, ◌∙◌}
use mathlib.Core.Bool.{Bool, true, false, cond, ◌&&◌}
use mathlib.Core.List.{List, [], ◌∷◌, ◌++◌, append_assoc, append-nil}
use native.Mathlib.Omega.{arith}
use native.Mathlib.Numerals.{add-one}
use Rattle.std.proofs.Math.Nat.{mul-suc}
use borrow.Author.Tests.{le-leb, lt-leb, eq-eqb, ne_eqb}
use lib.Dec.{eqb, leb}
use lib.ListN.{length, take, drop, get_or, set, drop_of_length-le}
use lib.Seq.{drop-cons, take-suc-set}
use Rattle.std.specs.Prelude.{Some, None}
use Rattle.std.proofs.lemmas.Bool.Decides.{nat_tests}
use Rattle.bench_rules.specs.Text.{none, below, read_on, valued, value_of, is_hex, is_pairs, bytes_of, Paired}

-- ---- numbers with a limit

pub over : (limit n : ℕ) → None ≡ below limit n → limit ≤ n
over limit n e = grind (arith, nat_tests)

pub under : (limit n d : ℕ) → Some d ≡ below limit n → (d ≡ n) × (d < limit)
under limit n d e = grind (arith, nat_tests)

-- What is no number stays none.
valued_over : (base n b : ℕ) → none ≤ n → none ≤ valued base n b
unfolding valued
valued_over zero n b h = grind (arith, nat_tests)
valued_over (suc k) n b h =
    let g : n ≤ n * suc k = rw mul-suc (omega arith) in
    grind (arith, nat_tests)

pub read_over : (base n : ℕ) (s : List ℕ) → none ≤ n → none ≤ read_on base n s
unfolding read_on
read_over base n [] h = h
read_over base n (b ∷ s) h = read_over base (valued base n b) s (valued_over base n b h)

-- ---- loops

-- One digit more is read.
pub read_more : (base n : ℕ) (s : List ℕ) (i : ℕ) → i < length s → read_on base (valued base n (get_or s i 0)) (drop (i + 1) s) ≡ read_on base n (drop i s)
unfolding read_on
read_more base n s i h = rw (add-one, drop-cons s i 0 h)

pub read-end : (base n : ℕ) (s : List ℕ) (i : ℕ) → length s ≤ i → n ≡ read_on base n (drop i s)
unfolding read_on
read-end base n s i h = rw (drop_of_length-le s h)

-- The next two characters.
pub next-two : (s : List ℕ) (i : ℕ) → 2 * i + 2 ≤ length s → drop (2 * i) s ≡ get_or s (2 * i) 0 ∷ get_or s (2 * i + 1) 0 ∷ drop (2 * (i + 1)) s
next-two s i h =
    let e : 2 * (i + 1) ≡ suc (suc (2 * i)) = omega arith in
    let f : 2 * i + 1 ≡ suc (2 * i) = omega arith in
    rw (e, f) (drop-cons s (2 * i) 0 (omega arith) ∙ ap (λ (l : List ℕ). get_or s (2 * i) 0 ∷ l) (drop-cons s (suc (2 * i)) 0 (omega arith)))

-- What is kept: the bytes read so far stand in front of those to come, and whether all are digits hangs on what is to come.
pub record Reads (s : List ℕ) (i : ℕ) (out : List ℕ) : Type 0 where
  pub bytes : bytes_of s ≡ take i out ++ bytes_of (drop (2 * i) s)
  pub digits : is_hex s ≡ is_hex (drop (2 * i) s)

pub reads_none : (s out : List ℕ) → Reads s 0 out
reads_none s out = record { bytes = refl; digits = refl }

pub reads_more : (s : List ℕ) (i : ℕ) (out : List ℕ) (v : ℕ) → Reads s i out → 2 * i + 2 ≤ length s → i < length out → value_of (get_or s (2 * i) 0) ≤ 15 → value_of (get_or s (2 * i + 1) 0) ≤ 15 → v ≡ value_of (get_or s (2 * i) 0) * 16 + value_of (get_or s (2 * i + 1) 0) → Reads s (i + 1) (set out i v)
unfolding bytes_of is_hex
reads_more s i out v p h room a b e =
    let f : take (i + 1) (set out i v) ≡ take i out ++ (v ∷ []) = rw add-one (take-suc-set out i v room) in
    record {
      bytes =
          p.bytes
          ∙ (ap (λ (l : List ℕ). take i out ++ bytes_of l) (next-two s i h)
          ∙ (sym (append_assoc (take i out) (v ∷ []) (bytes_of (drop (2 * (i + 1)) s))
          ∙ ap (λ (x : ℕ). take i out ++ (x ∷ bytes_of (drop (2 * (i + 1)) s))) e)
          ∙ ap (λ (l : List ℕ). l ++ bytes_of (drop (2 * (i + 1)) s)) (sym f)));
      digits =
          p.digits
          ∙ (ap is_hex (next-two s i h)
          ∙ rw (le-leb _ _ a, le-leb _ _ b));
    }

pub reads_all : (s : List ℕ) (i : ℕ) (out : List ℕ) → Reads s i out → length s ≤ 2 * i → (take i out ≡ bytes_of s) × (is_hex s ≡ true)
unfolding bytes_of is_hex
reads_all s i out p h = (
  sym (p.bytes ∙ (ap (λ (l : List ℕ). take i out ++ bytes_of l) (drop_of_length-le s h) ∙ append-nil (take i out))),
  p.digits ∙ ap is_hex (drop_of_length-le s h),
)

pub first_wrong : (s : List ℕ) (i : ℕ) (out : List ℕ) → Reads s i out → 2 * i + 2 ≤ length s → 15 < value_of (get_or s (2 * i) 0) → is_hex s ≡ false
unfolding is_hex
first_wrong s i out p h a = p.digits ∙ (ap is_hex (next-two s i h) ∙ rw (lt-leb _ _ a))

pub second_wrong : (s : List ℕ) (i : ℕ) (out : List ℕ) → Reads s i out → 2 * i + 2 ≤ length s → value_of (get_or s (2 * i) 0) ≤ 15 → 15 < value_of (get_or s (2 * i + 1) 0) → is_hex s ≡ false
unfolding is_hex
second_wrong s i out p h a b = p.digits ∙ (ap is_hex (next-two s i h) ∙ rw (le-leb _ _ a, lt-leb _ _ b))

both_false : (a b : Bool) → (a && (b && false)) ≡ false
both_false true true = refl
both_false true false = refl
both_false false b = refl

never : false ≡ true → ⊥
never e = let z : ◌≡◌ {A = ℕ} 0 1 = ap (λ (b : Bool). cond b 1 0) e in omega arith

unpaired : (s : List ℕ) (room : ℕ) → is_hex s ≡ false → is_pairs room s ≡ false
unfolding is_pairs
unpaired s room h = rw h (both_false (eqb (length s % 2) 0) (leb (length s / 2) room))

-- The four ends: an odd number of digits, too many, a wrong digit, all read.
pub odd : (s out : List ℕ) → (length s % 2 ≡ 0 → ⊥) → Paired s (length out) None out
unfolding is_pairs
odd s out h = record { answer = rw (ne_eqb _ _ h); bytes = λ e. absurd (never (rw (ne_eqb _ _ h) at e)); long = refl }

pub crowded : (s out : List ℕ) → (length s % 2 ≡ 0) → length out < length s / 2 → Paired s (length out) None out
unfolding is_pairs
crowded s out h g = record { answer = rw (eq-eqb _ _ h, lt-leb _ _ g); bytes = λ e. absurd (never (rw (eq-eqb _ _ h, lt-leb _ _ g) at e)); long = refl }

pub wrong : (s out out' : List ℕ) → length out' ≡ length out → is_hex s ≡ false → Paired s (length out) None out'
unfolding is_pairs
wrong s out out' l h = record { answer = rw (unpaired s (length out) h); bytes = λ e. absurd (never (sym (unpaired s (length out) h) ∙ e)); long = l }

pub whole : (s out out' : List ℕ) (i : ℕ) → (length s % 2 ≡ 0) → length s / 2 ≤ length out → length out' ≡ length out → i ≡ length s / 2 → Reads s i out' → Paired s (length out) (Some (length s / 2)) out'
unfolding is_pairs
whole s out out' i h g l e p =
    let a : (take i out' ≡ bytes_of s) × (is_hex s ≡ true) = reads_all s i out' p (omega arith) in
    record {
      answer = rw (eq-eqb _ _ h, le-leb _ _ g, a.1);
      bytes = λ _. rw (← e) a.0;
      long = l;
    }
