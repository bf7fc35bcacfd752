-- Laws of words and lines: how far a search for a character has come, how a name is read, and what a line without a byte string spells. Assumes nothing.
use Prim.Native.Nat.{ℕ, ◌+◌, ◌-◌, ◌*◌, ◌/◌, ◌%◌, ◌≤◌, ◌<◌}
use mathlib.Core.Path.{◌≡◌, refl, ap, sym, subst⁻¹, ◌∙◌}
use mathlib.Core.Bool.{Bool, true, false, cond, ◌&&◌}
use lib.Dec.{ltb, leb, eqb}
use mathlib.Core.List.{List, [], ◌∷◌}
use Rattle.std.specs.Prelude.{Option, Some, None}
use Rattle.std.specs.Option.{MatchOption, unwrap_or}
use Rattle.std.specs.List.{AllWithin, HoldsAt}
use Rattle.std.proofs.lemmas.Iterator.{index_from_first}
use native.Mathlib.Omega.{arith}
use native.Mathlib.Numerals.{add-one}
use borrow.Author.Tests.{le-leb, lt-leb, leb-true, eq-eqb, ne_eqb}
use lib.ListN.{length, take, drop, get_or, drop_of_length-le, length-drop}
use lib.Seq.{drop-cons, take-take, take_all}
use Rattle.bench_rules.specs.Text.{is_hex, is_pairs, bytes_of, Paired}
use Rattle.bench_rules.specs.declared.Kind.{Kind}
use Rattle.bench_rules.specs.declared.Line.{Line}
use Rattle.bench_rules.specs.declared.Kind.TheVariants as kind
use Rattle.bench_rules.specs.Script.{is_of, reach_of, word_of, next_of, begun_of, key_on, key_of, kind_of, count_of, operand_of, flag_of, line_of, nothing_line, unknown_line, plain_line, number_line, pair_line, triple_line, flag_line, exact_line, counted_line, byte_line, numbers_line, operand_line, words_line, Spells, Means}

-- A search for the first character of a class answers how far it is.
pub reach_first : (class : ℕ) (s : List ℕ) (r : Option ℕ) → MatchOption r (AllWithin (λ b. is_of class b ≡ false) s 0 (length s)) (λ i. (i < length s) × HoldsAt (λ b. is_of class b ≡ true) s i × AllWithin (λ b. is_of class b ≡ false) s 0 i) → reach_of class s ≡ unwrap_or r (length s)
unfolding reach_of
reach_first class s r h =
    index_from_first (reach_of class) (λ b. is_of class b ≡ true) (λ b. is_of class b ≡ false) refl (λ x xs e. rw e) (λ x xs e. rw (e, add-one)) s r h

-- one character of a name more
pub key_more : (n : ℕ) (s : List ℕ) (i : ℕ) → i < length s → n < 0x100000000000000 → key_on n (drop i s) ≡ key_on (n * 256 + get_or s i 0) (drop (i + 1) s)
unfolding key_on
key_more n s i h g = rw (drop-cons s i 0 h, lt-leb _ _ g, add-one)

pub key_long : (n : ℕ) (s : List ℕ) (i : ℕ) → i < length s → 0x100000000000000 ≤ n → key_on n (drop i s) ≡ 0
unfolding key_on
key_long n s i h g = rw (drop-cons s i 0 h, le-leb _ _ g)

pub key_end : (n : ℕ) (s : List ℕ) (i : ℕ) → length s ≤ i → key_on n (drop i s) ≡ n
unfolding key_on
key_end n s i h = rw (drop_of_length-le s h)

-- the rest of a list, as its part up to the end
pub rest_all : (m : ℕ) (l : List ℕ) → take (length l - m) (drop m l) ≡ drop m l
rest_all m l = take_all (length l - m) (drop m l) (rw length-drop (omega arith))

pub begun_law : (s : List ℕ) (n m : ℕ) → n ≡ reach_of 2 s → m ≡ reach_of 1 (take n s) → take (length (take n s) - m) (drop m (take n s)) ≡ begun_of s
unfolding begun_of
begun_law s n m e f = rest_all m (take n s) ∙ (ap (λ (x : ℕ). drop x (take n s)) f ∙ ap (λ (x : ℕ). drop (reach_of 1 (take x s)) (take x s)) e)

pub next_law : (s : List ℕ) (n m : ℕ) → n ≡ reach_of 0 s → m ≡ reach_of 1 (take (length s - n) (drop n s)) → take (length (take (length s - n) (drop n s)) - m) (drop m (take (length s - n) (drop n s))) ≡ next_of s
unfolding next_of
next_law s n m e f =
    rest_all m (take (length s - n) (drop n s))
    ∙ (ap (λ (x : ℕ). drop x (take (length s - n) (drop n s))) f
    ∙ (ap (λ (l : List ℕ). drop (reach_of 1 l) l) (rest_all n s)
    ∙ ap (λ (x : ℕ). drop (reach_of 1 (drop x s)) (drop x s)) e))

-- ---- lines

-- A line that is not understood spells nothing.
pub not_understood : {w r : Line} (one bytes : List ℕ) (room : ℕ) → r ≡ unknown_line → w ≡ unknown_line → length bytes ≡ room → Spells w one room r bytes
not_understood one bytes room e f l = record { meaning = e ∙ sym f; spelled = rw e refl; fits = rw e (omega arith); long = l }

was_wrong : (b : Bool) (n : ℕ) → None ≡ cond b (Some n) None → b ≡ false
was_wrong true n e = let z : ◌≡◌ {A = ℕ} 0 1 = cc in absurd (omega arith)
was_wrong false n e = refl

was_right : (b : Bool) (n m : ℕ) → Some m ≡ cond b (Some n) None → (b ≡ true) × (m ≡ n)
was_right true n m e = (refl, cc)
was_right false n m e = let z : ◌≡◌ {A = ℕ} 0 1 = cc in absurd (omega arith)

-- A count that is not 1; a wrong digit; a byte string.
pub miscounted : {r : Line} (k : Kind) (exact : Option ℕ) (count : ℕ) (one bytes : List ℕ) → r ≡ unknown_line → (count ≡ 1 → ⊥) → Spells (byte_line k exact count (length bytes) one) one (length bytes) r bytes
unfolding byte_line
miscounted k exact count one bytes e h = not_understood one bytes (length bytes) e (rw (ne_eqb _ _ h)) refl

pub misspelt : {r : Line} (k : Kind) (exact : Option ℕ) (count room : ℕ) (one bytes : List ℕ) → r ≡ unknown_line → count ≡ 1 → Paired one room None bytes → Spells (byte_line k exact count room one) one room r bytes
unfolding byte_line
misspelt k exact count room one bytes e h p = not_understood one bytes room e (rw (eq-eqb _ _ h, was_wrong (is_pairs room one) (length one / 2) p.answer)) p.long

-- A byte string's line has its length, or is not understood and has none.
counted_either : (P : ℕ → Type 0) (k : Kind) (exact : Option ℕ) (n : ℕ) → P n → P 0 → P (counted_line k exact n).len
unfolding counted_line exact_line
counted_either P k None n a b = a
counted_either P k (Some exact) n a b = either (eqb n exact)
  where
    either : (x : Bool) → P (cond x (line_of k 0 0 0 n) unknown_line).len
    either true = a
    either false = b

roomy : (x y z : Bool) → (x && (y && z)) ≡ true → y ≡ true
roomy true true z e = refl
roomy true false z e = e
roomy false true z e = refl
roomy false false z e = e

pub spelt : {r : Line} (k : Kind) (exact : Option ℕ) (count room n : ℕ) (one bytes : List ℕ) → r ≡ counted_line k exact n → count ≡ 1 → Paired one room (Some n) bytes → Spells (byte_line k exact count room one) one room r bytes
unfolding byte_line is_pairs
spelt {r} k exact count room n one bytes e h p =
    let q : (is_pairs room one ≡ true) × (n ≡ length one / 2) = was_right (is_pairs room one) (length one / 2) n p.answer in
    let f : n ≤ room = rw q.1 (leb-true (length one / 2) room (roomy (eqb (length one % 2) 0) (leb (length one / 2) room) (is_hex one) q.0)) in
    let g : take n bytes ≡ bytes_of one = rw q.1 (p.bytes q.0) in
    let t : take n bytes ≡ take n (bytes_of one) = sym (ap (λ (l : List ℕ). take n l) (sym g) ∙ take-take n n bytes (omega arith)) in
    record {
      meaning = e ∙ sym (rw (eq-eqb _ _ h, q.0, ← q.1));
      spelled = subst⁻¹ (λ (x : Line). take x.len bytes ≡ take x.len (bytes_of one)) e (counted_either (λ (m : ℕ). take m bytes ≡ take m (bytes_of one)) k exact n t refl);
      fits = subst⁻¹ (λ (x : Line). x.len ≤ room) e (counted_either (λ (m : ℕ). m ≤ room) k exact n f (omega arith));
      long = p.long;
    }

-- A line of numbers spells nothing: its length is 0.
record Short (l : Line) : Type 0 where
  pub short : l.len ≡ 0

short-one : (k : Kind) (a b c : ℕ) → Short (line_of k a b c 0)
short-one k a b c = record { short = refl }

short-if : (x : Bool) {a b : Line} → Short a → Short b → Short (cond x a b)
short-if true e f = e
short-if false e f = f

unknown_short : Short unknown_line
unknown_short = short-one kind.Unknown 0 0 0

plain-short : (k : Kind) (count : ℕ) → Short (plain_line k count)
unfolding plain_line
plain-short k count = short-if (eqb count 0) (short-one k 0 0 0) unknown_short

number_short : (k : Kind) (base count : ℕ) (one : List ℕ) → Short (number_line k base count one)
unfolding number_line
number_short k base count one =
    short-if (eqb count 1) (short-if (ltb 65535 (operand_of base 65535 one)) unknown_short (short-one k (operand_of base 65535 one) 0 0)) unknown_short

pair_short : (k : Kind) (most count : ℕ) (one two : List ℕ) → Short (pair_line k most count one two)
unfolding pair_line
pair_short k most count one two =
    short-if (eqb count 2)
    (short-if (ltb 65535 (operand_of 16 65535 one)) unknown_short
    (short-if (ltb 65535 (operand_of 16 most two)) unknown_short
    (short-one k (operand_of 16 65535 one) (operand_of 16 most two) 0)))
    unknown_short

triple_short : (k : Kind) (base most count : ℕ) (one two three : List ℕ) → Short (triple_line k base most count one two three)
unfolding triple_line
triple_short k base most count one two three =
    short-if (eqb count 3)
    (short-if (ltb 65535 (operand_of 16 65535 one)) unknown_short
    (short-if (ltb 65535 (operand_of base most two)) unknown_short
    (short-if (ltb 65535 (operand_of base most three)) unknown_short
    (short-one k (operand_of 16 65535 one) (operand_of base most two) (operand_of base most three)))))
    unknown_short

flag_short : (count : ℕ) (one : List ℕ) → Short (flag_line count one)
unfolding flag_line
flag_short count one =
    short-if (eqb count 1)
    (short-if (eqb (length one) 2)
    (short-if (ltb 1 (flag_of (get_or one 0 0))) unknown_short
    (short-if (ltb 1 (flag_of (get_or one 1 0))) unknown_short
    (short-one kind.End (flag_of (get_or one 0 0)) (flag_of (get_or one 1 0)) 0)))
    unknown_short)
    unknown_short

numbers_short : (k : Kind) (count : ℕ) (one two three : List ℕ) → Short (numbers_line k count one two three)
unfolding numbers_line
numbers_short kind.Nothing count one two three = unknown_short
numbers_short kind.Unknown count one two three = unknown_short
numbers_short kind.Power count one two three = unknown_short
numbers_short kind.Join count one two three = unknown_short
numbers_short kind.ReadWord count one two three = number_short kind.ReadWord 16 count one
numbers_short kind.ReadByte count one two three = number_short kind.ReadByte 16 count one
numbers_short kind.WriteWord count one two three = pair_short kind.WriteWord 65535 count one two
numbers_short kind.WriteByte count one two three = pair_short kind.WriteByte 255 count one two
numbers_short kind.Start count one two three = unknown_short
numbers_short kind.Bytes count one two three = unknown_short
numbers_short kind.End count one two three = flag_short count one
numbers_short kind.Sent count one two three = plain-short kind.Sent count
numbers_short kind.Collided count one two three = plain-short kind.Collided count
numbers_short kind.RxStatus count one two three = plain-short kind.RxStatus count
numbers_short kind.IdWrite count one two three = pair_short kind.IdWrite 255 count one two
numbers_short kind.IdRead count one two three = number_short kind.IdRead 16 count one
numbers_short kind.Search count one two three = number_short kind.Search 16 count one
numbers_short kind.Activate count one two three = triple_short kind.Activate 10 65535 count one two three
numbers_short kind.Open count one two three = triple_short kind.Open 16 65535 count one two three
numbers_short kind.Send count one two three = unknown_short
numbers_short kind.Service count one two three = number_short kind.Service 10 count one

pub numbers_line_lem : {r : Line} (k : Kind) (count : ℕ) (one two three bytes : List ℕ) → numbers_line k count one two three ≡ operand_line k count (length bytes) one two three → r ≡ numbers_line k count one two three → Spells (operand_line k count (length bytes) one two three) one (length bytes) r bytes
numbers_line_lem {r} k count one two three bytes h e =
    let z : r.len ≡ 0 = rw e (numbers_short k count one two three).short in
    record {
      meaning = e ∙ h;
      spelled = rw z refl;
      fits = omega arith;
      long = refl;
    }

-- ---- a whole line

words-line : (room : ℕ) (s : List ℕ) → (length s ≡ 0 → ⊥) → operand_line (kind_of (key_of (word_of s))) (count_of (length (next_of s)) (length (next_of (next_of s))) (length (next_of (next_of (next_of s)))) (length (next_of (next_of (next_of (next_of s)))))) room (word_of (next_of s)) (word_of (next_of (next_of s))) (word_of (next_of (next_of (next_of s)))) ≡ words_line room s
unfolding words_line
words-line room [] h = absurd (h refl)
words-line room (b ∷ s) h = refl

pub nothing_said : {r : Line} (line first bytes : List ℕ) → first ≡ begun_of line → length first ≡ 0 → r ≡ nothing_line → Means line (length bytes) r bytes
unfolding words_line
nothing_said line first bytes e h f =
    record {
      meaning = f ∙ sym (ap (words_line (length bytes)) (sym e ∙ empty first h));
      spelled = rw f refl;
      fits = rw f (omega arith);
      long = refl;
    }
  where
    empty : (s : List ℕ) → length s ≡ 0 → s ≡ []
    empty [] h = refl
    empty (b ∷ s) h = absurd (omega arith)

pub said : {r : Line} (line first one two three more w w₁ w₂ w₃ : List ℕ) (key count : ℕ) (k : Kind) (room : ℕ) (bytes : List ℕ)
    → first ≡ begun_of line → (length first ≡ 0 → ⊥)
    → one ≡ next_of first → two ≡ next_of one → three ≡ next_of two → more ≡ next_of three
    → w ≡ word_of first → key ≡ key_of w → k ≡ kind_of key → count ≡ count_of (length one) (length two) (length three) (length more)
    → w₁ ≡ word_of one → w₂ ≡ word_of two → w₃ ≡ word_of three
    → Spells (operand_line k count room w₁ w₂ w₃) w₁ room r bytes → Means line room r bytes
said line first one two three more w w₁ w₂ w₃ key count k room bytes ef h e₁ e₂ e₃ e₄ ew ek en ec f₁ f₂ f₃ s =
    rw (← ef, ← words-line room first h, ← e₁, ← e₂, ← e₃, ← e₄, ← ew, ← ek, ← en, ← ec, ← f₁, ← f₂, ← f₃) s
