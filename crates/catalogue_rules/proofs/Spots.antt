-- A field passed while the place of a card's image is looked for.
-- Assumes nothing.
use Prim.Native.Nat.{ℕ, ◌+◌}
use mathlib.Core.Path.{◌≡◌, refl, sym, ap, ◌∙◌}
use mathlib.Core.Bool.{Bool, true, false, cond, ◌&&◌, true≢false}
use mathlib.Core.List.{List, [], ◌∷◌}
use native.Mathlib.Omega.{arith}
use borrow.Author.Tests.{ne_eqb, eq-eqb}
use lib.ListN.{length, take, drop}
use lib.Dec.{eqb}
use Rattle.std.specs.Prelude.{Result, Ok, Err}
use Rattle.refusal.specs.declared.Refusal.{Refusal}
use Rattle.catalogue_rules.specs.declared.Span.{Span}
use Rattle.refusal.specs.declared.Refusal.TheVariants.{NoSuchCard}
use Rattle.catalogue_rules.specs.Field.{Field, number_at, fields_of}
use Rattle.catalogue_rules.proofs.At.{Stands}
use Rattle.catalogue_rules.specs.Lookup.{Spot, spot, spots_from, last_spot, numbered_spot, span}
use Rattle.catalogue_rules.proofs.Bools.{yes_if, no-if}
use Rattle.catalogue_rules.proofs.Versions.{two-not-three}

-- ---- the newest image: the number before it does not matter

number-if : (a b c : Bool) (next place size n m : ℕ) (one : List Spot) (fs : List Field) (p : Result Span Refusal)
    → ((x : Result Span Refusal) → last_spot x (spots_from next n fs) ≡ last_spot x (spots_from next m fs))
    → last_spot p (cond a [] (cond b one (cond c (spot n place size ∷ spots_from next n fs) (spots_from next n fs))))
    ≡ last_spot p (cond a [] (cond b one (cond c (spot m place size ∷ spots_from next m fs) (spots_from next m fs))))
unfolding last_spot
number-if true b c next place size n m one fs p ih = refl
number-if false true c next place size n m one fs p ih = refl
number-if false false true next place size n m one fs p ih = ih (Ok (span place size))
number-if false false false next place size n m one fs p ih = ih p

pub any-number : (fs : List Field) (at n m : ℕ) (p : Result Span Refusal) → last_spot p (spots_from at n fs) ≡ last_spot p (spots_from at m fs)
unfolding spots_from
any-number [] at n m p = refl
any-number (f ∷ fs) at n m p =
    number-if (eqb f.tag 1) (eqb f.tag 2) (eqb f.tag 3) (at + (3 + length f.value)) (at + 3) (length f.value) n m (spots_from (at + (3 + length f.value)) (number_at f.value 0) fs) fs p
    (λ x. any-number fs (at + (3 + length f.value)) n m x)

newest-if : (b c : Bool) (next place size n m k : ℕ) (fs : List Field) (p : Result Span Refusal) → (b ≡ true → c ≡ false)
    → last_spot (cond c (Ok (span place size)) p) (spots_from next n fs)
    ≡ last_spot p (cond b (spots_from next k fs) (cond c (spot m place size ∷ spots_from next m fs) (spots_from next m fs)))
unfolding last_spot
newest-if true true next place size n m k fs p h = absurd (true≢false (h refl))
newest-if true false next place size n m k fs p h = any-number fs next n k p
newest-if false true next place size n m k fs p h = any-number fs next n m (Ok (span place size))
newest-if false false next place size n m k fs p h = any-number fs next n m p

due-if : (b : Bool) (next k m : ℕ) (fs : List Field) → spots_from next (cond b k m) fs ≡ cond b (spots_from next k fs) (spots_from next m fs)
due-if true next k m fs = refl
due-if false next k m fs = refl

-- ---- one field, with the place behind it

-- What a field adds, if its value is of so many bytes at a place, and the next field behind it.
abbrev pub turned : ℕ → List ℕ → List Field → ℕ → ℕ → ℕ → ℕ → List Spot
turned tag v rest n next place size =
    cond (eqb tag 1) [] (cond (eqb tag 2) (spots_from next (number_at v 0) rest) (cond (eqb tag 3) (spot n place size ∷ spots_from next n rest) (spots_from next n rest)))

module _ (file : List ℕ) (at : ℕ) {tag start len : ℕ} (st : Stands file at tag start len) where
  pub next_place : at + (3 + length (take len (drop start file))) ≡ start + len
  next_place = omega (arith, st.behind_head, st.size)

  pub is_turned : (n : ℕ) → spots_from at n (fields_of (drop at file)) ≡ turned tag (take len (drop start file)) (fields_of (drop (start + len) file)) n (start + len) start len
  unfolding spots_from
  is_turned n =
      let v : List ℕ = take len (drop start file) in
      let rest : List Field = fields_of (drop (start + len) file) in
      ap (spots_from at n) st.is_first
      ∙ ap (λ (next : ℕ). turned tag v rest n next (at + 3) (length v)) next_place
      ∙ ap (λ (place : ℕ). turned tag v rest n (start + len) place (length v)) (sym st.behind_head)
      ∙ ap (turned tag v rest n (start + len) start) st.size

  from-here : (n : ℕ) → (tag ≡ 1 → ⊥) → spots_from at n (fields_of (drop at file))
      ≡ cond (eqb tag 2) (spots_from (start + len) (number_at (take len (drop start file)) 0) (fields_of (drop (start + len) file)))
      (cond (eqb tag 3) (spot n start len ∷ spots_from (start + len) n (fields_of (drop (start + len) file)))
      (spots_from (start + len) n (fields_of (drop (start + len) file))))
  from-here n other = is_turned n ∙ no-if (eqb tag 1) [] _ (ne_eqb tag 1 other)

  none_here : (n : ℕ) → tag ≡ 1 → spots_from at n (fields_of (drop at file)) ≡ []
  none_here n one = is_turned n ∙ yes_if (eqb tag 1) [] _ (eq-eqb tag 1 one)

  -- ---- the newest image
  module _ (best : Result Span Refusal) (whole : Result Span Refusal) (inv : (n : ℕ) → last_spot best (spots_from at n (fields_of (drop at file))) ≡ whole) where
    pub newest-on : (tag ≡ 1 → ⊥) → (better : Result Span Refusal) → better ≡ cond (eqb tag 3) (Ok (span start len)) best
        → (n : ℕ) → last_spot better (spots_from (start + len) n (fields_of (drop (start + len) file))) ≡ whole
    newest-on other better e n =
        ap (λ (p : Result Span Refusal). last_spot p (spots_from (start + len) n (fields_of (drop (start + len) file)))) e
        ∙ newest-if (eqb tag 2) (eqb tag 3) (start + len) start len n 0 (number_at (take len (drop start file)) 0) (fields_of (drop (start + len) file)) best (two-not-three tag)
        ∙ ap (last_spot best) (sym (from-here 0 other))
        ∙ inv 0

    pub newest-end : tag ≡ 1 → best ≡ whole
    unfolding last_spot
    newest-end one = ap (last_spot best) (sym (none_here 0 one)) ∙ inv 0

  -- ---- the image with a number
  module _ (told number : ℕ) (whole : Result Span Refusal) (inv : numbered_spot number (spots_from at told (fields_of (drop at file))) ≡ whole) where
    pub numbered-end : tag ≡ 1 → Err NoSuchCard ≡ whole
    unfolding numbered_spot
    numbered-end one = ap (numbered_spot number) (sym (none_here told one)) ∙ inv

    numbered-if : (b c e : Bool) (x y : List Spot) → eqb told number ≡ e → (b ≡ true → c ≡ false)
        → cond (c && e) (Ok (span start len)) (numbered_spot number (cond b x y)) ≡ numbered_spot number (cond b x (cond c (spot told start len ∷ y) y))
    unfolding numbered_spot
    numbered-if true true e x y q h = absurd (true≢false (h refl))
    numbered-if true false e x y q h = refl
    numbered-if false true e x y q h = ap (λ (t : Bool). cond t (Ok (span start len)) (numbered_spot number y)) (sym q)
    numbered-if false false e x y q h = refl

    module _ (other : tag ≡ 1 → ⊥) where
      numbered_step : cond (eqb tag 3 && eqb told number) (Ok (span start len)) (numbered_spot number (cond (eqb tag 2) (spots_from (start + len) (number_at (take len (drop start file)) 0) (fields_of (drop (start + len) file))) (spots_from (start + len) told (fields_of (drop (start + len) file))))) ≡ whole
      numbered_step =
          numbered-if (eqb tag 2) (eqb tag 3) (eqb told number) (spots_from (start + len) (number_at (take len (drop start file)) 0) (fields_of (drop (start + len) file))) (spots_from (start + len) told (fields_of (drop (start + len) file))) refl (two-not-three tag)
          ∙ ap (numbered_spot number) (sym (from-here told other))
          ∙ inv

      pub numbered-hit : (eqb tag 3 && eqb told number) ≡ true → Ok (span start len) ≡ whole
      numbered-hit e = ap (λ (t : Bool). cond t (Ok (span start len)) (numbered_spot number (cond (eqb tag 2) (spots_from (start + len) (number_at (take len (drop start file)) 0) (fields_of (drop (start + len) file))) (spots_from (start + len) told (fields_of (drop (start + len) file)))))) (sym e) ∙ numbered_step

      pub numbered-on : (eqb tag 3 && eqb told number) ≡ false → (due : ℕ) → due ≡ cond (eqb tag 2) (number_at (take len (drop start file)) 0) told
          → numbered_spot number (spots_from (start + len) due (fields_of (drop (start + len) file))) ≡ whole
      numbered-on e due q =
          ap (λ (n : ℕ). numbered_spot number (spots_from (start + len) n (fields_of (drop (start + len) file)))) q
          ∙ ap (numbered_spot number) (due-if (eqb tag 2) (start + len) (number_at (take len (drop start file)) 0) told (fields_of (drop (start + len) file)))
          ∙ ap (λ (t : Bool). cond t (Ok (span start len)) (numbered_spot number (cond (eqb tag 2) (spots_from (start + len) (number_at (take len (drop start file)) 0) (fields_of (drop (start + len) file))) (spots_from (start + len) told (fields_of (drop (start + len) file)))))) (sym e)
          ∙ numbered_step

-- ---- the end of the fields

pub newest-none : (at : ℕ) (here : List ℕ) (best whole : Result Span Refusal) → fields_of here ≡ [] → ((n : ℕ) → last_spot best (spots_from at n (fields_of here)) ≡ whole) → best ≡ whole
unfolding spots_from last_spot
newest-none at here best whole e inv = ap (λ (fs : List Field). last_spot best (spots_from at 0 fs)) (sym e) ∙ inv 0

pub numbered-none : (at : ℕ) (here : List ℕ) (told number : ℕ) (whole : Result Span Refusal) → fields_of here ≡ [] → numbered_spot number (spots_from at told (fields_of here)) ≡ whole → Err NoSuchCard ≡ whole
unfolding spots_from numbered_spot
numbered-none at here told number whole e inv = ap (λ (fs : List Field). numbered_spot number (spots_from at told fs)) (sym e) ∙ inv
