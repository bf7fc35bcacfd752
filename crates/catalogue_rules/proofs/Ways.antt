-- The ways through the tests behind a place: none, more than 64 cards, an address listed twice, or the place.
-- Assumes nothing.
use Prim.Native.Nat.{ℕ}
use mathlib.Core.Path.{◌≡◌, refl, sym, ap, ◌∙◌}
use mathlib.Core.Bool.{Bool, true, false, cond, ◌&&◌, ◌||◌, not}
use borrow.Author.Tests.{leb-true, leb-false, lt-ltb, le-ltb}
use lib.Dec.{leb, ltb}
use Rattle.std.specs.Prelude.{Result, Ok, Err}
use Rattle.catalogue_rules.specs.declared.Span.{Span}
use Rattle.refusal.specs.declared.Refusal.{Refusal}
use Rattle.refusal.specs.declared.Refusal.TheVariants.{NoPlace, ListedTwice}
use Rattle.catalogue_rules.specs.Lookup.{where_sound, span}

-- There is room, or there are more than 64.
room-if : (b : Bool) (n : ℕ) → leb n 64 ≡ b → not b ≡ ltb 64 n
room-if true n e = sym (le-ltb 64 n (leb-true n 64 e))
room-if false n e = sym (lt-ltb 64 n (leb-false n 64 e))

pub is_crowd : (n : ℕ) → not (leb n 64) ≡ ltb 64 n
is_crowd n = room-if (leb n 64) n refl

both_if : (a b : Bool) → a && b ≡ not (not a || not b)
both_if true true = refl
both_if true false = refl
both_if false b = refl

-- Room in both files.
pub both_room : (n m : ℕ) (t : Bool) → (ltb 64 n || ltb 64 m) ≡ t → (leb n 64 && leb m 64) ≡ not t
both_room n m t e =
    both_if (leb n 64) (leb m 64)
    ∙ ap (λ (x : Bool). not (x || not (leb m 64))) (is_crowd n)
    ∙ ap (λ (x : Bool). not (ltb 64 n || x)) (is_crowd m)
    ∙ ap not e

module _ {p : Result Span Refusal} (room twice : Bool) where
  pub way_none : {why : Refusal} → p ≡ Err why → Err why ≡ where_sound room twice p
  way_none e = sym (ap (where_sound room twice) e)

  module _ {start len : ℕ} (e : p ≡ Ok (span start len)) where
    ways : where_sound room twice p ≡ cond room (cond twice (Err ListedTwice) (Ok (span start len))) (Err NoPlace)
    ways = ap (where_sound room twice) e

    pub way_crowded : room ≡ false → Err NoPlace ≡ where_sound room twice p
    way_crowded r = sym (ways ∙ ap (λ (b : Bool). cond b (cond twice (Err ListedTwice) (Ok (span start len))) (Err NoPlace)) r)

    pub way_twice : room ≡ true → twice ≡ true → Err ListedTwice ≡ where_sound room twice p
    way_twice r t =
        sym (ways ∙ ap (λ (b : Bool). cond b (cond twice (Err ListedTwice) (Ok (span start len))) (Err NoPlace)) r ∙ ap (λ (b : Bool). cond b (Err ListedTwice) (Ok (span start len))) t)

    pub way_found : room ≡ true → twice ≡ false → Ok (span start len) ≡ where_sound room twice p
    way_found r t =
        sym (ways ∙ ap (λ (b : Bool). cond b (cond twice (Err ListedTwice) (Ok (span start len))) (Err NoPlace)) r ∙ ap (λ (b : Bool). cond b (Err ListedTwice) (Ok (span start len))) t)
