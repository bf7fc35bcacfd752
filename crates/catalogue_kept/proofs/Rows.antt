-- A card's versions rise in number; so one more at the end is the last and the only one with its number, and the oldest number is no later one's.
-- Assumes nothing.
use Prim.Native.Nat.{ℕ, ◌≤◌, ◌<◌}
use mathlib.Core.Path.{◌≡◌, refl, ap, ◌∙◌}
use mathlib.Core.Bool.{true, false, cond, false≢true, true≢false}
use mathlib.Core.List.{List, [], ◌∷◌, ◌++◌}
use native.Mathlib.Omega.{arith}
use borrow.Author.Tests.{eq-eqb, ne_eqb}
use lib.Dec.{eqb}
use Rattle.refusal.specs.declared.Refusal.TheVariants.{NoSuchCard}
use Rattle.catalogue_rules.specs.Cards.{Version}
use Rattle.catalogue_rules.specs.Lookup.{Shown, image, none}
use Rattle.catalogue_rules.specs.Places.{last_of, numbered_in}
use Rattle.catalogue_rules.specs.Edit.{latest_number, leaves}
use Rattle.catalogue_rules.proofs.Bools.{yes_if, no-if}
use Rattle.catalogue_kept.specs.After.{oldest_number}

-- Each number is above the one before it; the first above n.
unfoldable pub Above : ℕ → List Version → Type 0
Above n [] = Unit
Above n (v ∷ vs) = (n < v.number) × Above v.number vs

unfoldable pub Rise : List Version → Type 0
Rise [] = Unit
Rise (v ∷ vs) = Above v.number vs

-- All but the oldest.
abbrev pub later : List Version → List Version
later [] = []
later (v ∷ vs) = vs

rise_on : (n : ℕ) (vs : List Version) → Above n vs → Rise vs
unfolding Above Rise
rise_on n [] a = tt
rise_on n (v ∷ vs) a = a.1

-- ---- one more at the end

pub last_is : (s : Shown) (vs : List Version) (w : Version) → last_of s (vs ++ (w ∷ [])) ≡ image w.image
unfolding last_of
last_is s [] w = refl
last_is s (v ∷ vs) w = last_is (image v.image) vs w

first_below : (v : Version) (vs : List Version) → Above v.number vs → v.number ≤ latest_number (v ∷ vs)
unfolding latest_number Above
first_below v [] a = omega arith
first_below v (w ∷ vs) a = let l : v.number < w.number = a.0 in omega (arith, first_below w vs a.1)

rest_below : (v : Version) (vs : List Version) → latest_number vs ≤ latest_number (v ∷ vs)
unfolding latest_number
rest_below v [] = omega arith
rest_below v (w ∷ vs) = omega arith

pub new_is : (vs : List Version) (w : Version) → Rise vs → latest_number vs < w.number → numbered_in w.number (vs ++ (w ∷ [])) ≡ image w.image
unfolding numbered_in Rise
new_is [] w r l = yes_if (eqb w.number w.number) _ _ (eq-eqb w.number w.number refl)
new_is (v ∷ vs) w r l =
    let d : v.number < w.number = omega (arith, first_below v vs r) in
    no-if (eqb v.number w.number) _ _ (ne_eqb v.number w.number (omega arith))
    ∙ new_is vs w (rise_on v.number vs r) (omega (arith, rest_below v vs))

pub others_are : (n : ℕ) (vs : List Version) (w : Version) → (n ≡ w.number → ⊥) → numbered_in n (vs ++ (w ∷ [])) ≡ numbered_in n vs
unfolding numbered_in
others_are n [] w d = no-if (eqb w.number n) _ _ (ne_eqb w.number n (λ e. d (cc)))
others_are n (v ∷ vs) w d = ap (cond (eqb v.number n) (image v.image)) (others_are n vs w d)

-- ---- the oldest less

none_so_low : (n m : ℕ) (vs : List Version) → Above n vs → m ≤ n → numbered_in m vs ≡ none NoSuchCard
unfolding numbered_in Above
none_so_low n m [] a l = refl
none_so_low n m (v ∷ vs) a l =
    let d : n < v.number = a.0 in
    no-if (eqb v.number m) _ _ (ne_eqb v.number m (omega arith)) ∙ none_so_low v.number m vs a.1 (omega arith)

pub oldest-gone : (vs : List Version) → Rise vs → numbered_in (oldest_number vs) (later vs) ≡ none NoSuchCard
unfolding numbered_in Rise
oldest-gone [] r = refl
oldest-gone (v ∷ vs) r = none_so_low v.number v.number vs r (omega arith)

pub rest_are : (n : ℕ) (vs : List Version) → (n ≡ oldest_number vs → ⊥) → numbered_in n (later vs) ≡ numbered_in n vs
unfolding numbered_in
rest_are n [] d = refl
rest_are n (v ∷ vs) d =
    let e : cond (eqb v.number n) (image v.image) (numbered_in n vs) ≡ numbered_in n vs = no-if (eqb v.number n) _ _ (ne_eqb v.number n (λ e. d (cc))) in cc

pub last-stays : (s : Shown) (vs : List Version) → leaves vs ≡ false → last_of s (later vs) ≡ last_of s vs
unfolding last_of
last-stays s [] e = refl
last-stays s (v ∷ []) e = absurd (true≢false e)
last-stays s (v ∷ w ∷ vs) e = refl

pub none-later : (vs : List Version) → leaves vs ≡ true → later vs ≡ []
none-later [] e = refl
none-later (v ∷ []) e = refl
none-later (v ∷ w ∷ vs) e = absurd (false≢true e)
