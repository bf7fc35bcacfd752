-- The versions from the place behind a card's address on are the card's.
-- Assumes nothing.
use Prim.Native.Nat.{ℕ, ◌+◌}
use mathlib.Core.Path.{◌≡◌, refl, ap, ◌∙◌}
use mathlib.Core.Bool.{Bool, true, false, cond, ◌||◌}
use mathlib.Core.List.{List, [], ◌∷◌}
use native.Mathlib.Omega.{arith}
use lib.ListN.{drop}
use Rattle.std.specs.Prelude.{Option, Some, None, Err}
use Rattle.refusal.specs.declared.Refusal.TheVariants.{NoSuchCard}
use Rattle.catalogue_rules.specs.Field.{Field, size_of, fields_of}
use Rattle.catalogue_rules.specs.Reading.{addresses_of, is_among}
use Rattle.catalogue_rules.specs.Edit.{is_card}
use Rattle.catalogue_rules.proofs.Seen.{among_is}
use Rattle.catalogue_rules.specs.Lookup.{Spot, spots_from, spots_at, last_spot, numbered_spot}
use Rattle.catalogue_put.specs.Places.{card_place, seek_if}
use Rattle.catalogue_put.proofs.Behind.{behind_card, behind-place}

-- The versions behind a card that was found.
abbrev spots_behind : List ℕ → Option ℕ → List Spot
spots_behind file (Some at) = spots_from at 0 (fields_of (drop at file))
spots_behind file None = []

found-if : (b among : Bool) (at size place : ℕ) (fs rest : List Field) (ss : List Spot) → cond among (spots_from (at + size + place) 0 rest) [] ≡ ss
    → cond (b || among) (spots_from (at + cond b size (size + place)) 0 (cond b fs rest)) [] ≡ cond b (spots_from (at + size) 0 fs) ss
found-if true among at size place fs rest ss e = refl
found-if false among at size place fs rest ss e =
    let n : at + (size + place) ≡ at + size + place = omega arith in ap (λ (k : ℕ). cond among (spots_from k 0 rest) []) n ∙ e

found : (a at : ℕ) (fs : List Field) → cond (is_among a (addresses_of fs)) (spots_from (at + card_place a fs) 0 (behind_card a fs)) [] ≡ spots_at a at fs
unfolding spots_at card_place behind_card addresses_of
found a at [] = refl
found a at (f ∷ fs) =
    ap (λ (b : Bool). cond b (spots_from (at + card_place a (f ∷ fs)) 0 (behind_card a (f ∷ fs))) []) (among_is f fs a)
    ∙ found-if (is_card a f) (is_among a (addresses_of fs)) at (size_of f) (card_place a fs) fs (behind_card a fs) (spots_at a (at + size_of f) fs) (found a (at + size_of f) fs)

behind-if : (b : Bool) (file : List ℕ) (place : ℕ) → spots_behind file (seek_if b place) ≡ cond b (spots_from place 0 (fields_of (drop place file))) []
behind-if true file place = refl
behind-if false file place = refl

spots_behind_lem : (a : ℕ) (file : List ℕ) {r : Option ℕ} → r ≡ seek_if (is_among a (addresses_of (fields_of file))) (card_place a (fields_of file))
    → spots_behind file r ≡ spots_at a 0 (fields_of file)
spots_behind_lem a file e =
    let place : ℕ = card_place a (fields_of file) in
    let among : Bool = is_among a (addresses_of (fields_of file)) in
    let z : place ≡ 0 + place = omega arith in
    ap (spots_behind file) e
    ∙ behind-if among file place
    ∙ ap (λ (fs : List Field). cond among (spots_from place 0 fs) []) (behind-place a file)
    ∙ ap (λ (k : ℕ). cond among (spots_from k 0 (behind_card a (fields_of file))) []) z
    ∙ found a 0 (fields_of file)

-- The card is nowhere: it has no versions.
pub last_nowhere : (a : ℕ) (file : List ℕ) → None ≡ seek_if (is_among a (addresses_of (fields_of file))) (card_place a (fields_of file))
    → Err NoSuchCard ≡ last_spot (Err NoSuchCard) (spots_at a 0 (fields_of file))
unfolding last_spot
last_nowhere a file e = ap (last_spot (Err NoSuchCard)) (spots_behind_lem a file e)

pub numbered_nowhere : (a n : ℕ) (file : List ℕ) → None ≡ seek_if (is_among a (addresses_of (fields_of file))) (card_place a (fields_of file))
    → Err NoSuchCard ≡ numbered_spot n (spots_at a 0 (fields_of file))
unfolding numbered_spot
numbered_nowhere a n file e = ap (numbered_spot n) (spots_behind_lem a file e)

-- It is there: they stand behind its address.
module _ (a : ℕ) (file : List ℕ) (at : ℕ) (e : Some at ≡ seek_if (is_among a (addresses_of (fields_of file))) (card_place a (fields_of file))) where
  pub last_behind : last_spot (Err NoSuchCard) (spots_from at 0 (fields_of (drop at file))) ≡ last_spot (Err NoSuchCard) (spots_at a 0 (fields_of file))
  last_behind = ap (last_spot (Err NoSuchCard)) (spots_behind_lem a file e)

  pub numbered_behind : (n : ℕ) → numbered_spot n (spots_from at 0 (fields_of (drop at file))) ≡ numbered_spot n (spots_at a 0 (fields_of file))
  numbered_behind n = ap (numbered_spot n) (spots_behind_lem a file e)
