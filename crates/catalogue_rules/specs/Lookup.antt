-- Latest version, a given version, and lookup in an override before the main catalogue.
-- An answer is the place of the image in the file: of that card's image, not of equal bytes elsewhere.
-- Assumes nothing.
use Rattle.std.specs.Prelude.{ℕ, ◌+◌, Bool, cond, ◌&&◌, ◌||◌, List, [], ◌∷◌, length, take, drop, eqb, Result, Ok, Err}
use Rattle.catalogue_rules.specs.declared.Span.{Span}
use Rattle.refusal.specs.declared.Refusal.{Refusal}
use Rattle.refusal.specs.declared.Refusal.TheVariants.{NoSuchCard, NoPlace, ListedTwice}
use Rattle.catalogue_rules.specs.Field.{Field, size_of, number_at}
use Rattle.catalogue_rules.specs.Turns.{address_of}
use Rattle.catalogue_rules.specs.Reading.{Reading, catalogue, refused, has_room, addresses_of, is_among, any_twice}
use Rattle.catalogue_rules.specs.declared.Hit.{Hit}
use Rattle.catalogue_rules.specs.declared.Hit.TheVariants.{InOverride, InMain}

-- A version's number, and where its image stands: its first byte, and how many there are.
pub record Spot : Type 0 where
  pub number : ℕ
  pub start : ℕ
  pub size : ℕ

abbrev pub spot : ℕ → ℕ → ℕ → Spot
spot n s k = record { number = n; start = s; size = k }

abbrev pub span : ℕ → ℕ → Span
span s k = record { start = s; len = k }

-- The versions up to the next card, of fields that begin at a place: as `versions_from` has them, with places for images.
unfoldable pub spots_from : ℕ → ℕ → List Field → List Spot
spots_from at n [] = []
spots_from at n (f ∷ fs) =
    cond (eqb f.tag 1) []
    (cond (eqb f.tag 2) (spots_from (at + size_of f) (number_at f.value 0) fs)
    (cond (eqb f.tag 3) (spot n (at + 3) (length f.value) ∷ spots_from (at + size_of f) n fs)
    (spots_from (at + size_of f) n fs)))

-- The versions of the card at an address; none where there is no such card. The first listing counts.
unfoldable pub spots_at : ℕ → ℕ → List Field → List Spot
spots_at a at [] = []
spots_at a at (f ∷ fs) =
    cond (eqb f.tag 1 && eqb (address_of f.value) a) (spots_from (at + size_of f) 0 fs) (spots_at a (at + size_of f) fs)

-- The place of the last version's image, else what is given.
unfoldable pub last_spot : Result Span Refusal → List Spot → Result Span Refusal
last_spot p [] = p
last_spot p (s ∷ ss) = last_spot (Ok (span s.start s.size)) ss

-- The place of the image of the version with the number; 17 where there is none.
unfoldable pub numbered_spot : ℕ → List Spot → Result Span Refusal
numbered_spot n [] = Err NoSuchCard
numbered_spot n (s ∷ ss) = cond (eqb s.number n) (Ok (span s.start s.size)) (numbered_spot n ss)

-- 17 first, where there is no place; then 18 and 19: whether there is room, and whether an address is listed twice.
abbrev pub where_sound : Bool → Bool → Result Span Refusal → Result Span Refusal
where_sound room twice (Ok p) = cond room (cond twice (Err ListedTwice) (Ok p)) (Err NoPlace)
where_sound room twice (Err why) = Err why

abbrev pub unless_faulty : List Field → Result Span Refusal → Result Span Refusal
unless_faulty fs p = where_sound (has_room fs) (any_twice (addresses_of fs)) p

-- Latest version of a card; a given version of it. 15, 16, 17, 18, 19, in that order.
unfoldable pub latest_in : ℕ → Reading → Result Span Refusal
latest_in a (catalogue fs) = unless_faulty fs (last_spot (Err NoSuchCard) (spots_at a 0 fs))
latest_in a (refused why) = Err why

unfoldable pub given_in : ℕ → ℕ → Reading → Result Span Refusal
given_in a n (catalogue fs) = unless_faulty fs (numbered_spot n (spots_at a 0 fs))
given_in a n (refused why) = Err why

abbrev pub in_override : Result Span Refusal → Result Hit Refusal
in_override (Ok p) = Ok (InOverride p)
in_override (Err why) = Err why

abbrev pub in_main : Result Span Refusal → Result Hit Refusal
in_main (Ok p) = Ok (InMain p)
in_main (Err why) = Err why

-- Out of the main catalogue: its 15 and 16, then 17, then 18 and 19 of either file.
unfoldable pub else_main : ℕ → List Field → Reading → Result Hit Refusal
else_main a own (catalogue main) =
    in_main (where_sound (has_room own && has_room main) (any_twice (addresses_of own) || any_twice (addresses_of main)) (last_spot (Err NoSuchCard) (spots_at a 0 main)))
else_main a own (refused why) = Err why

-- Out of the override if it has that card, else out of the main one. The override's 15 and 16 come first.
unfoldable pub looked_up : ℕ → Reading → Reading → Result Hit Refusal
looked_up a (catalogue own) main = cond (is_among a (addresses_of own)) (in_override (latest_in a (catalogue own))) (else_main a own main)
looked_up a (refused why) main = Err why

-- An image's bytes, or a refusal: what a place in a file shows.
pub data Shown : Type 0 where
  image : List ℕ → Shown
  none : Refusal → Shown

abbrev pub shown_at : List ℕ → Result Span Refusal → Shown
shown_at file (Ok p) = image (take p.len (drop p.start file))
shown_at file (Err why) = none why

abbrev pub shown_in : List ℕ → List ℕ → Result Hit Refusal → Shown
shown_in own main (Ok (InOverride p)) = image (take p.len (drop p.start own))
shown_in own main (Ok (InMain p)) = image (take p.len (drop p.start main))
shown_in own main (Err why) = none why

-- The bytes of what is shown; none of a refusal.
abbrev pub bytes_in : Shown → List ℕ
bytes_in (image bytes) = bytes
bytes_in (none why) = []
