-- The figures, and a full catalogue: its file is accepted and takes all 70,213 bytes, so that the bound is the least.
-- Assumes nothing.
use Prim.Native.Nat.{ℕ, zero, suc, ◌+◌}
use mathlib.Core.Path.{◌≡◌, refl, sym, ap, subst}
use mathlib.Core.List.{List, [], ◌∷◌}
use native.Mathlib.Omega.{arith}
use lib.ListN.{length, replicate}
use Rattle.catalogue_rules.specs.Field.{Field, field, bytes_of}
use Rattle.catalogue_rules.specs.Turns.{address_of, after}
use Rattle.catalogue_rules.specs.Reading.{catalogue, read, addresses_of, any_twice, file_of}
use Rattle.catalogue_rules.specs.Cards.{versions_from, cards_of}
use Rattle.catalogue_rules.specs.RoundTrip.{in_turn, Sizes, WellFormed}
use Rattle.catalogue_rules.proofs.Round.{written_is_read_lem}
use Rattle.catalogue_area.specs.Area.{full_size, enough, AllEight, Full}

full_size_lem : full_size ≡ 70213
full_size_lem = refl

enough_is : enough ≡ 70358
enough_is = refl

-- Versions from a number on before other fields, and cards with eight of them.
versions : ℕ → ℕ → List Field → List Field
versions n zero rest = rest
versions n (suc more) rest = field 2 (n ∷ 0 ∷ []) ∷ field 3 (replicate 128 0) ∷ versions (n + 1) more rest

cards : ℕ → List Field
cards zero = []
cards (suc n) = field 1 (0 ∷ 0x20 ∷ 0xAF ∷ 0 ∷ 0 ∷ n ∷ []) ∷ versions 1 8 (cards n)

-- A card, and 64.
one-card : length (file_of (cards 1)) ≡ 1102
unfolding file_of bytes_of versions cards
one-card = refl

all_cards : length (file_of (cards 64)) ≡ full_size
unfolding file_of bytes_of versions cards
all_cards = refl

-- They are accepted, and they are full.
versions-sizes : (n more : ℕ) (rest : List Field) → Sizes rest → Sizes (versions n more rest)
unfolding Sizes versions
versions-sizes n zero rest s = s
versions-sizes n (suc more) rest s = (omega arith, (omega arith, versions-sizes (n + 1) more rest s))

cards-sizes : (n : ℕ) → Sizes (cards n)
unfolding Sizes cards
cards-sizes zero = tt
cards-sizes (suc n) = (omega arith, versions-sizes 1 8 (cards n) (cards-sizes n))

well-formed : WellFormed (cards 64)
unfolding versions cards in_turn after addresses_of address_of any_twice
well-formed = record { turns = refl; sizes = cards-sizes 64; counted = omega arith; cards = omega arith; apart = refl }

accepted : read (file_of (cards 64)) ≡ catalogue (cards 64)
accepted = written_is_read_lem (cards 64) well-formed

-- A card has the versions up to the next card.
next-card : (n k : ℕ) → versions_from k (cards n) ≡ []
unfolding versions_from cards
next-card zero k = refl
next-card (suc n) k = refl

so_many : (n m more : ℕ) (rest : List Field) → ((k : ℕ) → versions_from k rest ≡ []) → length (versions_from m (versions n more rest)) ≡ more
unfolding versions_from versions
so_many n m zero rest h = ap length (h m)
so_many n m (suc more) rest h = ap suc (so_many (n + 1) _ more rest h)

cards-behind : (n more : ℕ) (rest : List Field) → cards_of (versions n more rest) ≡ cards_of rest
unfolding cards_of versions
cards-behind n zero rest = refl
cards-behind n (suc more) rest = cards-behind (n + 1) more rest

eight-each : (n : ℕ) → AllEight (cards_of (cards n))
unfolding AllEight cards_of cards
eight-each zero = tt
eight-each (suc n) = (so_many 1 0 8 (cards n) (next-card n), subst AllEight (sym (cards-behind 1 8 (cards n))) (eight-each n))

full : Full (cards 64)
unfolding versions cards addresses_of
full = record { cards = refl; versions = eight-each 64 }
