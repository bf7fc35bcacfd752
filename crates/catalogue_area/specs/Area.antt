-- How much area always suffices: a catalogue without unknown fields has at most 70,213 bytes, and an addition asks for 145 more.
-- Theorems over the definitions that the calls are proved to answer.
-- Assumes nothing.
use Rattle.std.specs.Prelude.{ℕ, ◌+◌, ◌*◌, ◌/◌, ◌≤◌, ◌≡◌, cond, List, [], ◌∷◌, length}
use Rattle.refusal.specs.declared.Refusal.TheVariants.{ArgumentOutside, NoPlace}
use Rattle.catalogue_rules.specs.Field.{Field}
use Rattle.catalogue_rules.specs.Reading.{catalogue, read, addresses_of}
use Rattle.catalogue_rules.specs.Cards.{Card, cards_of}
use Rattle.catalogue_rules.specs.RoundTrip.{Bytes}
use Rattle.catalogue_rules.specs.Edit.{no, added, dropped, imported, exported}
use Rattle.catalogue_rules.specs.Unknown.{is_known}

-- The bytes that the unknown fields take.
unfoldable pub unknown_bytes : List Field → ℕ
unknown_bytes [] = 0
unknown_bytes (f ∷ fs) = cond (is_known f) (unknown_bytes fs) (3 + length f.value + unknown_bytes fs)

-- 64 cards of 9 bytes and 8 versions of 136 each, and the count: 70,213; a card's first version takes 145.
abbrev pub full_size : ℕ
full_size = 64 * (9 + 8 * 136) + 5

abbrev pub enough : ℕ
enough = full_size + 145

-- 64 cards, each with eight versions.
unfoldable pub AllEight : List Card → Type 0
AllEight [] = Unit
AllEight (c ∷ cards) = (length c.versions ≡ 8) × AllEight cards

pub record Full (fs : List Field) : Type 0 where
  pub cards : length (addresses_of fs) ≡ 64
  pub versions : AllEight (cards_of fs)

-- With 70,358 bytes, and as many more as the unknown fields take, no addition to a sound catalogue and no drop is refused 12;
-- a full catalogue then answers 18 to every image of 128 bytes. 9,285 bytes suffice for every archive of at most 64 images,
-- 8,192 for every export.
pub record AreaSuffices : Type 0 where
  pub size : (file : List ℕ) (fs : List Field) → Bytes file → read file ≡ catalogue fs → length file ≤ full_size + unknown_bytes fs
  pub addition : (area : ℕ) (file image : List ℕ) (fs : List Field) → Bytes file → read file ≡ catalogue fs → enough + unknown_bytes fs ≤ area → added area file image ≡ no ArgumentOutside → ⊥
  pub drop : (area : ℕ) (file : List ℕ) (a : ℕ) (fs : List Field) → Bytes file → read file ≡ catalogue fs → enough + unknown_bytes fs ≤ area → dropped area file a ≡ no ArgumentOutside → ⊥
  pub archive : (area : ℕ) (row : List ℕ) → length row / 128 ≤ 64 → 9285 ≤ area → imported area row ≡ no ArgumentOutside → ⊥
  pub row : (area : ℕ) (file : List ℕ) → 8192 ≤ area → exported area file ≡ no ArgumentOutside → ⊥
  pub full : (area : ℕ) (file image : List ℕ) (fs : List Field) → Bytes file → read file ≡ catalogue fs → Full fs → enough + unknown_bytes fs ≤ area → length image ≡ 128 → added area file image ≡ no NoPlace
