-- A catalogue and its file: what is written is read again, and what is read is written back byte for byte.
-- Theorems over the definitions alone.
-- Assumes nothing.
use Rattle.std.specs.Prelude.{ℕ, ◌≤◌, ◌<◌, ◌≡◌, Bool, true, false, ◌&&◌, not, List, [], ◌∷◌, length, get_or, eqb}
use Rattle.catalogue_rules.specs.Field.{Field}
use Rattle.catalogue_rules.specs.declared.Turn.{Turn}
use Rattle.catalogue_rules.specs.declared.Turn.TheVariants.{Begun}
use Rattle.catalogue_rules.specs.Turns.{after, may_end, is_damaged}
use Rattle.catalogue_rules.specs.Reading.{catalogue, addresses_of, any_twice, read, file_of}

-- The fields come in turn, none of them is a count, and no card is half told at the end.
unfoldable pub in_turn : Turn → List Field → Bool
in_turn turn [] = may_end turn
in_turn turn (f ∷ fs) = not (eqb f.tag 4) && (not (is_damaged (after turn f)) && in_turn (after turn f) fs)

-- Each length goes into two bytes.
unfoldable pub Sizes : List Field → Type 0
Sizes [] = Unit
Sizes (f ∷ fs) = (length f.value < 65536) × Sizes fs

-- A catalogue that can be written: fields in turn, lengths and count of two bytes, at most 64 cards, no address twice.
pub record WellFormed (fs : List Field) : Type 0 where
  pub turns : in_turn Begun fs ≡ true
  pub sizes : Sizes fs
  pub counted : length fs < 65536
  pub cards : length (addresses_of fs) ≤ 64
  pub apart : any_twice (addresses_of fs) ≡ false

-- Every element is a byte.
abbrev pub Bytes : List ℕ → Type 0
Bytes file = (i : ℕ) → get_or file i 0 < 256

-- Reading what was written gives the same catalogue.
abbrev pub WrittenIsRead : Type 0
WrittenIsRead = (fs : List Field) → WellFormed fs → read (file_of fs) ≡ catalogue fs

-- An accepted file is written back byte for byte.
abbrev pub ReadIsWritten : Type 0
ReadIsWritten = (file : List ℕ) (fs : List Field) → Bytes file → read file ≡ catalogue fs → file_of fs ≡ file

-- Only well-formed catalogues are accepted: with the first theorem, exactly those.
abbrev pub AcceptedIsWellFormed : Type 0
AcceptedIsWellFormed = (file : List ℕ) (fs : List Field) → Bytes file → read file ≡ catalogue fs → WellFormed fs
