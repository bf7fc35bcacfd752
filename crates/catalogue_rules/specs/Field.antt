-- A file of tagged fields: one-byte tag, two-byte length with its low byte first, then the value.
-- Assumes nothing.
use Rattle.std.specs.Prelude.{ℕ, zero, suc, ◌+◌, ◌*◌, ◌/◌, ◌%◌, Bool, true, false, cond, List, [], ◌∷◌, ◌++◌, length, get_or, take, drop, leb, Option, Some, None}
use Rattle.catalogue_rules.specs.declared.Found.{Found}

pub record Field : Type 0 where
  pub tag : ℕ
  pub value : List ℕ

abbrev pub field : ℕ → List ℕ → Field
field t v = record { tag = t; value = v }

-- A field's bytes.
abbrev pub written : Field → List ℕ
written f = f.tag ∷ length f.value % 256 ∷ length f.value / 256 ∷ f.value

-- How many bytes a field takes: tag, length, value.
abbrev pub size_of : Field → ℕ
size_of f = 3 + length f.value

-- The bytes of fields, one after the other.
unfoldable pub bytes_of : List Field → List ℕ
bytes_of [] = []
bytes_of (f ∷ fs) = written f ++ bytes_of fs

-- A number of two bytes, low byte first, at a place; a byte past the end counts as 0.
abbrev pub number_at : List ℕ → ℕ → ℕ
number_at bytes at = get_or bytes at 0 + 256 * get_or bytes (at + 1) 0

-- The bytes begin with a whole field: its tag, its length, and as many bytes as the length says.
unfoldable pub is_whole : List ℕ → Bool
is_whole bytes = leb (3 + number_at bytes 1) (length bytes)

-- That field, and the bytes behind it.
abbrev pub first : List ℕ → Field
first bytes = field (get_or bytes 0 0) (take (number_at bytes 1) (drop 3 bytes))

abbrev pub behind : List ℕ → List ℕ
behind bytes = drop (3 + number_at bytes 1) bytes

-- The whole fields that the bytes begin with. Each takes three bytes or more, so that the length bounds their number.
unfoldable pub fields_within : ℕ → List ℕ → List Field
fields_within zero bytes = []
fields_within (suc more) bytes = cond (is_whole bytes) (first bytes ∷ fields_within more (behind bytes)) []

unfoldable pub fields_of : List ℕ → List Field
fields_of bytes = fields_within (length bytes) bytes

-- The bytes that are left behind the whole fields.
unfoldable pub left_within : ℕ → List ℕ → List ℕ
left_within zero bytes = bytes
left_within (suc more) bytes = cond (is_whole bytes) (left_within more (behind bytes)) bytes

unfoldable pub left_of : List ℕ → List ℕ
left_of bytes = left_within (length bytes) bytes

abbrev pub found : ℕ → ℕ → ℕ → Found
found t s k = record { tag = t; start = s; len = k }

-- The value of a field that stands in a file.
abbrev pub value_at : List ℕ → Found → List ℕ
value_at file f = take f.len (drop f.start file)

-- What stands at a place of a file: a whole field, with the place and the length of its value, or none.
abbrev pub found_if : Bool → List ℕ → ℕ → Option Found
found_if true bytes at = Some (found (get_or bytes 0 0) (at + 3) (number_at bytes 1))
found_if false bytes at = None

abbrev pub found_at : List ℕ → ℕ → Option Found
found_at file at = found_if (is_whole (drop at file)) (drop at file) at
