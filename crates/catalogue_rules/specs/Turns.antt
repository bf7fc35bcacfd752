-- Whose turn it is: tag 1, then one to eight pairs of 2 and 3, numbers rising; an unknown tag at any time.
-- Assumes nothing.
use Rattle.std.specs.Prelude.{ℕ, ◌+◌, ◌*◌, Bool, true, false, cond, ◌&&◌, List, length, get_or, eqb, ltb}
use Rattle.catalogue_rules.specs.Field.{Field, number_at}
use Rattle.catalogue_rules.specs.declared.Turn.{Turn}
use Rattle.catalogue_rules.specs.declared.Turn.TheVariants.{Begun, Addressed, Numbered, Imaged, Damaged}

-- A node address (6 bytes): a number of 48 bits, the first byte highest.
unfoldable pub address_of : List ℕ → ℕ
address_of v =
    ((((get_or v 0 0 * 256 + get_or v 1 0) * 256 + get_or v 2 0) * 256 + get_or v 3 0) * 256 + get_or v 4 0) * 256 + get_or v 5 0

-- A card's address: at the beginning, or when the card before it has a version.
abbrev pub after_address : Turn → Turn
after_address Begun = Addressed
after_address Addressed = Damaged
after_address (Numbered nth number) = Damaged
after_address (Imaged nth number) = Addressed
after_address Damaged = Damaged

-- A version number: a card's first, or one of at most eight, above the one before.
abbrev pub after_number : Turn → ℕ → Turn
after_number Begun number = Damaged
after_number Addressed number = Numbered 1 number
after_number (Numbered nth last) number = Damaged
after_number (Imaged nth last) number = cond (ltb nth 8 && ltb last number) (Numbered (nth + 1) number) Damaged
after_number Damaged number = Damaged

-- An image: that of the number just before.
abbrev pub after_image : Turn → Turn
after_image Begun = Damaged
after_image Addressed = Damaged
after_image (Numbered nth number) = Imaged nth number
after_image (Imaged nth number) = Damaged
after_image Damaged = Damaged

-- Tag 1 is a card's node address (6 bytes), tag 2 a version number (2 bytes), tag 3 an image (128 bytes).
unfoldable pub after : Turn → Field → Turn
after turn f =
    cond (eqb f.tag 1) (cond (eqb (length f.value) 6) (after_address turn) Damaged)
    (cond (eqb f.tag 2) (cond (eqb (length f.value) 2) (after_number turn (number_at f.value 0)) Damaged)
    (cond (eqb f.tag 3) (cond (eqb (length f.value) 128) (after_image turn) Damaged)
    turn))

-- The file may end here: no card is half told.
abbrev pub may_end : Turn → Bool
may_end Begun = true
may_end Addressed = false
may_end (Numbered nth number) = false
may_end (Imaged nth number) = true
may_end Damaged = false

abbrev pub is_damaged : Turn → Bool
is_damaged Begun = false
is_damaged Addressed = false
is_damaged (Numbered nth number) = false
is_damaged (Imaged nth number) = false
is_damaged Damaged = true
