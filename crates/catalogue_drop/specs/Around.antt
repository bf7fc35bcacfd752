-- The bytes that stay when a card's oldest version goes, by places in the file.
-- What private functions of `catalogue_drop` ensure: nobody needs it to believe the drop.
-- Assumes nothing.
use Rattle.std.specs.Prelude.{ℕ, ◌+◌, ◌-◌, ◌≤◌, ◌<◌, cond, List, [], ◌∷◌, ◌++◌, length, take, drop, ltb}
use Rattle.catalogue_rules.specs.Field.{bytes_of, fields_of}
use Rattle.catalogue_rules.specs.Reading.{count_field}
use Rattle.catalogue_rules.specs.Cards.{versions_from}
use Rattle.catalogue_put.specs.Places.{field_place}

-- The bytes from one place up to another.
abbrev pub between : ℕ → ℕ → List ℕ → List ℕ
between from to file = take (to - from) (drop from file)

-- All that is kept before the card's fields, then those fields without a number of 5 bytes and an image of 131, and a new count.
unfoldable pub around : List ℕ → ℕ → ℕ → ℕ → ℕ → ℕ → List ℕ
around file kept at number image left =
    between 0 kept file
    ++ (between at number file
    ++ (between (number + 5) image file ++ (between (image + 131) (length file - 5) file ++ bytes_of (count_field left ∷ []))))

-- The places come in this order, and the new count goes into two bytes.
pub record InOrder (file : List ℕ) (kept at number image left : ℕ) : Type 0 where
  pub keeps : kept ≤ at
  pub numbered : at ≤ number
  pub imaged : number + 5 ≤ image
  pub ended : image + 136 ≤ length file
  pub counted : left < 65536

-- Where the first number and its image stand behind a card's address.
abbrev pub number_place : List ℕ → ℕ → ℕ
number_place file at = at + field_place 2 (fields_of (drop at file))

abbrev pub image_place : List ℕ → ℕ → ℕ
image_place file at = number_place file at + field_place 3 (fields_of (drop (number_place file at) file))

-- The new file: the address of 9 bytes goes with the last version.
unfoldable pub new_file : List ℕ → ℕ → ℕ → List ℕ
new_file file at n =
    cond (ltb (length (versions_from 0 (fields_of (drop at file)))) 2)
    (around file (at - 9) at (number_place file at) (image_place file at) (n - 3))
    (around file at at (number_place file at) (image_place file at) (n - 2))

-- The area begins with some bytes and is behind them as it came.
abbrev pub begins : List ℕ → List ℕ → List ℕ
begins those area = those ++ drop (length those) area

-- Behind a card's address, in a file of n fields before the count.
pub record Behind (file : List ℕ) (at n : ℕ) : Type 0 where
  pub addressed : 9 ≤ at
  pub imaged : number_place file at + 5 ≤ image_place file at
  pub ended : image_place file at + 136 ≤ length file
  pub three : 3 ≤ n
  pub counted : n < 65536
