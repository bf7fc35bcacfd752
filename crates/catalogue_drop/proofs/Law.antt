-- The bytes that stay are the file of the catalogue without the version.
-- Assumes nothing.
use Prim.Native.Nat.{ℕ, suc, ◌+◌, ◌-◌, ◌/◌, ◌%◌, ◌<◌}
use mathlib.Core.Path.{◌≡◌, refl, sym, ap, ap₂, subst, ◌∙◌}
use mathlib.Core.Bool.{Bool, true, false, cond}
use mathlib.Core.List.{List, [], ◌∷◌, ◌++◌, append_assoc}
use native.Mathlib.Omega.{arith}
use borrow.Author.Tests.{le-ltb}
use lib.ListN.{length, drop, length-append}
use lib.Dec.{eqb, ltb}
use Rattle.catalogue_rules.specs.Field.{Field, size_of, field, written, bytes_of, fields_of}
use Rattle.catalogue_rules.proofs.Append.{bytes-append}
use Rattle.catalogue_rules.specs.declared.Turn.TheVariants.{Begun}
use Rattle.catalogue_rules.specs.Reading.{catalogue, read, count_field, file_of, addresses_of, is_among}
use Rattle.catalogue_rules.specs.Cards.{Version, versions_from}
use Rattle.catalogue_rules.specs.RoundTrip.{Sizes, WellFormed, Bytes}
use Rattle.catalogue_rules.proofs.WrittenBack.{fields_written, sizes-append}
use Rattle.catalogue_rules.proofs.Round.{read_is_written_lem}
use Rattle.catalogue_rules.proofs.Fit.{accepted_is_well_formed_lem}
use Rattle.catalogue_rules.proofs.Accepted.{from-append}
use Rattle.catalogue_rules.specs.Edit.{without_oldest, leaves, without_version}
use Rattle.catalogue_put.specs.Places.{card_place, field_place}
use Rattle.catalogue_drop.specs.Around.{around, number_place, image_place, new_file, Behind}
use Rattle.catalogue_drop.proofs.Oldest.{Image, Oldest, Listed, listed_of}
use Rattle.catalogue_drop.proofs.Pieces.{fields_behind, bytes-before, long, left_over}

-- A card leaves when it has fewer than two versions.
leaves-few : (vs : List Version) → ltb (length vs) 2 ≡ leaves vs
leaves-few [] = refl
leaves-few (v ∷ []) = refl
leaves-few (v ∷ w ∷ vs) = le-ltb (suc (suc (length vs))) 2 (omega arith)

either : (b : Bool) {x y : List ℕ} (u v w : List Field) → x ≡ file_of (w ++ u) → y ≡ file_of (w ++ v) → cond b x y ≡ file_of (w ++ cond b u v)
either true u v w p q = p
either false u v w p q = q

-- Fields, and the count behind them.
module _ (a : ℕ) (fs : List Field) (l : Listed a fs) (count : List ℕ) (two : length count ≡ 2) where
  abbrev o : Oldest l.rest
  o = l.oldest

  abbrev i : Image l.oldest.rest
  i = l.oldest.image

  abbrev all : List ℕ
  all = bytes_of l.before

  abbrev one : List ℕ
  one = bytes_of o.before

  abbrev other : List ℕ
  other = bytes_of i.before

  abbrev tail : List Field
  tail = field 4 count ∷ []

  flat : fs ++ tail ≡ l.before ++ (l.card ∷ (o.before ++ (o.number ∷ (i.before ++ (i.image ∷ (i.rest ++ tail))))))
  flat =
      ap (λ (x : List Field). x ++ tail)
      (l.are
      ∙ ap (λ (x : List Field). l.before ++ (l.card ∷ x)) (o.are ∙ ap (λ (x : List Field). o.before ++ (o.number ∷ x)) i.are))
      ∙ simp append_assoc

  in_pieces : bytes_of (fs ++ tail)
      ≡ all ++ (written l.card ++ (one ++ (written o.number ++ (other ++ (written i.image ++ (bytes_of i.rest ++ bytes_of tail))))))
  unfolding bytes_of
  in_pieces = ap bytes_of flat ∙ simp bytes-append

  nine : length (written l.card) ≡ 9
  nine = let e : length l.card.value ≡ 6 = l.size in omega arith

  five : length (written o.number) ≡ 5
  five = let e : length o.number.value ≡ 2 = o.size in omega arith

  whole : length (written i.image) ≡ 131
  whole = let e : length i.image.value ≡ 128 = i.size in omega arith

  last : length (bytes_of tail) ≡ 5
  unfolding bytes_of
  last = simp length-append (omega arith)

  -- The fields up to behind the address, and up to the number.
  at_card : fs ++ tail ≡ (l.before ++ (l.card ∷ [])) ++ (l.rest ++ tail)
  at_card = ap (λ (x : List Field). x ++ tail) l.are ∙ simp append_assoc

  at_number : fs ++ tail ≡ (l.before ++ (l.card ∷ o.before)) ++ (o.number ∷ (o.rest ++ tail))
  at_number =
      ap (λ (x : List Field). x ++ tail) (l.are ∙ ap (λ (x : List Field). l.before ++ (l.card ∷ x)) o.are) ∙ simp append_assoc

  card-size : length all + 9 ≡ length (bytes_of (l.before ++ (l.card ∷ [])))
  unfolding bytes_of
  card-size =
      let e : length l.card.value ≡ 6 = l.size in
      simp (bytes-append, length-append) (omega arith)

  number_size : length all + 9 + length one ≡ length (bytes_of (l.before ++ (l.card ∷ o.before)))
  unfolding bytes_of
  number_size =
      let e : length l.card.value ≡ 6 = l.size in
      simp (bytes-append, length-append) (omega arith)

  -- The number and the image are found where they stand.
  module _ (file : List ℕ) (s : Sizes (fs ++ tail)) (e : file ≡ bytes_of (fs ++ tail)) where
    pub card-found : card_place a (fields_of file) ≡ length all + 9
    card-found = ap (card_place a) (ap fields_of e ∙ fields_written (fs ++ tail) s) ∙ l.place tail

    behind-card : fields_of (drop (length all + 9) file) ≡ l.rest ++ tail
    behind-card =
        fields_behind (l.before ++ (l.card ∷ [])) (l.rest ++ tail) file (length all + 9)
        (subst (λ (x : List Field). Sizes x) at_card s) (e ∙ ap bytes_of at_card) card-size

    number-found : number_place file (length all + 9) ≡ length all + 9 + length one
    number-found = ap (λ (x : List Field). length all + 9 + field_place 2 x) behind-card ∙ ap (λ (n : ℕ). length all + 9 + n) (o.place tail)

    behind-number : fields_of (drop (length all + 9 + length one) file) ≡ o.number ∷ (o.rest ++ tail)
    behind-number =
        fields_behind (l.before ++ (l.card ∷ o.before)) (o.number ∷ (o.rest ++ tail)) file (length all + 9 + length one)
        (subst (λ (x : List Field). Sizes x) at_number s) (e ∙ ap bytes_of at_number) number_size

    past_number : field_place 3 (o.number ∷ (o.rest ++ tail)) ≡ 5 + length other
    unfolding field_place
    past_number =
        let n : length o.number.value ≡ 2 = o.size in
        let p : field_place 3 (o.rest ++ tail) ≡ length other = i.place tail in
        ap (λ (t : ℕ). cond (eqb t 3) 0 (size_of o.number + field_place 3 (o.rest ++ tail))) o.is_number ∙ omega arith

    image-found : image_place file (length all + 9) ≡ length all + 9 + length one + (5 + length other)
    image-found =
        ap (λ (n : ℕ). n + field_place 3 (fields_of (drop n file))) number-found
        ∙ ap (λ (x : List Field). length all + 9 + length one + field_place 3 x) behind-number
        ∙ ap (λ (n : ℕ). length all + 9 + length one + n) past_number

    file_long : length file ≡ length all + 9 + length one + 5 + length other + 131 + length (bytes_of i.rest) + 5
    file_long =
        ap length (e ∙ in_pieces)
        ∙ long all (written l.card) one (written o.number) other (written i.image) (bytes_of i.rest) (bytes_of tail) nine five whole last

    fields_many : length fs ≡ length l.before + length o.before + length i.before + length i.rest + 3
    fields_many =
        ap length (l.are ∙ ap (λ (x : List Field). l.before ++ (l.card ∷ x)) (o.are ∙ ap (λ (x : List Field). o.before ++ (o.number ∷ x)) i.are))
        ∙ simp length-append (omega arith)

    pub stands-behind : length fs < 65536 → Behind file (length all + 9) (length fs)
    stands-behind few =
        let n : length file ≡ length all + 9 + length one + 5 + length other + 131 + length (bytes_of i.rest) + 5 = file_long in
        let k : length fs ≡ length l.before + length o.before + length i.before + length i.rest + 3 = fields_many in
        let p : number_place file (length all + 9) ≡ length all + 9 + length one = number-found in
        let q : image_place file (length all + 9) ≡ length all + 9 + length one + (5 + length other) = image-found in
        record {
          addressed = omega arith;
          imaged = omega arith;
          ended = omega arith;
          three = omega arith;
          counted = few;
        }

    test : ltb (length (versions_from 0 (fields_of (drop (length all + 9) file)))) 2 ≡ leaves (versions_from 0 l.rest)
    test =
        ap (λ (x : List Field). ltb (length (versions_from 0 x)) 2) behind-card
        ∙ ap (λ (vs : List Version). ltb (length vs) 2) (from-append l.rest 0 count)
        ∙ leaves-few (versions_from 0 l.rest)

    -- The file of all but the number and the image, where some fields before them are kept.
    written_so : (kept : List Field) (left : ℕ) → left ≡ length (kept ++ without_oldest l.rest)
        → bytes_of kept ++ (one ++ (other ++ (bytes_of i.rest ++ bytes_of (count_field left ∷ [])))) ≡ file_of (kept ++ without_oldest l.rest)
    unfolding file_of
    written_so kept left n =
        sym
        (ap (λ (m : ℕ). bytes_of ((kept ++ without_oldest l.rest) ++ (count_field m ∷ []))) (sym n)
        ∙ ap (λ (x : List Field). bytes_of ((kept ++ x) ++ (count_field left ∷ []))) (o.gone ∙ ap (λ (x : List Field). o.before ++ x) i.gone)
        ∙ simp (bytes-append, append_assoc))

    stays-long : length (without_oldest l.rest) ≡ length o.before + length i.before + length i.rest
    stays-long = ap length (o.gone ∙ ap (λ (x : List Field). o.before ++ x) i.gone) ∙ simp length-append (omega arith)

    left_so : (kept : List Field) (rest : List Field) (to left : ℕ) → fs ++ tail ≡ kept ++ rest → to ≡ length (bytes_of kept)
        → left ≡ length (kept ++ without_oldest l.rest)
        → around file to (length all + 9) (number_place file (length all + 9)) (image_place file (length all + 9)) left ≡ file_of (kept ++ without_oldest l.rest)
    left_so kept rest to left r k n =
        ap₂ (λ (x y : ℕ). around file to (length all + 9) x y left) number-found image-found
        ∙ left_over all (written l.card) one (written o.number) other (written i.image) (bytes_of i.rest) (bytes_of tail) nine five whole last
        file to left (bytes_of kept) (e ∙ in_pieces) (bytes-before kept rest file to (e ∙ ap bytes_of r) k)
        ∙ written_so kept left n

    leaving : around file (length all + 9 - 9) (length all + 9) (number_place file (length all + 9)) (image_place file (length all + 9)) (length fs - 3)
        ≡ file_of (l.before ++ without_oldest l.rest)
    leaving =
        let n : length fs ≡ length l.before + length o.before + length i.before + length i.rest + 3 = fields_many in
        let k : length (without_oldest l.rest) ≡ length o.before + length i.before + length i.rest = stays-long in
        left_so l.before (l.card ∷ (l.rest ++ tail)) (length all + 9 - 9) (length fs - 3)
        (ap (λ (x : List Field). x ++ tail) l.are ∙ append_assoc l.before (l.card ∷ l.rest) tail)
        (omega arith) (simp length-append (omega arith))

    staying : around file (length all + 9) (length all + 9) (number_place file (length all + 9)) (image_place file (length all + 9)) (length fs - 2)
        ≡ file_of (l.before ++ (l.card ∷ without_oldest l.rest))
    staying =
        let n : length fs ≡ length l.before + length o.before + length i.before + length i.rest + 3 = fields_many in
        let k : length (without_oldest l.rest) ≡ length o.before + length i.before + length i.rest = stays-long in
        left_so (l.before ++ (l.card ∷ [])) (l.rest ++ tail) (length all + 9) (length fs - 2) at_card card-size (simp length-append (omega arith))
        ∙ ap file_of (append_assoc l.before (l.card ∷ []) (without_oldest l.rest))

    pub new_file_lem : new_file file (length all + 9) (length fs) ≡ file_of (without_version a fs)
    unfolding new_file
    new_file_lem =
        ap
        (λ (b : Bool).
        cond b
        (around file (length all + 9 - 9) (length all + 9) (number_place file (length all + 9)) (image_place file (length all + 9)) (length fs - 3))
        (around file (length all + 9) (length all + 9) (number_place file (length all + 9)) (image_place file (length all + 9)) (length fs - 2)))
        test
        ∙ either (leaves (versions_from 0 l.rest)) (without_oldest l.rest) (l.card ∷ without_oldest l.rest) l.before leaving staying
        ∙ ap file_of (sym l.gone)

-- An accepted file with the card.
module _ (a : ℕ) (file : List ℕ) (fs : List Field) (b : Bytes file) (r : read file ≡ catalogue fs) (m : is_among a (addresses_of fs) ≡ true) where
  well : WellFormed fs
  well = accepted_is_well_formed_lem file fs b r

  listed : Listed a fs
  listed = listed_of a fs Begun well.turns m

  sized : Sizes (fs ++ (count_field (length fs) ∷ []))
  unfolding Sizes
  sized = sizes-append fs (count_field (length fs) ∷ []) well.sizes (omega arith, tt)

  back : file ≡ bytes_of (fs ++ (count_field (length fs) ∷ []))
  unfolding file_of
  back = sym (read_is_written_lem file fs b r)

  place : card_place a (fields_of file) ≡ length (bytes_of listed.before) + 9
  place = card-found a fs listed (length fs % 256 ∷ length fs / 256 ∷ []) refl file sized back

  pub is_behind : Behind file (card_place a (fields_of file)) (length fs)
  is_behind =
      subst (λ (at : ℕ). Behind file at (length fs)) (sym place)
      (stands-behind a fs listed (length fs % 256 ∷ length fs / 256 ∷ []) refl file sized back well.counted)

  pub is_new : new_file file (card_place a (fields_of file)) (length fs) ≡ file_of (without_version a fs)
  is_new =
      ap (λ (at : ℕ). new_file file at (length fs)) place
      ∙ new_file_lem a fs listed (length fs % 256 ∷ length fs / 256 ∷ []) refl file sized back
