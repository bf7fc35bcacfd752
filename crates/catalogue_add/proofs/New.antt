-- The changed file, in pieces of the old one.
-- Assumes nothing.
use Prim.Native.Nat.{ℕ, ◌+◌, ◌-◌, ◌≤◌}
use mathlib.Core.Path.{◌≡◌, sym, ap, ap₂, ◌∙◌}
use mathlib.Core.Bool.{true}
use mathlib.Core.List.{List, [], ◌∷◌, ◌++◌}
use native.Mathlib.Omega.{arith}
use lib.ListN.{length, take, drop, length-append, length-drop}
use lib.Seq.{length-take-le}
use Rattle.catalogue_rules.specs.Field.{Field, field, bytes_of, fields_of}
use Rattle.catalogue_rules.specs.Reading.{catalogue, count_field, file_of, addresses_of, is_among, parsed, read}
use Rattle.catalogue_rules.specs.Cards.{versions_from, versions_at}
use Rattle.catalogue_rules.specs.RoundTrip.{Bytes}
use Rattle.catalogue_rules.proofs.Accepted.{addresses_read}
use Rattle.catalogue_rules.specs.Archive.{address_in}
use Rattle.catalogue_rules.specs.Edit.{version_fields, with_version}
use Rattle.catalogue_rules.proofs.Chain.{version-length}
use Rattle.catalogue_put.specs.Places.{card_place, card_end}
use Rattle.catalogue_put.proofs.Behind.{behind_card}
use Rattle.catalogue_add.proofs.Whole.{card_bound, count-length, file_length, before-count, take-before, take_behind, no-count, versions_there, end_there, card_file, version_file}
use Rattle.catalogue_add.proofs.Chains.{card-length}

pub versions_new : (file : List ℕ) (fs : List Field) → parsed file ≡ catalogue fs → (a : ℕ) {at : ℕ} → at ≡ card_place a (fields_of file) → versions_from 0 (fields_of (drop at file)) ≡ versions_at a fs
versions_new file fs e a at_is = ap (λ (k : ℕ). versions_from 0 (fields_of (drop k file))) at_is ∙ versions_there file fs e a

module _ (file : List ℕ) (fs : List Field) (b : Bytes file) (e : read file ≡ catalogue fs) (image : List ℕ) (l : length image ≡ 128) {n : ℕ} (many : n ≡ length fs) where
  pub five_least : 5 ≤ length file
  five_least = omega (arith, file_length file fs b e)

  -- With a card before the count.
  pub card_new : file_of (fs ++ (field 1 (address_in image) ∷ version_fields 1 image))
      ≡ take (length file - 5) file ++ (bytes_of (field 1 (address_in image) ∷ version_fields 1 image) ++ bytes_of (count_field (n + 3) ∷ []))
  card_new =
      card_file fs (field 1 (address_in image) ∷ version_fields 1 image)
      ∙ ap₂ (λ (x : List ℕ) (k : ℕ). x ++ (bytes_of (field 1 (address_in image) ∷ version_fields 1 image) ++ bytes_of (count_field (k + 3) ∷ []))) (sym (before-count file fs b e)) (sym many)

  pub card_new_length : length (file_of (fs ++ (field 1 (address_in image) ∷ version_fields 1 image))) ≡ length file + 145
  card_new_length =
      let c : List ℕ = bytes_of (field 1 (address_in image) ∷ version_fields 1 image) in
      let k : List ℕ = bytes_of (count_field (length fs + 3) ∷ []) in
      ap length (card_file fs (field 1 (address_in image) ∷ version_fields 1 image))
      ∙ omega (arith, length-append (bytes_of fs) (c ++ k), length-append c k, card-length image l, count-length (length fs + 3), file_length file fs b e)

  -- With a version at the end of a card's fields.
  module _ (a : ℕ) {at place : ℕ} (at_is : at ≡ card_place a (fields_of file)) (end_is : place ≡ at + card_end (fields_of (drop at file))) (y : is_among a (addresses_of (fields_of file)) ≡ true) where
    among : is_among a (addresses_of fs) ≡ true
    among = ap (is_among a) (sym (addresses_read file fs e)) ∙ y

    place_is : place ≡ card_place a fs + card_end (behind_card a fs)
    place_is = end_is ∙ ap (λ (k : ℕ). k + card_end (fields_of (drop k file))) at_is ∙ end_there file fs b e a among

    place-before : place ≤ length (bytes_of fs)
    place-before = omega (arith, place_is, card_bound a fs)

    pub place-fits : place + 5 ≤ length file
    place-fits = omega (arith, place-before, file_length file fs b e)

    in_parts : (new : List Field) → file_of (with_version a new fs)
        ≡ take place (bytes_of fs) ++ (bytes_of new ++ (drop place (bytes_of fs) ++ bytes_of (count_field (length fs + length new) ∷ [])))
    in_parts new =
        version_file a fs new (no-count file fs b e) among
        ∙ ap (λ (p : ℕ). take p (bytes_of fs) ++ (bytes_of new ++ (drop p (bytes_of fs) ++ bytes_of (count_field (length fs + length new) ∷ [])))) (sym place_is)

    pub version_new : (k : ℕ) → file_of (with_version a (version_fields k image) fs)
        ≡ take place file ++ (bytes_of (version_fields k image) ++ (take (length file - 5 - place) (drop place file) ++ bytes_of (count_field (n + 2) ∷ [])))
    version_new k =
        in_parts (version_fields k image)
        ∙ ap₂ (λ (x y : List ℕ). x ++ (bytes_of (version_fields k image) ++ (y ++ bytes_of (count_field (length fs + 2) ∷ []))))
        (sym (take-before file fs b e place place-before)) (sym (take_behind file fs b e place place-before))
        ∙ ap (λ (m : ℕ). take place file ++ (bytes_of (version_fields k image) ++ (take (length file - 5 - place) (drop place file) ++ bytes_of (count_field (m + 2) ∷ [])))) (sym many)

    pub version_new_length : (k : ℕ) → length (file_of (with_version a (version_fields k image) fs)) ≡ length file + 136
    version_new_length k =
        let v : List ℕ = bytes_of (version_fields k image) in
        let r : List ℕ = drop place (bytes_of fs) in
        let c : List ℕ = bytes_of (count_field (length fs + 2) ∷ []) in
        ap length (in_parts (version_fields k image))
        ∙ omega (arith, length-append (take place (bytes_of fs)) (v ++ (r ++ c)), length-append v (r ++ c), length-append r c, version-length k image l, count-length (length fs + 2), file_length file fs b e, length-take-le place (bytes_of fs) place-before, length-drop place (bytes_of fs), place-before)
