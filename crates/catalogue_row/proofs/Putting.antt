-- The cards of an archive's images, put one behind the other, and the count of fields behind them.
-- Assumes nothing.
use Prim.Native.Nat.{ℕ, zero, suc, ◌+◌, ◌*◌, ◌≤◌, ◌<◌}
use mathlib.Core.Path.{◌≡◌, refl, sym, ap, ◌∙◌}
use mathlib.Core.List.{List, [], ◌∷◌, ◌++◌, append_assoc}
use native.Mathlib.Omega.{arith}
use lib.ListN.{length, take, length-append}
use lib.Seq.{take-length}
use Rattle.std.specs.Prelude.{slice_index_or}
use Rattle.catalogue_rules.specs.Field.{Field, field, bytes_of}
use Rattle.catalogue_rules.specs.Reading.{count_field, file_of}
use Rattle.catalogue_rules.specs.Archive.{address_in, moved_in}
use Rattle.catalogue_rules.specs.Edit.{version_fields}
use Rattle.catalogue_rules.specs.Put.{put_at}
use Rattle.catalogue_rules.proofs.Append.{bytes-append}
use Rattle.catalogue_rules.proofs.Chain.{both-put, version-length}

-- The fields of a card.
abbrev card_of : List ℕ → List Field
card_of image = field 1 (address_in image) ∷ version_fields 1 image

card-length : (image : List ℕ) → length image ≡ 128 → length (bytes_of (card_of image)) ≡ 145
unfolding bytes_of
card-length image e =
    let v : length (bytes_of (version_fields 1 image)) ≡ 136 = version-length 1 image e in omega arith

count-length : (n : ℕ) → length (bytes_of (count_field n ∷ [])) ≡ 5
unfolding bytes_of
count-length n = refl

count-moved : (images : List (List ℕ)) → length (moved_in images) ≡ 3 * length images
unfolding moved_in
count-moved [] = refl
count-moved (image ∷ images) = let e : length (moved_in images) ≡ 3 * length images = count-moved images in omega arith

-- The cards of the first images.
unfoldable pub so_far : List (List ℕ) → ℕ → List ℕ
so_far images i = bytes_of (moved_in (take i images))

pub none_so_far : (images : List (List ℕ)) → so_far images 0 ≡ []
unfolding so_far moved_in bytes_of
none_so_far images = refl

-- One more.
next_card : (images : List (List ℕ)) (i : ℕ) → i < length images → so_far images (suc i) ≡ so_far images i ++ bytes_of (card_of (slice_index_or images i []))
unfolding so_far moved_in bytes_of
next_card [] i h = absurd (omega arith)
next_card (image ∷ images) zero h = refl
next_card (image ∷ images) (suc i) h =
    bytes-append (card_of image) (moved_in (take (suc i) images))
    ∙ ap (λ (l : List ℕ). bytes_of (card_of image) ++ l) (next_card images i (omega arith))
    ∙ sym (append_assoc (bytes_of (card_of image)) (bytes_of (moved_in (take i images))) (bytes_of (card_of (slice_index_or images i []))))
    ∙ ap (λ (l : List ℕ). l ++ bytes_of (card_of (slice_index_or images i []))) (sym (bytes-append (card_of image) (moved_in (take i images))))

-- All are put: the whole file stands there behind the count.
whole : (images : List (List ℕ)) (i : ℕ) → i ≡ length images → so_far images i ++ bytes_of (count_field (3 * length images) ∷ []) ≡ file_of (moved_in images)
unfolding so_far file_of
whole images i e =
    ap (λ (k : ℕ). bytes_of (moved_in (take k images)) ++ bytes_of (count_field (3 * length images) ∷ [])) e
    ∙ ap (λ (l : List (List ℕ)). bytes_of (moved_in l) ++ bytes_of (count_field (3 * length images) ∷ [])) (take-length images)
    ∙ sym (bytes-append (moved_in images) (count_field (3 * length images) ∷ []))
    ∙ ap (λ (n : ℕ). bytes_of (moved_in images ++ (count_field n ∷ []))) (sym (count-moved images))

module _ (images : List (List ℕ)) (wide : (i : ℕ) → i < length images → length (slice_index_or images i []) ≡ 128) where
  so_far_length : (i : ℕ) → i ≤ length images → length (so_far images i) ≡ 145 * i
  so_far_length zero h = ap length (none_so_far images)
  so_far_length (suc i) h =
      let one : length (bytes_of (card_of (slice_index_or images i []))) ≡ 145 = card-length (slice_index_or images i []) (wide i (omega arith)) in
      let before : length (so_far images i) ≡ 145 * i = so_far_length i (omega arith) in
      ap length (next_card images i (omega arith)) ∙ length-append (so_far images i) (bytes_of (card_of (slice_index_or images i []))) ∙ omega arith

  module _ (area : List ℕ) (room : 145 * length images + 5 ≤ length area) {out : List ℕ} {i to : ℕ} (at : to ≡ 145 * i) (are : out ≡ put_at area 0 (so_far images i)) where
    pub putting_on : i < length images → {after : List ℕ} → after ≡ put_at out to (bytes_of (card_of (slice_index_or images i []))) → after ≡ put_at area 0 (so_far images (i + 1))
    putting_on h put =
        let one : length (bytes_of (card_of (slice_index_or images i []))) ≡ 145 = card-length (slice_index_or images i []) (wide i h) in
        let before : length (so_far images i) ≡ 145 * i = so_far_length i (omega arith) in
        both-put area 0 (so_far images i) (bytes_of (card_of (slice_index_or images i []))) (omega arith) (omega arith) are put
        ∙ ap (put_at area 0) (sym (next_card images i h) ∙ ap (so_far images) (omega arith))

    module _ (last : i ≡ length images) where
      pub putting_ends : {after : List ℕ} → after ≡ put_at out to (bytes_of (count_field (3 * length images) ∷ [])) → after ≡ put_at area 0 (file_of (moved_in images))
      putting_ends put =
          let before : length (so_far images i) ≡ 145 * i = so_far_length i (omega arith) in
          let five : length (bytes_of (count_field (3 * length images) ∷ [])) ≡ 5 = count-length (3 * length images) in
          both-put area 0 (so_far images i) (bytes_of (count_field (3 * length images) ∷ [])) (omega arith) (omega arith) are put
          ∙ ap (put_at area 0) (whole images i last)

      pub putting_length : {r : ℕ} → r ≡ to + 5 → r ≡ length (file_of (moved_in images))
      putting_length n =
          let before : length (so_far images i) ≡ 145 * i = so_far_length i (omega arith) in
          let five : length (bytes_of (count_field (3 * length images) ∷ [])) ≡ 5 = count-length (3 * length images) in
          omega (arith, length-append (so_far images i) (bytes_of (count_field (3 * length images) ∷ []))) ∙ ap length (whole images i last)
