-- The ways through an import: each test in its turn.
-- Assumes nothing.
use Prim.Native.Nat.{ℕ, suc, ◌+◌, ◌*◌, ◌/◌, ◌%◌, ◌≤◌, ◌<◌}
use mathlib.Core.Path.{◌≡◌, sym, ap, ◌∙◌}
use mathlib.Core.Bool.{Bool, true, false, not}
use mathlib.Core.List.{List, [], ◌∷◌}
use native.Mathlib.Omega.{arith}
use borrow.Author.Tests.{lt-ltb, le-ltb, eq-eqb, ne_eqb}
use lib.ListN.{length, drop, drop_of_length-le}
use lib.Seq.{drop-cons}
use lib.Dec.{eqb, ltb}
use Rattle.std.specs.Prelude.{Err, slice_index_or}
use Rattle.std.specs.List.{list_any}
use Rattle.refusal.specs.declared.Refusal.{Refusal}
use Rattle.refusal.specs.declared.Refusal.TheVariants.{StateUnsound, LengthOutside, ArgumentOutside, MakerWrong, ChecksumWrong, SecondaryWrong, NoPlace, ListedTwice}
use Rattle.image_rules.specs.Image.{check_of}
use Rattle.catalogue_rules.specs.Reading.{any_twice, file_of}
use Rattle.catalogue_rules.specs.Archive.{moved_in, addresses_in}
use Rattle.catalogue_rules.specs.Edit.{Change, bytes, or_else, images_in, is_for, any_for, all_sound, imported}
use Rattle.catalogue_rules.specs.PutContracts.{Writes}
use Rattle.catalogue_rules.proofs.Changes.{or_else_lem, or_on, refusing}
use Rattle.catalogue_row.proofs.Each.{any_refused}

-- The first of these reasons that an image is refused for, else the change.
unfoldable pub or_all : List Refusal → List (List ℕ) → Change → Change
or_all [] images change = change
or_all (why ∷ those) images change = or_else (any_for why images) why (or_all those images change)

abbrev pub moved : List (List ℕ) → Change
moved images = bytes (file_of (moved_in images))

module _ (area row : List ℕ) where
  pub short : length area < 145 * (length row / 128) + 5 → Writes (imported (length area) row) (Err ArgumentOutside) area area
  unfolding imported
  short h = refusing _ _ (or_else_lem _ _ _ (lt-ltb (length area) (145 * (length row / 128) + 5) h)) area

  module _ (fits : 145 * (length row / 128) + 5 ≤ length area) where
    fitting : imported (length area) row
        ≡ or_else (not (eqb (length row % 128) 0)) LengthOutside
        (or_else (ltb 64 (length row / 128)) NoPlace
        (or_else (any_twice (addresses_in (images_in row))) ListedTwice (all_sound (images_in row) (bytes (file_of (moved_in (images_in row)))))))
    unfolding imported
    fitting = or_on _ _ _ (le-ltb (length area) (145 * (length row / 128) + 5) fits)

    pub ragged : (length row % 128 ≡ 0 → ⊥) → Writes (imported (length area) row) (Err LengthOutside) area area
    ragged h = refusing _ _ (fitting ∙ or_else_lem _ _ _ (ap not (ne_eqb (length row % 128) 0 h))) area

    module _ (even : length row % 128 ≡ 0) where
      evenly : imported (length area) row
          ≡ or_else (ltb 64 (length row / 128)) NoPlace
          (or_else (any_twice (addresses_in (images_in row))) ListedTwice (all_sound (images_in row) (bytes (file_of (moved_in (images_in row))))))
      evenly = fitting ∙ or_on _ _ _ (ap not (eq-eqb (length row % 128) 0 even))

      pub crowded : 64 < length row / 128 → Writes (imported (length area) row) (Err NoPlace) area area
      crowded h = refusing _ _ (evenly ∙ or_else_lem _ _ _ (lt-ltb 64 (length row / 128) h)) area

      module _ (few : length row / 128 ≤ 64) {images : List (List ℕ)} (cut : images ≡ images_in row) {t : Bool} (twice : t ≡ any_twice (addresses_in images)) where
        fewly : imported (length area) row ≡ or_else t ListedTwice (all_sound (images_in row) (bytes (file_of (moved_in (images_in row)))))
        fewly =
            evenly ∙ or_on _ _ _ (le-ltb 64 (length row / 128) few)
            ∙ ap (λ (b : Bool). or_else b ListedTwice (all_sound (images_in row) (bytes (file_of (moved_in (images_in row)))))) (sym (twice ∙ ap (λ (l : List (List ℕ)). any_twice (addresses_in l)) cut))

        pub listed_twice_lem : t ≡ true → Writes (imported (length area) row) (Err ListedTwice) area area
        listed_twice_lem y = refusing _ _ (fewly ∙ or_else_lem _ _ _ y) area

        -- Behind these tests: 8, 9 and 10 in the table's order.
        pub apartly : t ≡ false → imported (length area) row ≡ or_all (MakerWrong ∷ ChecksumWrong ∷ SecondaryWrong ∷ []) images (moved images)
        unfolding all_sound or_all
        apartly apart = fewly ∙ or_on _ _ _ apart ∙ ap (λ (l : List (List ℕ)). all_sound l (moved l)) (sym cut)

-- One reason after the other.
module _ (area row : List ℕ) (those : List Refusal) (images : List (List ℕ)) {i : ℕ} (inv : imported (length area) row ≡ or_all (drop i those) images (moved images)) where
  module _ (h : i < length those) {b : Bool} (is : b ≡ list_any (λ image. is_for (slice_index_or those i StateUnsound) (check_of image)) images) where
    step : imported (length area) row ≡ or_else b (slice_index_or those i StateUnsound) (or_all (drop (suc i) those) images (moved images))
    unfolding or_all
    step =
        inv
        ∙ ap (λ (l : List Refusal). or_all l images (moved images)) (drop-cons those i StateUnsound h)
        ∙ ap (λ (x : Bool). or_else x (slice_index_or those i StateUnsound) (or_all (drop (suc i) those) images (moved images)))
        (sym (is ∙ any_refused (slice_index_or those i StateUnsound) images))

    pub wrong : b ≡ true → Writes (imported (length area) row) (Err (slice_index_or those i StateUnsound)) area area
    wrong y = refusing _ _ (step ∙ or_else_lem _ _ _ y) area

    pub right : b ≡ false → imported (length area) row ≡ or_all (drop (i + 1) those) images (moved images)
    right y =
        let n : suc i ≡ i + 1 = omega arith in step ∙ or_on _ _ _ y ∙ ap (λ (k : ℕ). or_all (drop k those) images (moved images)) n

  pub sound : length those ≤ i → imported (length area) row ≡ moved images
  unfolding or_all
  sound h = inv ∙ ap (λ (l : List Refusal). or_all l images (moved images)) (drop_of_length-le those h)
