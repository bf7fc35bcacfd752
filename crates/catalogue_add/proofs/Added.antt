-- What an addition answers and leaves, by what the walk over the fields told and by the tests.
-- Assumes nothing.
use Prim.Native.Nat.{ℕ, ◌+◌, ◌-◌, ◌≤◌}
use mathlib.Core.Path.{◌≡◌, sym, ap, ◌∙◌}
use mathlib.Core.Bool.{Bool, true, false, ◌||◌}
use mathlib.Core.List.{List, [], ◌∷◌, ◌++◌}
use lib.ListN.{length, take, drop}
use lib.Dec.{ltb, leb}
use Rattle.std.specs.Prelude.{Ok}
use Rattle.image_rules.specs.declared.Node.{Node}
use Rattle.image_rules.specs.Image.{check_of}
use Rattle.catalogue_rules.specs.Field.{field, bytes_of, fields_of}
use Rattle.catalogue_rules.specs.Turns.{address_of}
use Rattle.catalogue_rules.specs.Reading.{catalogue, count_field, file_of, parsed, read, addresses_of, is_among, any_twice}
use Rattle.catalogue_rules.specs.RoundTrip.{Bytes}
use Rattle.catalogue_rules.specs.Cards.{versions_from}
use Rattle.catalogue_rules.specs.Archive.{address_in}
use Rattle.catalogue_rules.specs.Edit.{on_catalogue, added_to, version_fields, with_version, latest_number}
use Rattle.catalogue_rules.specs.Put.{put_at}
use Rattle.catalogue_rules.specs.PutContracts.{Writes}
use Rattle.catalogue_put.specs.Places.{card_place, card_end}
use Rattle.catalogue_add.proofs.Taken.{Parsed}
use Rattle.catalogue_add.proofs.New.{versions_new, five_least, card_new, card_new_length, place-fits, version_new, version_new_length}
use Rattle.catalogue_add.proofs.Choice.{Chooses, sound, room_for_card, room_for_version, card_choice, version_choice, was_sound}

module _ {file : List ℕ} {cards n : ℕ} (p : Parsed file cards n) (image : List ℕ) {twice : Bool} (t : twice ≡ any_twice (addresses_of (fields_of file))) where
  -- A card that is not there.
  module _ (y : is_among (address_of (address_in image)) (addresses_of (fields_of file)) ≡ false) where
    pub card_added : Chooses (on_catalogue (parsed file) (added_to image)) (leb 64 cards || ltb 65532 n) twice (check_of image) (file_of (p.those ++ (field 1 (address_in image) ∷ version_fields 1 image)))
    card_added = card_choice file p.those p.is_parsed image p.listed p.many t y

    module _ (b : Bytes file) (l : length image ≡ 128) (h : (leb 64 cards || ltb 65532 n) ≡ false) (w : twice ≡ false) where
      is_sound : read file ≡ catalogue p.those
      is_sound = was_sound file p.those p.is_parsed image p.listed p.many t (room_for_card cards n h) w

      pub holds_count : 5 ≤ length file
      holds_count = five_least file p.those b is_sound image l p.many

      pub card_written : {node : Node} → Ok node ≡ check_of image → (area : List ℕ) {after : List ℕ} {r : ℕ} → r ≡ length file + 145
          → after ≡ put_at area 0 (take (length file - 5) file ++ (bytes_of (field 1 (address_in image) ∷ version_fields 1 image) ++ bytes_of (count_field (n + 3) ∷ [])))
          → Writes (on_catalogue (parsed file) (added_to image)) (Ok r) area after
      card_written u area m e =
          sound card_added area h w u _ _ (m ∙ sym (card_new_length file p.those b is_sound image l p.many)) (e ∙ ap (put_at area 0) (sym (card_new file p.those b is_sound image l p.many)))

  -- One that is: its fields begin at a place.
  module _ (y : is_among (address_of (address_in image)) (addresses_of (fields_of file)) ≡ true) {at v last : ℕ} (at_is : at ≡ card_place (address_of (address_in image)) (fields_of file))
      (many : v ≡ length (versions_from 0 (fields_of (drop at file)))) (latest : last ≡ latest_number (versions_from 0 (fields_of (drop at file)))) where
    pub version_added : Chooses (on_catalogue (parsed file) (added_to image)) (ltb 64 cards || (leb 8 v || (leb 65535 last || ltb 65533 n))) twice (check_of image)
        (file_of (with_version (address_of (address_in image)) (version_fields (last + 1) image) p.those))
    version_added =
        version_choice file p.those p.is_parsed image p.listed p.many t y (many ∙ ap length (versions_new file p.those p.is_parsed (address_of (address_in image)) at_is))
        (latest ∙ ap latest_number (versions_new file p.those p.is_parsed (address_of (address_in image)) at_is))

    module _ (b : Bytes file) (l : length image ≡ 128) (h : (ltb 64 cards || (leb 8 v || (leb 65535 last || ltb 65533 n))) ≡ false) (w : twice ≡ false)
        {place : ℕ} (end_is : place ≡ at + card_end (fields_of (drop at file))) where
      was_read : read file ≡ catalogue p.those
      was_read = was_sound file p.those p.is_parsed image p.listed p.many t (room_for_version cards v last n h) w

      pub place_within : place + 5 ≤ length file
      place_within = place-fits file p.those b was_read image l p.many (address_of (address_in image)) at_is end_is y

      pub version_written : {node : Node} → Ok node ≡ check_of image → (area : List ℕ) {after : List ℕ} {r : ℕ} → r ≡ length file + 136
          → after ≡ put_at area 0 (take place file ++ (bytes_of (version_fields (last + 1) image) ++ (take (length file - 5 - place) (drop place file) ++ bytes_of (count_field (n + 2) ∷ []))))
          → Writes (on_catalogue (parsed file) (added_to image)) (Ok r) area after
      version_written u area m e =
          sound version_added area h w u _ _ (m ∙ sym (version_new_length file p.those b was_read image l p.many (address_of (address_in image)) at_is end_is y (last + 1)))
          (e ∙ ap (put_at area 0) (sym (version_new file p.those b was_read image l p.many (address_of (address_in image)) at_is end_is y (last + 1))))
