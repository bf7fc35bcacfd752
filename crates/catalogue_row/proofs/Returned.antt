-- Out after in, through the two calls.
-- Assumes nothing.
use Prim.Native.Nat.{ℕ, zero, suc, ◌+◌, ◌*◌, ◌/◌, ◌%◌, ◌≤◌}
use mathlib.Core.Path.{◌≡◌, refl, sym, ap, ◌∙◌}
use mathlib.Core.Bool.{Bool, true, false, ◌||◌, false≢true}
use mathlib.Core.List.{List, [], ◌∷◌, ◌++◌}
use native.Mathlib.Omega.{arith}
use lib.ListN.{length, take, drop, length-drop, take-append-drop}
use lib.Seq.{take_at}
use Rattle.std.specs.Prelude.{Result, Ok, Err}
use Rattle.refusal.specs.declared.Refusal.{Refusal}
use Rattle.refusal.specs.declared.Refusal.TheVariants.{MakerWrong, ChecksumWrong, SecondaryWrong}
use Rattle.image_rules.specs.declared.Node.{Node}
use Rattle.image_rules.specs.Image.{check_of}
use Rattle.catalogue_rules.specs.Reading.{catalogue, read, file_of, any_twice}
use Rattle.catalogue_rules.specs.Archive.{row_of, moved_in, moved_out, is_sound, AllSound, addresses_in, BackAsItCame}
use Rattle.catalogue_rules.proofs.OutAfter.{out_after_in_lem}
use Rattle.catalogue_rules.specs.Edit.{Change, bytes, or_else, images_within, images_in, is_for, any_for, imported, exported}
use Rattle.catalogue_rules.specs.Put.{answer_of, area_after}
use Rattle.catalogue_row.specs.Back.{out_again, ComesBack, RowComesBack}
use Rattle.catalogue_row.proofs.Ways.{or_all, apartly}
use Rattle.catalogue_row.proofs.Fitting.{exported_fields}

-- An archive is the row of its images.
row_within : (n : ℕ) (row : List ℕ) → length row ≡ 128 * n → row_of (images_within n row) ≡ row
unfolding images_within row_of
row_within zero [] e = refl
row_within zero (x ∷ row) e = absurd (omega arith)
row_within (suc n) row e =
    ap (λ (l : List ℕ). take 128 row ++ l) (row_within n (drop 128 row) (simp length-drop (omega arith)))
    ∙ take-append-drop 128 row

count-within : (n : ℕ) (row : List ℕ) → length (images_within n row) ≡ n
unfolding images_within
count-within zero row = refl
count-within (suc n) row = ap suc (count-within n (drop 128 row))

-- All sound: none is refused for any reason.
not_for : (why : Refusal) (k : Result Node Refusal) (rest : Bool) → is_sound k ≡ true → rest ≡ false → is_for why k || rest ≡ false
not_for why (Ok node) rest e h = h
not_for why (Err other) rest e h = absurd (false≢true e)

none_for : (why : Refusal) (images : List (List ℕ)) → AllSound images → any_for why images ≡ false
unfolding AllSound any_for
none_for why [] s = refl
none_for why (image ∷ images) s = not_for why (check_of image) (any_for why images) s.0 (none_for why images s.1)

module _ (row area out : List ℕ) (even : length row % 128 ≡ 0) (few : length row / 128 ≤ 64) (all : AllSound (images_in row)) (apart : any_twice (addresses_in (images_in row)) ≡ false)
    (fits : 145 * (length row / 128) + 5 ≤ length area) (room : 8192 ≤ length out) where
  file : List ℕ
  file = file_of (moved_in (images_in row))

  goes_in : imported (length area) row ≡ bytes file
  unfolding file or_all
  goes_in =
      apartly area row fits even few refl (sym apart) refl
      ∙ ap (λ (b : Bool). or_else b MakerWrong (or_all (ChecksumWrong ∷ SecondaryWrong ∷ []) (images_in row) (bytes file))) (none_for MakerWrong (images_in row) all)
      ∙ ap (λ (b : Bool). or_else b ChecksumWrong (or_all (SecondaryWrong ∷ []) (images_in row) (bytes file))) (none_for ChecksumWrong (images_in row) all)
      ∙ ap (λ (b : Bool). or_else b SecondaryWrong (bytes file)) (none_for SecondaryWrong (images_in row) all)

  back : BackAsItCame (images_in row)
  unfolding images_in
  back = let n : length (images_within (length row / 128) row) ≡ length row / 128 = count-within (length row / 128) row in out_after_in_lem (images_in row) (omega arith) all apart

  is_read : read file ≡ catalogue (moved_in (images_in row))
  unfolding file
  is_read = back.accepted

  is_row : moved_out (moved_in (images_in row)) ≡ row
  unfolding images_in
  is_row = back.same ∙ row_within (length row / 128) row (omega arith)

  comes_out : out_again row area out (length file) ≡ bytes row
  comes_out =
      ap (λ (c : Change). exported (length out) (take (length file) (area_after c area))) goes_in
      ∙ ap (exported (length out)) (take_at file (drop (length file) area) (length file) refl)
      ∙ exported_fields (length out) room file (moved_in (images_in row)) is_read
      ∙ ap bytes is_row

  returned : ComesBack row area out
  returned =
      record {
        n = length file;
        moved_in = ap answer_of goes_in;
        written_out = ap answer_of comes_out;
        same = ap (λ (c : Change). take (length row) (area_after c out)) comes_out ∙ take_at row (drop (length row) out) (length row) refl;
      }

pub row_comes_back_lem : RowComesBack
row_comes_back_lem row area out even few all apart fits room = returned row area out even few all apart fits room
