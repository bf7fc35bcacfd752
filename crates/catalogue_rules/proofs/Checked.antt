-- The ways through the check behind the walk.
-- Assumes nothing.
use Prim.Native.Nat.{ℕ, ◌≤◌, ◌<◌}
use mathlib.Core.Path.{◌≡◌, refl, sym, ap, ◌∙◌}
use mathlib.Core.Bool.{Bool, true, false, cond}
use mathlib.Core.List.{List}
use native.Mathlib.Omega.{arith}
use borrow.Author.Tests.{le-leb, lt-leb}
use lib.ListN.{length}
use Rattle.std.specs.Prelude.{Ok, Err}
use Rattle.refusal.specs.declared.Refusal.{Refusal}
use Rattle.refusal.specs.declared.Refusal.TheVariants.{NoPlace, ListedTwice}
use Rattle.catalogue_rules.specs.declared.Counts.{Counts}
use Rattle.catalogue_rules.specs.Field.{Field, fields_of, left_of}
use Rattle.catalogue_rules.specs.declared.Turn.TheVariants.{Begun}
use Rattle.catalogue_rules.specs.Reading.{Reading, catalogue, refused, reading, parsed, has_room, addresses_of, any_twice, roomy, read, judged, counts}
use Rattle.catalogue_rules.proofs.Came.{same_addresses}

refused-if : (r : Reading) (why : Refusal) → Err why ≡ judged r → Err why ≡ judged (roomy r)
refused-if (refused other) why e = e
refused-if (catalogue fs) why e = let z : ◌≡◌ {A = ℕ} 0 1 = cc in absurd (omega arith)

crowded_if : (r : Reading) (c k : ℕ) → Ok (counts c k) ≡ judged r → 64 < c → Err NoPlace ≡ judged (roomy r)
crowded_if (refused other) c k e h = let z : ◌≡◌ {A = ℕ} 0 1 = cc in absurd (omega arith)
crowded_if (catalogue fs) c k e h =
    let same-counts : counts c k ≡ counts (length (addresses_of fs)) (length fs) = cc in
    let q : c ≡ length (addresses_of fs) = ap (λ (told : Counts). told.cards) same-counts in rw (lt-leb (length (addresses_of fs)) 64 (omega arith))

module _ (gs : List Field) (r : Reading) (same : (fs : List Field) → r ≡ catalogue fs → addresses_of gs ≡ addresses_of fs) where
  settled : (fs : List Field) → r ≡ catalogue fs → (c k : ℕ) → Ok (counts c k) ≡ judged r → c ≤ 64 → (t : Bool) → t ≡ any_twice (addresses_of gs)
      → cond t (refused ListedTwice) (catalogue fs) ≡ roomy r
  settled fs q c k e h t tw =
      let s : Ok (counts c k) ≡ judged (catalogue fs) = e ∙ ap judged q in
      let same-counts : counts c k ≡ counts (length (addresses_of fs)) (length fs) = cc in
      let l : c ≡ length (addresses_of fs) = ap (λ (told : Counts). told.cards) same-counts in
      ap (λ (b : Bool). cond b (refused ListedTwice) (catalogue fs)) (tw ∙ ap any_twice (same fs q))
      ∙ ap (λ (b : Bool). cond b (cond (any_twice (addresses_of fs)) (refused ListedTwice) (catalogue fs)) (refused NoPlace)) (sym (le-leb (length (addresses_of fs)) 64 (omega arith)))
      ∙ ap roomy (sym q)

  settled_if : (r' : Reading) → r ≡ r' → (c k : ℕ) → Ok (counts c k) ≡ judged r → c ≤ 64 → (t : Bool) → t ≡ any_twice (addresses_of gs)
      → cond t (Err ListedTwice) (Ok (counts c k)) ≡ judged (roomy r)
  settled_if (refused other) q c k e h t tw = let s : Ok (counts c k) ≡ Err other = e ∙ ap judged q in let z : ◌≡◌ {A = ℕ} 0 1 = cc in absurd (omega arith)
  settled_if (catalogue fs) q c k e h true tw = ap judged (settled fs q c k e h true tw)
  settled_if (catalogue fs) q c k e h false tw = e ∙ ap judged q ∙ ap judged (settled fs q c k e h false tw)

-- Fields in turn, with room and no address twice, are a sound file.
pub is_read : (file : List ℕ) (fs : List Field) → parsed file ≡ catalogue fs → has_room fs ≡ true → any_twice (addresses_of fs) ≡ false → read file ≡ catalogue fs
unfolding read
is_read file fs e r t =
    ap roomy e
    ∙ ap (λ (b : Bool). cond b (cond (any_twice (addresses_of fs)) (refused ListedTwice) (catalogue fs)) (refused NoPlace)) r
    ∙ ap (λ (b : Bool). cond b (refused ListedTwice) (catalogue fs)) t

module _ (file : List ℕ) where
  pub is_refused_lem : (why : Refusal) → Err why ≡ judged (reading Begun 0 (fields_of file) (left_of file)) → Err why ≡ judged (read file)
  unfolding read
  is_refused_lem why e = refused-if (reading Begun 0 (fields_of file) (left_of file)) why e

  module _ (c k : ℕ) (e : Ok (counts c k) ≡ judged (reading Begun 0 (fields_of file) (left_of file))) where
    pub is_crowded : 64 < c → Err NoPlace ≡ judged (read file)
    unfolding read
    is_crowded h = crowded_if (reading Begun 0 (fields_of file) (left_of file)) c k e h

    module _ (h : c ≤ 64) {t : Bool} (tw : t ≡ any_twice (addresses_of (fields_of file))) where
      both : cond t (Err ListedTwice) (Ok (counts c k)) ≡ judged (read file)
      unfolding read
      both =
          settled_if (fields_of file) (reading Begun 0 (fields_of file) (left_of file)) (λ fs q. same_addresses (fields_of file) Begun 0 (left_of file) fs q)
          (reading Begun 0 (fields_of file) (left_of file)) refl c k e h t tw

      pub is_twice : t ≡ true → Err ListedTwice ≡ judged (read file)
      is_twice y = ap (λ (b : Bool). cond b (Err ListedTwice) (Ok (counts c k))) (sym y) ∙ both

      pub is_sound : t ≡ false → Ok (counts c k) ≡ judged (read file)
      is_sound y = ap (λ (b : Bool). cond b (Err ListedTwice) (Ok (counts c k))) (sym y) ∙ both
