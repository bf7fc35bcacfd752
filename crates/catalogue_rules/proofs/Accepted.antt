-- What a lookup answers of a file whose fields were taken in turn: the count at its end is no card and no version.
-- Assumes nothing.
use Prim.Native.Nat.{ℕ, ◌+◌}
use mathlib.Core.Path.{◌≡◌, refl, sym, ap, ap₂, ◌∙◌}
use mathlib.Core.Bool.{Bool, true, false, cond, ◌&&◌, ◌||◌}
use mathlib.Core.List.{List, [], ◌∷◌, ◌++◌}
use native.Mathlib.Omega.{arith}
use lib.ListN.{length}
use lib.Dec.{eqb, leb}
use Rattle.std.specs.Prelude.{Result, Ok, Err}
use Rattle.catalogue_rules.specs.declared.Counts.{Counts}
use Rattle.catalogue_rules.specs.declared.Span.{Span}
use Rattle.refusal.specs.declared.Refusal.{Refusal}
use Rattle.refusal.specs.declared.Refusal.TheVariants.{NoSuchCard}
use Rattle.catalogue_rules.specs.Field.{Field, field, number_at, fields_of, left_of}
use Rattle.catalogue_rules.specs.declared.Turn.TheVariants.{Begun}
use Rattle.catalogue_rules.specs.Turns.{address_of}
use Rattle.catalogue_rules.specs.Reading.{Reading, catalogue, refused, parsed, addresses_of, any_twice, is_among, read, judged, counts}
use Rattle.catalogue_rules.specs.Cards.{Version, versions_from, versions_at}
use Rattle.catalogue_rules.proofs.Came.{Came, came, roomy-only, same_addresses}
use Rattle.catalogue_rules.specs.declared.Hit.{Hit}
use Rattle.catalogue_rules.specs.Lookup.{Spot, spot, spots_from, spots_at, last_spot, numbered_spot, where_sound, latest_in, given_in, in_override, in_main, else_main, looked_up}
use Rattle.catalogue_rules.specs.LookupWalk.{found_in, main_in}

pub from-append : (fs : List Field) (n : ℕ) (v : List ℕ) → versions_from n (fs ++ (field 4 v ∷ [])) ≡ versions_from n fs
unfolding versions_from
from-append [] n v = refl
from-append (f ∷ fs) n v =
    ap₂ (λ (x y : List Version). cond (eqb f.tag 1) [] (cond (eqb f.tag 2) x (cond (eqb f.tag 3) (record { number = n; image = f.value } ∷ y) y)))
    (from-append fs (number_at f.value 0) v) (from-append fs n v)

at_append : (fs : List Field) (a : ℕ) (v : List ℕ) → versions_at a (fs ++ (field 4 v ∷ [])) ≡ versions_at a fs
unfolding versions_at
at_append [] a v = refl
at_append (f ∷ fs) a v =
    ap₂ (λ (x y : List Version). cond (eqb f.tag 1) (cond (eqb (address_of f.value) a) x y) y) (from-append fs 0 v) (at_append fs a v)

spots_from_append : (fs : List Field) (at n : ℕ) (v : List ℕ) → spots_from at n (fs ++ (field 4 v ∷ [])) ≡ spots_from at n fs
unfolding spots_from
spots_from_append [] at n v = refl
spots_from_append (f ∷ fs) at n v =
    ap₂ (λ (x y : List Spot). cond (eqb f.tag 1) [] (cond (eqb f.tag 2) x (cond (eqb f.tag 3) (spot n (at + 3) (length f.value) ∷ y) y)))
    (spots_from_append fs (at + (3 + length f.value)) (number_at f.value 0) v) (spots_from_append fs (at + (3 + length f.value)) n v)

spots_append : (fs : List Field) (a at : ℕ) (v : List ℕ) → spots_at a at (fs ++ (field 4 v ∷ [])) ≡ spots_at a at fs
unfolding spots_at
spots_append [] a at v = refl
spots_append (f ∷ fs) a at v =
    ap₂ (λ (x y : List Spot). cond (eqb f.tag 1 && eqb (address_of f.value) a) x y) (spots_from_append fs (at + (3 + length f.value)) 0 v)
    (spots_append fs a (at + (3 + length f.value)) v)

-- The catalogue that a file was read as has the versions, the addresses and the places of the file's fields.
module _ (file : List ℕ) (fs : List Field) (e : parsed file ≡ catalogue fs) where
  pub addresses_parsed : addresses_of (fields_of file) ≡ addresses_of fs
  addresses_parsed = same_addresses (fields_of file) Begun 0 (left_of file) fs e

  pub versions-parsed : (a : ℕ) → versions_at a (fields_of file) ≡ versions_at a fs
  versions-parsed a =
      let c : Came 0 (fields_of file) (left_of file) fs = came (fields_of file) Begun 0 (left_of file) fs e in
      ap (versions_at a) c.are ∙ at_append fs a c.value

  pub spots_parsed : (a : ℕ) → spots_at a 0 (fields_of file) ≡ spots_at a 0 fs
  spots_parsed a =
      let c : Came 0 (fields_of file) (left_of file) fs = came (fields_of file) Begun 0 (left_of file) fs e in
      ap (spots_at a 0) c.are ∙ spots_append fs a 0 c.value

module _ (file : List ℕ) (fs : List Field) (e : read file ≡ catalogue fs) where
  pub was_read_lem : parsed file ≡ catalogue fs
  unfolding read
  was_read_lem = roomy-only (parsed file) fs e

  pub addresses_read : addresses_of (fields_of file) ≡ addresses_of fs
  addresses_read = addresses_parsed file fs was_read_lem

-- By cases on what it was read as.
module _ (a : ℕ) where
  latest-refused : (r : Reading) (why : Refusal) → Err why ≡ judged r → Err why ≡ latest_in a r
  unfolding latest_in
  latest-refused (catalogue fs) why e = let z : ◌≡◌ {A = ℕ} 0 1 = cc in absurd (omega arith)
  latest-refused (refused other) why e = let q : why ≡ other = cc in ap Err q

  given-refused : (n : ℕ) (r : Reading) (why : Refusal) → Err why ≡ judged r → Err why ≡ given_in a n r
  unfolding given_in
  given-refused n (catalogue fs) why e = let z : ◌≡◌ {A = ℕ} 0 1 = cc in absurd (omega arith)
  given-refused n (refused other) why e = let q : why ≡ other = cc in ap Err q

  main-refused : (own : List Field) (r : Reading) (why : Refusal) → Err why ≡ judged r → Err why ≡ else_main a own r
  unfolding else_main
  main-refused own (catalogue fs) why e = let z : ◌≡◌ {A = ℕ} 0 1 = cc in absurd (omega arith)
  main-refused own (refused other) why e = let q : why ≡ other = cc in ap Err q

  looked-refused : (r main : Reading) (why : Refusal) → Err why ≡ judged r → Err why ≡ looked_up a r main
  unfolding looked_up
  looked-refused (catalogue fs) main why e = let z : ◌≡◌ {A = ℕ} 0 1 = cc in absurd (omega arith)
  looked-refused (refused other) main why e = let q : why ≡ other = cc in ap Err q

  -- The same place, found among the file's fields and among the catalogue's.
  found-if : (file : List ℕ) (fs : List Field) (c k : ℕ) → parsed file ≡ catalogue fs → Ok (counts c k) ≡ judged (catalogue fs) → (p q : Result Span Refusal) → p ≡ q
      → found_in c file p ≡ where_sound (leb (length (addresses_of fs)) 64) (any_twice (addresses_of fs)) q
  found-if file fs c k q e p p' same =
      let same-counts : counts c k ≡ counts (length (addresses_of fs)) (length fs) = cc in
      let l : c ≡ length (addresses_of fs) = ap (λ (told : Counts). told.cards) same-counts in
      ap (λ (n : ℕ). where_sound (leb n 64) (any_twice (addresses_of (fields_of file))) p) l
      ∙ ap₂ (λ (those : List ℕ) (x : Result Span Refusal). where_sound (leb (length (addresses_of fs)) 64) (any_twice those) x) (addresses_parsed file fs q) same

  latest-if : (file : List ℕ) (r : Reading) (c k : ℕ) → parsed file ≡ r → Ok (counts c k) ≡ judged r
      → found_in c file (last_spot (Err NoSuchCard) (spots_at a 0 (fields_of file))) ≡ latest_in a r
  unfolding latest_in
  latest-if file (refused other) c k q e = let z : ◌≡◌ {A = ℕ} 0 1 = cc in absurd (omega arith)
  latest-if file (catalogue fs) c k q e = found-if file fs c k q e _ _ (ap (last_spot (Err NoSuchCard)) (spots_parsed file fs q a))

  given-if : (n : ℕ) (file : List ℕ) (r : Reading) (c k : ℕ) → parsed file ≡ r → Ok (counts c k) ≡ judged r
      → found_in c file (numbered_spot n (spots_at a 0 (fields_of file))) ≡ given_in a n r
  unfolding given_in
  given-if n file (refused other) c k q e = let z : ◌≡◌ {A = ℕ} 0 1 = cc in absurd (omega arith)
  given-if n file (catalogue fs) c k q e = found-if file fs c k q e _ _ (ap (numbered_spot n) (spots_parsed file fs q a))

  module _ (file : List ℕ) where
    pub refused_latest : (why : Refusal) → Err why ≡ judged (parsed file) → Err why ≡ latest_in a (parsed file)
    refused_latest why e = latest-refused (parsed file) why e

    pub refused_given : (n : ℕ) (why : Refusal) → Err why ≡ judged (parsed file) → Err why ≡ given_in a n (parsed file)
    refused_given n why e = given-refused n (parsed file) why e

    pub refused_looked : (main : Reading) (why : Refusal) → Err why ≡ judged (parsed file) → Err why ≡ looked_up a (parsed file) main
    refused_looked main why e = looked-refused (parsed file) main why e

    module _ (c k : ℕ) (e : Ok (counts c k) ≡ judged (parsed file)) where
      pub sound_latest : found_in c file (last_spot (Err NoSuchCard) (spots_at a 0 (fields_of file))) ≡ latest_in a (parsed file)
      sound_latest = latest-if file (parsed file) c k refl e

      pub sound_given : (n : ℕ) → found_in c file (numbered_spot n (spots_at a 0 (fields_of file))) ≡ given_in a n (parsed file)
      sound_given n = given-if n file (parsed file) c k refl e

-- ---- two files

module _ (a : ℕ) (own : List ℕ) where
  has-if : (r main : Reading) (c k : ℕ) → parsed own ≡ r → Ok (counts c k) ≡ judged r → is_among a (addresses_of (fields_of own)) ≡ true
      → in_override (found_in c own (last_spot (Err NoSuchCard) (spots_at a 0 (fields_of own)))) ≡ looked_up a r main
  unfolding looked_up
  has-if (refused other) main c k q e y = let z : ◌≡◌ {A = ℕ} 0 1 = cc in absurd (omega arith)
  has-if (catalogue fs) main c k q e y =
      ap in_override (latest-if a own (catalogue fs) c k q e)
      ∙ ap (λ (b : Bool). cond b (in_override (latest_in a (catalogue fs))) (else_main a fs main)) (sym (ap (is_among a) (sym (addresses_parsed own fs q)) ∙ y))

  lacks_if : (r m : Reading) (c k : ℕ) → parsed own ≡ r → Ok (counts c k) ≡ judged r → is_among a (addresses_of (fields_of own)) ≡ false
      → (h : Result Hit Refusal) → ((fs : List Field) → r ≡ catalogue fs → h ≡ else_main a fs m) → h ≡ looked_up a r m
  unfolding looked_up
  lacks_if (refused other) m c k q e y h f = let z : ◌≡◌ {A = ℕ} 0 1 = cc in absurd (omega arith)
  lacks_if (catalogue fs) m c k q e y h f =
      f fs refl ∙ ap (λ (b : Bool). cond b (in_override (latest_in a (catalogue fs))) (else_main a fs m)) (sym (ap (is_among a) (sym (addresses_parsed own fs q)) ∙ y))

  else_if : (fs : List Field) (main : List ℕ) (m : Reading) (c k d l : ℕ) → parsed own ≡ catalogue fs → Ok (counts c k) ≡ judged (catalogue fs)
      → parsed main ≡ m → Ok (counts d l) ≡ judged m
      → main_in c d own main (last_spot (Err NoSuchCard) (spots_at a 0 (fields_of main))) ≡ else_main a fs m
  unfolding else_main
  else_if fs main (refused other) c k d l q e q' e' = let z : ◌≡◌ {A = ℕ} 0 1 = cc in absurd (omega arith)
  else_if fs main (catalogue gs) c k d l q e q' e' =
      let own-counts : counts c k ≡ counts (length (addresses_of fs)) (length fs) = cc in
      let main-counts : counts d l ≡ counts (length (addresses_of gs)) (length gs) = cc in
      let x : c ≡ length (addresses_of fs) = ap (λ (told : Counts). told.cards) own-counts in
      let y : d ≡ length (addresses_of gs) = ap (λ (told : Counts). told.cards) main-counts in
      ap in_main
      (ap₂ (λ (n m : ℕ). where_sound (leb n 64 && leb m 64) (any_twice (addresses_of (fields_of own)) || any_twice (addresses_of (fields_of main))) (last_spot (Err NoSuchCard) (spots_at a 0 (fields_of main)))) x y
      ∙ ap₂ (λ (n m : List ℕ). where_sound (leb (length (addresses_of fs)) 64 && leb (length (addresses_of gs)) 64) (any_twice n || any_twice m) (last_spot (Err NoSuchCard) (spots_at a 0 (fields_of main))))
      (addresses_parsed own fs q) (addresses_parsed main gs q')
      ∙ ap (λ (ss : List Spot). where_sound (leb (length (addresses_of fs)) 64 && leb (length (addresses_of gs)) 64) (any_twice (addresses_of fs) || any_twice (addresses_of gs)) (last_spot (Err NoSuchCard) ss)) (spots_parsed main gs q' a))

  module _ (c k : ℕ) (e : Ok (counts c k) ≡ judged (parsed own)) where
    pub override_has : (main : Reading) (t : Bool) → t ≡ is_among a (addresses_of (fields_of own)) → t ≡ true
        → in_override (found_in c own (last_spot (Err NoSuchCard) (spots_at a 0 (fields_of own)))) ≡ looked_up a (parsed own) main
    override_has main t l y = has-if (parsed own) main c k refl e (sym l ∙ y)

    pub main_is_refused : (main : List ℕ) (t : Bool) → t ≡ is_among a (addresses_of (fields_of own)) → t ≡ false
        → (why : Refusal) → Err why ≡ judged (parsed main) → Err why ≡ looked_up a (parsed own) (parsed main)
    main_is_refused main t l y why e' = lacks_if (parsed own) (parsed main) c k refl e (sym l ∙ y) _ (λ fs q. main-refused a fs (parsed main) why e')

    pub main_has : (main : List ℕ) (t : Bool) → t ≡ is_among a (addresses_of (fields_of own)) → t ≡ false
        → (d m : ℕ) → Ok (counts d m) ≡ judged (parsed main)
        → main_in c d own main (last_spot (Err NoSuchCard) (spots_at a 0 (fields_of main))) ≡ looked_up a (parsed own) (parsed main)
    main_has main t l y d m e' =
        lacks_if (parsed own) (parsed main) c k refl e (sym l ∙ y) _
        (λ fs q. else_if fs main (parsed main) c k d m q (e ∙ ap judged q) refl e')
