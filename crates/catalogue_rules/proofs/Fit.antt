-- What is accepted is well-formed: the fields passed one by one in their turn, each length was two bytes, and so was the count.
-- Assumes nothing.
use Prim.Native.Nat.{ℕ, zero, suc, ◌+◌, ◌<◌}
use mathlib.Core.Path.{◌≡◌, refl, sym, ap, ap₂, subst, ◌∙◌}
use mathlib.Core.Bool.{Bool, true, false, cond, ◌&&◌, not}
use mathlib.Core.List.{List, [], ◌∷◌, ◌++◌}
use native.Mathlib.Omega.{arith}
use borrow.Author.Tests.{leb-true}
use lib.ListN.{length, get_or, take, drop, length-take}
use lib.Dec.{eqb, leb}
use Rattle.refusal.specs.declared.Refusal.{Refusal}
use Rattle.refusal.specs.declared.Refusal.TheVariants.{FieldDamaged}
use Rattle.catalogue_rules.specs.Field.{Field, field, number_at, is_whole, first, behind, fields_within, fields_of, left_of}
use Rattle.catalogue_rules.specs.declared.Turn.{Turn}
use Rattle.catalogue_rules.specs.declared.Turn.TheVariants.{Begun}
use Rattle.catalogue_rules.specs.Turns.{after, may_end, is_damaged}
use Rattle.catalogue_rules.specs.Reading.{Reading, catalogue, refused, with, is_last, ends, reading, addresses_of, any_twice, roomy, read}
use Rattle.catalogue_rules.proofs.Bools.{and_left}
use Rattle.catalogue_rules.proofs.Came.{Came, came, roomy-only}
use Rattle.catalogue_rules.specs.RoundTrip.{in_turn, Sizes, Bytes, AcceptedIsWellFormed}
use Rattle.catalogue_rules.proofs.Back.{AllBytes, all_bytes, bytes_drop, last-bytes}

-- ---- turns

turn_last : (t : Bool) (turn : Turn) (n : ℕ) (f : Field) (l : Bool) (fs : List Field) → ends turn n f l ≡ t
    → cond t (catalogue []) (refused FieldDamaged) ≡ catalogue fs → in_turn turn fs ≡ true
unfolding in_turn
turn_last false turn n f l fs t e = let z : ◌≡◌ {A = ℕ} 0 1 = cc in absurd (omega arith)
turn_last true turn n f l fs t e =
    let q : [] ≡ fs = cc in
    ap (in_turn turn) (sym q) ∙ and_left (may_end turn) (eqb (length f.value) 2 && (eqb (number_at f.value 0) n && l)) t

turn_on : (r : Reading) (turn : Turn) (f : Field) (fs : List Field) → eqb f.tag 4 ≡ false → is_damaged (after turn f) ≡ false
    → ((hs : List Field) → r ≡ catalogue hs → in_turn (after turn f) hs ≡ true) → with f r ≡ catalogue fs → in_turn turn fs ≡ true
unfolding in_turn
turn_on (refused why) turn f fs a d ih e = let z : ◌≡◌ {A = ℕ} 0 1 = cc in absurd (omega arith)
turn_on (catalogue hs) turn f fs a d ih e =
    let q : f ∷ hs ≡ fs = cc in
    ap (in_turn turn) (sym q)
    ∙ ap₂ (λ (x y : Bool). not x && (not y && in_turn (after turn f) hs)) a d
    ∙ ih hs refl

turn_if : (a d : Bool) (turn : Turn) (n : ℕ) (f : Field) (l : Bool) (r : Reading) (fs : List Field) → eqb f.tag 4 ≡ a → is_damaged (after turn f) ≡ d
    → ((hs : List Field) → r ≡ catalogue hs → in_turn (after turn f) hs ≡ true)
    → cond a (cond (ends turn n f l) (catalogue []) (refused FieldDamaged)) (cond d (refused FieldDamaged) (with f r)) ≡ catalogue fs
    → in_turn turn fs ≡ true
turn_if true d turn n f l r fs a b ih e = turn_last (ends turn n f l) turn n f l fs refl e
turn_if false true turn n f l r fs a b ih e = let z : ◌≡◌ {A = ℕ} 0 1 = cc in absurd (omega arith)
turn_if false false turn n f l r fs a b ih e = turn_on r turn f fs a b ih e

in_turn_lem : (gs : List Field) (turn : Turn) (n : ℕ) (left : List ℕ) (fs : List Field) → reading turn n gs left ≡ catalogue fs → in_turn turn fs ≡ true
unfolding reading
in_turn_lem [] turn n left fs e = let z : ◌≡◌ {A = ℕ} 0 1 = cc in absurd (omega arith)
in_turn_lem (f ∷ gs) turn n left fs e =
    turn_if (eqb f.tag 4) (is_damaged (after turn f)) turn n f (is_last gs left) (reading (after turn f) (n + 1) gs left) fs refl refl
    (λ hs h. in_turn_lem gs (after turn f) (n + 1) left hs h) e

-- ---- sizes

one_size : (bytes : List ℕ) → Bytes bytes → length (take (number_at bytes 1) (drop 3 bytes)) < 65536
one_size bytes b =
    let low : get_or bytes 1 0 < 256 = b 1 in
    let high : get_or bytes 2 0 < 256 = b 2 in
    simp length-take (omega arith)

sizes-if : (t : Bool) (n : ℕ) (bytes : List ℕ) → Bytes bytes → Sizes (fields_within n (behind bytes))
    → Sizes (cond t (first bytes ∷ fields_within n (behind bytes)) [])
unfolding Sizes
sizes-if false n bytes b ih = tt
sizes-if true n bytes b ih = (one_size bytes b, ih)

sizes_fields : (n : ℕ) (bytes : List ℕ) → Bytes bytes → Sizes (fields_within n bytes)
unfolding Sizes fields_within
sizes_fields zero bytes b = tt
sizes_fields (suc n) bytes b = sizes-if (is_whole bytes) n bytes b (sizes_fields n (behind bytes) (bytes_drop (3 + number_at bytes 1) bytes b))

all_sizes : (file : List ℕ) → Bytes file → Sizes (fields_of file)
unfolding fields_of
all_sizes file b = sizes_fields (length file) file b

sizes-before : (fs gs : List Field) → Sizes (fs ++ gs) → Sizes fs
unfolding Sizes
sizes-before [] gs s = tt
sizes-before (f ∷ fs) gs s = (s.0, sizes-before fs gs s.1)

-- ---- cards

roomy-cards : (a b : Bool) (fs gs : List Field) (why more : Refusal) → cond a (cond b (refused why) (catalogue gs)) (refused more) ≡ catalogue fs → a ≡ true
roomy-cards true b fs gs why more e = refl
roomy-cards false b fs gs why more e = let z : ◌≡◌ {A = ℕ} 0 1 = cc in absurd (omega arith)

roomy-apart : (a b : Bool) (fs gs : List Field) (why more : Refusal) → cond a (cond b (refused why) (catalogue gs)) (refused more) ≡ catalogue fs → b ≡ false
roomy-apart true true fs gs why more e = let z : ◌≡◌ {A = ℕ} 0 1 = cc in absurd (omega arith)
roomy-apart true false fs gs why more e = refl
roomy-apart false b fs gs why more e = let z : ◌≡◌ {A = ℕ} 0 1 = cc in absurd (omega arith)

module _ (file : List ℕ) (fs : List Field) (b : Bytes file) (e : read file ≡ catalogue fs) where
  was_read_lem : reading Begun 0 (fields_of file) (left_of file) ≡ catalogue fs
  unfolding read
  was_read_lem = roomy-only (reading Begun 0 (fields_of file) (left_of file)) fs e

  room : roomy (catalogue fs) ≡ catalogue fs
  unfolding read
  room = ap roomy (sym was_read_lem) ∙ e

  came_so : Came 0 (fields_of file) (left_of file) fs
  came_so = came (fields_of file) Begun 0 (left_of file) fs was_read_lem

  few_fields : length fs < 65536
  few_fields =
      let v : Bytes came_so.value = last-bytes fs came_so.value (subst (λ (gs : List Field). AllBytes gs) came_so.are (all_bytes file b)) in
      let low : get_or came_so.value 0 0 < 256 = v 0 in
      let high : get_or came_so.value 1 0 < 256 = v 1 in
      let k : number_at came_so.value 0 ≡ 0 + length fs = came_so.count in
      omega arith

pub accepted_is_well_formed_lem : AcceptedIsWellFormed
accepted_is_well_formed_lem file fs b e =
    record {
      turns = in_turn_lem (fields_of file) Begun 0 (left_of file) fs (was_read_lem file fs b e);
      sizes = sizes-before fs (field 4 (came_so file fs b e).value ∷ []) (subst (λ (gs : List Field). Sizes gs) (came_so file fs b e).are (all_sizes file b));
      counted = few_fields file fs b e;
      cards = leb-true (length (addresses_of fs)) 64 (roomy-cards (leb (length (addresses_of fs)) 64) (any_twice (addresses_of fs)) fs fs _ _ (room file fs b e));
      apart = roomy-apart (leb (length (addresses_of fs)) 64) (any_twice (addresses_of fs)) fs fs _ _ (room file fs b e);
    }
