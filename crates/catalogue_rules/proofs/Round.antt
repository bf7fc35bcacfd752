-- The two round trips. Fields in turn are read to the end; and what is read is the fields before a right count, with nothing behind it.
-- Assumes nothing.
use Prim.Native.Nat.{ℕ, suc, ◌+◌, ◌*◌, ◌/◌, ◌%◌, ◌≤◌, ◌<◌}
use mathlib.Core.Path.{◌≡◌, sym, ap, ap₂, subst, ◌∙◌}
use mathlib.Core.Bool.{Bool, true, false, cond, ◌&&◌, not}
use mathlib.Core.List.{List, [], ◌∷◌, ◌++◌, append-nil}
use native.Mathlib.Omega.{arith}
use borrow.Author.Tests.{eq-eqb, le-leb, not-true}
use lib.ListN.{length}
use lib.Dec.{eqb}
use Rattle.refusal.specs.declared.Refusal.TheVariants.{FieldDamaged}
use Rattle.catalogue_rules.specs.Field.{Field, field, bytes_of, number_at, fields_of, left_of}
use Rattle.catalogue_rules.specs.declared.Turn.{Turn}
use Rattle.catalogue_rules.specs.declared.Turn.TheVariants.{Begun}
use Rattle.catalogue_rules.specs.Turns.{after, may_end, is_damaged}
use Rattle.catalogue_rules.specs.Reading.{catalogue, refused, with, reading, count_field, file_of, addresses_of, any_twice, roomy, read}
use Rattle.catalogue_rules.proofs.Bools.{and_left, and_right, passes}
use Rattle.catalogue_rules.proofs.Came.{Came, came, roomy-only}
use Rattle.catalogue_rules.specs.RoundTrip.{in_turn, Sizes, Bytes, WrittenIsRead, ReadIsWritten}
use Rattle.catalogue_rules.proofs.WrittenBack.{fields_written, left-written, sizes-append}
use Rattle.catalogue_rules.proofs.Back.{written_back, AllBytes, all_bytes, last-bytes}

-- ---- what is written is read

ends_all : (m : Bool) (k n : ℕ) → m ≡ true → k ≡ n
    → cond (m && (true && (eqb k n && true))) (catalogue []) (refused FieldDamaged) ≡ catalogue []
ends_all m k n e f = rw (e, eq-eqb k n f)

pub read_in_turn : (turn : Turn) (n : ℕ) (fs : List Field) → in_turn turn fs ≡ true
    → reading turn n (fs ++ (count_field (n + length fs) ∷ [])) [] ≡ catalogue fs
unfolding reading in_turn
read_in_turn turn n [] t =
    let e : (n + 0) % 256 + 256 * ((n + 0) / 256) ≡ n = omega arith in
    ends_all (may_end turn) ((n + 0) % 256 + 256 * ((n + 0) / 256)) n t e
read_in_turn turn n (f ∷ fs) t =
    let a : eqb f.tag 4 ≡ false = not-true (eqb f.tag 4) (and_left (not (eqb f.tag 4)) (not (is_damaged (after turn f)) && in_turn (after turn f) fs) t) in
    let b : not (is_damaged (after turn f)) && in_turn (after turn f) fs ≡ true = and_right (not (eqb f.tag 4)) (not (is_damaged (after turn f)) && in_turn (after turn f) fs) t in
    let d : is_damaged (after turn f) ≡ false = not-true (is_damaged (after turn f)) (and_left (not (is_damaged (after turn f))) (in_turn (after turn f) fs) b) in
    let r : in_turn (after turn f) fs ≡ true = and_right (not (is_damaged (after turn f))) (in_turn (after turn f) fs) b in
    let e : n + suc (length fs) ≡ n + 1 + length fs = omega arith in
    passes (eqb f.tag 4) (is_damaged (after turn f)) _ (refused FieldDamaged) _ a d
    ∙ ap (λ (m : ℕ). with f (reading (after turn f) (n + 1) (fs ++ (count_field m ∷ [])) [])) e
    ∙ ap (with f) (read_in_turn (after turn f) (n + 1) fs r)

roomy_all : (fs : List Field) → length (addresses_of fs) ≤ 64 → any_twice (addresses_of fs) ≡ false → roomy (catalogue fs) ≡ catalogue fs
roomy_all fs l t = rw (le-leb (length (addresses_of fs)) 64 l, t)

count-sizes : (n : ℕ) → Sizes (count_field n ∷ [])
unfolding Sizes
count-sizes n = (omega arith, tt)

pub written_is_read_lem : WrittenIsRead
unfolding read file_of
written_is_read_lem fs w =
    let z : length fs ≡ 0 + length fs = omega arith in
    let s : Sizes (fs ++ (count_field (length fs) ∷ [])) = sizes-append fs (count_field (length fs) ∷ []) w.sizes (count-sizes (length fs)) in
    ap₂ (λ (gs : List Field) (left : List ℕ). roomy (reading Begun 0 gs left)) (fields_written (fs ++ (count_field (length fs) ∷ [])) s) (left-written (fs ++ (count_field (length fs) ∷ [])) s)
    ∙ ap (λ (m : ℕ). roomy (reading Begun 0 (fs ++ (count_field m ∷ [])) [])) z
    ∙ ap roomy (read_in_turn Begun 0 fs w.turns)
    ∙ roomy_all fs w.cards w.apart

-- ---- what is read is written back

two_bytes : (v : List ℕ) (n : ℕ) → length v ≡ 2 → Bytes v → number_at v 0 ≡ n → v ≡ n % 256 ∷ n / 256 ∷ []
two_bytes [] n l b e = let z : ◌≡◌ {A = ℕ} 0 1 = omega arith in absurd (omega arith)
two_bytes (x ∷ []) n l b e = let z : ◌≡◌ {A = ℕ} 0 1 = omega arith in absurd (omega arith)
two_bytes (x ∷ y ∷ []) n l b e =
    let low : x < 256 = b 0 in
    let p : x ≡ n % 256 = omega arith in
    let q : y ≡ n / 256 = omega arith in
    ap₂ (λ (s t : ℕ). s ∷ t ∷ []) p q
two_bytes (x ∷ y ∷ w ∷ v) n l b e = let z : ◌≡◌ {A = ℕ} 0 1 = omega arith in absurd (omega arith)

pub read_is_written_lem : ReadIsWritten
unfolding read file_of
read_is_written_lem file fs b e =
    let z : 0 + length fs ≡ length fs = omega arith in
    let c : Came 0 (fields_of file) (left_of file) fs = came (fields_of file) Begun 0 (left_of file) fs (roomy-only (reading Begun 0 (fields_of file) (left_of file)) fs e) in
    let v : Bytes c.value = last-bytes fs c.value (subst (λ (gs : List Field). AllBytes gs) c.are (all_bytes file b)) in
    let t : c.value ≡ length fs % 256 ∷ length fs / 256 ∷ [] = two_bytes c.value (length fs) c.two v (c.count ∙ z) in
    ap (λ (w : List ℕ). bytes_of (fs ++ (field 4 w ∷ []))) (sym t)
    ∙ ap bytes_of (sym c.are)
    ∙ sym (append-nil (bytes_of (fields_of file)))
    ∙ ap (λ (l : List ℕ). bytes_of (fields_of file) ++ l) (sym c.none)
    ∙ written_back file b
