-- Writes, card by card; and laws of lists.
-- Assumes nothing.
use Prim.Native.Nat.{ℕ, ◌+◌}
use mathlib.Core.Path.{◌≡◌, refl, sym, ◌∙◌, ap, subst}
use mathlib.Core.List.{List, [], ◌∷◌, map, map-map, map-id}
use native.Mathlib.Omega.{arith}
use lib.ListN.{length}
use Rattle.port_rules.specs.declared.IdState.{IdState}
use Rattle.port_rules.specs.Card.{id_write}
use Rattle.port_rules.specs.Port.{Talk, write, run, after, port_write}
use Rattle.port_rules.specs.Search.{put, puts}
use Rattle.port_rules.specs.Leads.{Leads, stay, step, on}
use Rattle.found.specs.Theorems.{All}
use Rattle.found.specs.OneCard.{wrote}

-- lists
pub map-eq : {X Y : Type 0} {P : X → Type 0} (f g : X → Y) → ((x : X) → P x → f x ≡ g x) → (xs : List X) → All P xs → map f xs ≡ map g xs
map-eq f g e [] a = refl
map-eq f g e (x ∷ xs) (h, a) = λ i. e x h i ∷ map-eq f g e xs a i

pub all_map : {X Y : Type 0} {P : X → Type 0} (Q : Y → Type 0) (f : X → Y) → ((x : X) → P x → Q (f x)) → (xs : List X) → All P xs → All Q (map f xs)
all_map Q f h [] a = tt
all_map Q f h (x ∷ xs) (p, a) = (h x p, all_map Q f h xs a)

pub all_both : {X : Type 0} {P Q : X → Type 0} (R : X → Type 0) → ((x : X) → P x → Q x → R x) → (xs : List X) → All P xs → All Q xs → All R xs
all_both R h [] a b = tt
all_both R h (x ∷ xs) (p, a) (q, b) = (h x p q, all_both R h xs a b)

pub all_all : {X : Type 0} {P : X → Type 0} (Q : X → Type 0) → ((x : X) → P x → Q x) → (xs : List X) → All P xs → All Q xs
all_all Q h [] a = tt
all_all Q h (x ∷ xs) (p, a) = (h x p, all_all Q h xs a)

-- a byte written, to cards that are each f of a card, makes each g of it
pub writes : {A : Type 0} {X : Type 0} {P : X → Type 0} (p x : ℕ) (k : Talk A) (f g : X → IdState) → ((s : X) → P s → id_write (f s) p x ≡ g s) → (cs : List X) → All P cs →
    Leads p (put x k) (map f cs) 1 k (map g cs)
unfolding after port_write
writes p x k f g e cs a =
    subst (λ (ds : List IdState). Leads p (put x k) (map f cs) 1 k ds) (map-map (λ s. id_write s p x) f cs ∙ map-eq (λ s. id_write (f s) p x) g e cs a) (step p (write x) (λ _. k) (map f cs))

-- bytes one after the other, card by card
pub writes_all : {A : Type 0} (p : ℕ) (xs : List ℕ) (k : Talk A) (cs : List IdState) → Leads p (puts xs k) cs (length xs) k (map (wrote p xs) cs)
unfolding puts wrote after port_write
writes_all p [] k cs = subst (λ (ds : List IdState). Leads p k cs 0 k ds) (sym (map-id cs)) (stay p k cs)
writes_all p (x ∷ xs) k cs =
    let one = step p (write x) (λ _. puts xs k) cs in
    let rest = writes_all p xs k (map (λ s. id_write s p x) cs) in
    let all = on one rest in
    record {
      answered = all.answered ∙ ap (λ (ds : List IdState). (run p k ds).answer) (map-map (wrote p xs) (λ s. id_write s p x) cs);
      left = all.left ∙ ap (λ (ds : List IdState). (run p k ds).cards) (map-map (wrote p xs) (λ s. id_write s p x) cs);
      counted = all.counted ∙ ap (λ (ds : List IdState). 1 + length xs + length (run p k ds).accesses) (map-map (wrote p xs) (λ s. id_write s p x) cs) ∙ omega arith;
    }
