-- The loops over one card, the roll and the rounds: a turn of each, and what follows it.
-- Assumes nothing.
use Prim.Native.Nat.{ℕ, zero, suc, min, ◌+◌, ◌-◌, ◌*◌, ◌/◌, ◌%◌, ◌<◌, ◌≤◌}
use mathlib.Core.Path.{◌≡◌, refl, sym, ◌∙◌, ap, subst}
use mathlib.Core.Bool.{Bool, cond}
use mathlib.Core.List.{List, [], ◌∷◌, ◌++◌, append-nil, map, map-append}
use native.Mathlib.Omega.{arith}
use native.Mathlib.Numerals.{add-one}
use lib.ListN.{length, take, drop, get_or, set, replicate, take-append-drop, length-map, length-take}
use Rattle.std.proofs.lemmas.List.{drop_all, drop_more, take_more}
use lib.Seq.{take-suc-set, append_snoc, set-append_seam, drop-set-lt, drop-drop}
use borrow.Author.Tests.{eq-eqb, ne_eqb, lt-ltb}
use Rattle.port_rules.specs.declared.IdState.{IdState}
use Rattle.std.specs.List.{fold}
use Rattle.port_rules.specs.Card.{id_write, id_bit, id_after_read}
use Rattle.port_rules.specs.Sequence.{id_byte}
use Rattle.port_rules.specs.Search.{id_bytes, all_ones}
use Rattle.port_rules.specs.Calls.{padded}
use Rattle.port_rules.specs.Gathered.{port_bit}
use Rattle.port_rules.proofs.Gathering.{bit_narrow}
use Rattle.found.specs.OneCard.{wrote, heard}
use Rattle.found.specs.Theorems.{All}
use Rattle.found.proofs.Rounds.{costs_on}
use Rattle.lent_port.specs.declared.roll.Progress.{Progress}
use Rattle.lent_port.specs.Roll.{called_up, hears, takes_part, Worded, least, struck, found, rounds_cost, through}
use Rattle.lent_port.specs.Steps.{entered, Blank, Finishes, found_of, Finds}
use Rattle.lent_port.proofs.Ones.{least-top, real_more, found_real}

-- the sequence, from its i-th byte on
abbrev pub CalledAt : ℕ → ℕ → IdState → IdState → Type 0
CalledAt p i s₀ s = wrote p (id_bytes i (255 - i)) s ≡ wrote p (id_bytes 0 255) s₀

pub called_turn : (p i : ℕ) (s₀ s r : IdState) (byte : ℕ) → i < 255 → byte ≡ id_byte i → r ≡ id_write s p byte → CalledAt p i s₀ s → CalledAt p (i + 1) s₀ r
unfolding wrote id_bytes
called_turn p i s₀ s r byte h b e c =
    let n : 255 - i ≡ suc (255 - (i + 1)) = omega arith in
    (λ z. wrote p (id_bytes (add-one i z) (255 - (i + 1))) ((e ∙ ap (id_write s p) b) z)) ∙ ap (λ (k : ℕ). wrote p (id_bytes i k) s) (sym n) ∙ c

pub called_end : (p i : ℕ) (s₀ s o t : IdState) → 255 ≤ i → i ≤ 255 → o ≡ id_write t p 0 → s₀ ≡ id_write o p 0 → CalledAt p i s₀ s → s ≡ called_up p t
unfolding wrote id_bytes called_up
called_end p i s₀ s o t h k e f c =
    let n : 255 - i ≡ 0 = omega arith in
    sym (ap (λ (m : ℕ). wrote p (id_bytes i m) s) n) ∙ c ∙ ap (wrote p (id_bytes 0 255)) (f ∙ ap (λ (u : IdState). id_write u p 0) e)

-- sixteen bits of a word, from the i-th on
abbrev pub HeardAt : ℕ → ℕ → ℕ → IdState → ℕ → IdState → Type 0
HeardAt p i w₀ s₀ w s = heard p (16 - i) w s ≡ heard p 16 w₀ s₀

pub heard_turn : (p i w₀ w : ℕ) (s₀ s r : IdState) → i < 16 → r ≡ id_after_read s p (w / 32768) → HeardAt p i w₀ s₀ w s → HeardAt p (i + 1) w₀ s₀ (w * 2 % 65536) r
unfolding heard
heard_turn p i w₀ w s₀ s r h e c =
    let n : 16 - i ≡ suc (16 - (i + 1)) = omega arith in
    ap (heard p (16 - (i + 1)) (w * 2 % 65536)) e ∙ ap (λ (k : ℕ). heard p k w s) (sym n) ∙ c

pub heard-end : (p i w₀ w : ℕ) (s₀ s : IdState) → 16 ≤ i → HeardAt p i w₀ s₀ w s → s ≡ heard p 16 w₀ s₀
unfolding heard
heard-end p i w₀ w s₀ s h c = let n : 16 - i ≡ 0 = omega arith in sym (ap (λ (k : ℕ). heard p k w s) n) ∙ c

-- a fold that keeps the lesser of two numbers comes to what a recursion does that takes the least
module _ {X : Type 0} (f : X → ℕ) (all : List X → ℕ) (top : ℕ) (none : all [] ≡ top) (more : (x : X) (xs : List X) → all (x ∷ xs) ≡ min (f x) (all xs)) where
  pub folded : (a : ℕ) (xs : List X) → a ≤ top → fold (λ b x. min b (f x)) a xs ≡ min a (all xs)
  folded a [] h = rw none (omega arith)
  folded a (x ∷ xs) h = let m : min a (f x) ≤ top = omega arith in folded (min a (f x)) xs m ∙ rw (more x xs) (omega arith)

pub least-folded : (xs : List ℕ) → fold (λ b x. min b x) all_ones xs ≡ least xs
unfolding least
least-folded xs = let t : least xs ≤ all_ones = least-top xs in folded (λ x. x) least all_ones refl (λ x xs. refl) all_ones xs (omega arith) ∙ omega arith

pub carried-folded : (p : ℕ) (xs : List IdState) → fold (λ b s. min b (id_bit s p)) 1 xs ≡ port_bit p xs
unfolding port_bit
carried-folded p xs = let t : port_bit p xs ≤ 1 = bit_narrow p xs in folded (λ s. id_bit s p) (port_bit p) 1 refl (λ x xs. refl) 1 xs (omega arith) ∙ omega arith

-- one card through the rounds, from the i-th on
abbrev pub ThroughAt : ℕ → ℕ → List ℕ → IdState → IdState → Type 0
ThroughAt p i xs s₀ s = through p (7 - i) (drop i xs) s ≡ through p 7 xs s₀

pub through_turn : (p i d a : ℕ) (xs : List ℕ) (s₀ s r : IdState) (tag : ℕ) → i < 7 → i < length xs → a ≡ get_or xs i d → tag ≡ i + 1 → r ≡ id_write (hears p a (called_up p s)) p (208 + tag) → ThroughAt p i xs s₀ s → ThroughAt p (i + 1) xs s₀ r
unfolding through
through_turn p i d a xs s₀ s r tag h l b t e c =
    let n : 7 - i ≡ suc (7 - (i + 1)) = omega arith in
    let g : tag ≡ 7 - (7 - (i + 1)) = omega arith in
    let q : drop i xs ≡ get_or xs i d ∷ drop (i + 1) xs = drop_more xs i d l in
    ap (through p (7 - (i + 1)) (drop (i + 1) xs)) (e ∙ (λ z. id_write (hears p (b z) (called_up p s)) p (208 + g z))) ∙ (λ z. through p (sym n z) (sym q z) s) ∙ c

pub through-ones : (p i : ℕ) (xs : List ℕ) (s₀ s r : IdState) → i < 7 → length xs ≤ i → r ≡ hears p all_ones (called_up p s) → ThroughAt p i xs s₀ s → r ≡ through p 7 xs s₀
unfolding through
through-ones p i xs s₀ s r h l e c =
    let n : 7 - i ≡ suc (6 - i) = omega arith in
    e ∙ (λ z. through p (sym n z) (sym (drop_all i xs l) z) s) ∙ c

pub through-end : (p i : ℕ) (xs : List ℕ) (s₀ s : IdState) → 7 ≤ i → ThroughAt p i xs s₀ s → s ≡ through p 7 xs s₀
unfolding through
through-end p i xs s₀ s h c = let n : 7 - i ≡ 0 = omega arith in sym (ap (λ (k : ℕ). through p k (drop i xs) s) n) ∙ c

-- The rounds' three ways on: no tag free, forty-eight ones, a survivor tagged and the same search with one tag fewer.
pub finish_none : (free : ℕ) (f : Progress) → free ≡ 0 → Blank f → Finishes free f f
unfolding found
finish_none free f e z = rw e (record { many = omega arith; listed = sym (append-nil (take f.count f.addresses)); blank = z; cost = omega arith })

pub finish_ones : (free a : ℕ) (f : Progress) → (free ≡ 0 → ⊥) → a ≡ least f.left → a ≡ all_ones → Blank f → Finishes free f (record { left = f.left; addresses = f.addresses; count = f.count; accesses = f.accesses + 308 })
unfolding found
finish_ones zero a f n l e z = absurd (n refl)
finish_ones (suc g) a f n l e z =
    let q : found (suc g) f.left ≡ [] = ap (λ (b : Bool). cond b [] (least f.left ∷ found g (struck (least f.left) f.left))) (eq-eqb (least f.left) all_ones (sym l ∙ e)) in
    let many : f.count ≡ f.count + 0 = omega arith in
    let cost : f.accesses + 308 ≡ f.accesses + rounds_cost 0 (suc g) = rw (lt-ltb 0 (suc g) (omega arith)) (omega arith) in
    record {
      many = many ∙ ap (λ (l : List ℕ). f.count + length l) (sym q);
      listed = sym (append-nil (take f.count f.addresses)) ∙ ap (λ (l : List ℕ). take f.count f.addresses ++ l) (sym q);
      blank = z;
      cost = cost ∙ ap (λ (l : List ℕ). f.accesses + rounds_cost (length l) (suc g)) (sym q);
    }

abbrev pub joined : Progress → ℕ → List ℕ → Progress
joined f a xs = record { left = xs; addresses = set f.addresses f.count a; count = f.count + 1; accesses = f.accesses + 309 }

-- zeros stand past one address more
pub blank_joined : (xs : List ℕ) (n a : ℕ) → n < 7 → drop n xs ≡ replicate (7 - n) 0 → drop (n + 1) (set xs n a) ≡ replicate (7 - (n + 1)) 0
blank_joined xs n a h z =
    let m : 7 - n ≡ suc (7 - (n + 1)) = omega arith in
    drop-set-lt (n + 1) xs n a (omega arith) ∙ sym (drop-drop 1 n xs) ∙ ap (drop 1) (z ∙ ap (λ (k : ℕ). replicate k 0) m)

pub finish_more : (free a : ℕ) (f r : Progress) (xs : List ℕ) → (free ≡ 0 → ⊥) → a ≡ least f.left → (a ≡ all_ones → ⊥) → xs ≡ struck a f.left → f.count < length f.addresses → Finishes (free - 1) (joined f a xs) r → Finishes free f r
unfolding found
finish_more zero a f r xs n l e s h g = absurd (n refl)
finish_more (suc k) a f r xs n l e s h g =
    let j : suc k - 1 ≡ k = omega arith in
    let ys : List ℕ = found k xs in
    let t : struck a f.left ≡ struck (least f.left) f.left = ap (λ (x : ℕ). struck x f.left) l in
    let q : found (suc k) f.left ≡ a ∷ ys =
    ap (λ (b : Bool). cond b [] (least f.left ∷ found k (struck (least f.left) f.left))) (ne_eqb (least f.left) all_ones (λ x. e (l ∙ x))) ∙ (λ i. sym l i ∷ found k (sym (s ∙ t) i)) in
    let g' : Finishes k (joined f a xs) r = subst (λ (m : ℕ). Finishes m (joined f a xs) r) j g in
    let many : f.count + 1 + length ys ≡ f.count + length (a ∷ ys) = omega arith in
    let cost : f.accesses + 309 + rounds_cost (length ys) k ≡ f.accesses + rounds_cost (length (a ∷ ys)) (suc k) = omega (arith, costs_on (length ys) k) in
    record {
      many = g'.many ∙ many ∙ ap (λ (l : List ℕ). f.count + length l) (sym q);
      listed =
          g'.listed ∙ ap (λ (m : ℕ). take m (set f.addresses f.count a) ++ ys) (add-one f.count)
          ∙ ap (λ (zs : List ℕ). zs ++ ys) (take-suc-set f.addresses f.count a h) ∙ append_snoc (take f.count f.addresses) a ys
          ∙ ap (λ (l : List ℕ). take f.count f.addresses ++ l) (sym q);
      blank = g'.blank;
      cost = g'.cost ∙ cost ∙ ap (λ (l : List ℕ). f.accesses + rounds_cost (length l) (suc k)) (sym q);
    }

-- the seven places of what is found
pub filled : (xs : List ℕ) (r : Progress) → r.count ≡ length xs → take r.count r.addresses ≡ xs → Blank r → r.addresses ≡ padded xs
filled xs r n l z = sym (take-append-drop r.count r.addresses) ∙ (λ i. l i ++ z i) ∙ ap (λ (m : ℕ). xs ++ replicate (7 - m) 0) n

-- a card more on the roll
all_snoc : (xs : List IdState) (s : IdState) → All Worded xs → Worded s → All Worded (xs ++ (s ∷ []))
all_snoc [] s a w = (w, tt)
all_snoc (x ∷ xs) s (v, a) w = (v, all_snoc xs s a w)

module _ (ys : List IdState) (i : ℕ) (d : IdState) (h : i < length ys) where
  one_more : take i ys ++ (get_or ys i d ∷ []) ≡ take (i + 1) ys
  one_more = sym (take_more ys i d h)

  pub entered_turn : (x a : ℕ) (xs : List ℕ) → length ys ≤ 8 → a ≡ takes_part x (get_or ys i d) → xs ≡ map (takes_part x) (take i ys) ++ replicate (8 - i) all_ones →
      set xs i a ≡ map (takes_part x) (take (i + 1) ys) ++ replicate (8 - (i + 1)) all_ones
  entered_turn x a xs few e q =
      let n : 8 - i ≡ suc (8 - (i + 1)) = omega arith in
      let l : i ≡ length (map (takes_part x) (take i ys)) = sym (length-map (take i ys) (takes_part x) ∙ length-take i ys ∙ omega arith) in
      (λ z. set ((q ∙ ap (λ (m : ℕ). map (takes_part x) (take i ys) ++ replicate m all_ones) n) z) (l z) (e z))
      ∙ set-append_seam (map (takes_part x) (take i ys)) all_ones (replicate (8 - (i + 1)) all_ones) (takes_part x (get_or ys i d))
      ∙ sym (append_snoc (map (takes_part x) (take i ys)) (takes_part x (get_or ys i d)) (replicate (8 - (i + 1)) all_ones))
      ∙ ap (λ (r : List ℕ). r ++ replicate (8 - (i + 1)) all_ones) (sym (map-append (takes_part x) (take i ys) (get_or ys i d ∷ [])) ∙ ap (map (takes_part x)) one_more)

  pub worded_turn : Worded (get_or ys i d) → All Worded (take i ys) → All Worded (take (i + 1) ys)
  worded_turn w a = subst (All Worded) one_more (all_snoc (take i ys) (get_or ys i d) a w)

-- the roll's other places do not matter
pub finds-so : (x : ℕ) (ys : List IdState) (f r : Progress) → f.left ≡ entered x ys → f.count ≡ 0 → f.accesses ≡ 258 → All Worded ys → Finishes 7 f r → Finds x ys r
finds-so x ys f r l n a w g =
    let same : found 7 f.left ≡ found_of x ys = ap (found 7) l ∙ found_real 7 (entered x ys) (map (takes_part x) ys) (real_more (8 - length ys) (map (takes_part x) ys)) in
    let many : r.count ≡ length (found_of x ys) = g.many ∙ omega (arith, ap length same) in
    let listed : take r.count r.addresses ≡ found_of x ys = g.listed ∙ ap (λ (k : ℕ). take k f.addresses ++ found 7 f.left) n ∙ same in
    record {
      many = many;
      listed = listed;
      places = filled (found_of x ys) r many listed g.blank;
      cost = g.cost ∙ (λ i. a i + rounds_cost (length (same i)) 7);
      worded = w;
    }
