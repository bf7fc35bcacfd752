-- A contention: of the cards that drive, those with the least word are left, and that word is read.
-- Assumes nothing.
use Prim.Native.Nat.{ℕ, zero, suc, ◌+◌, ◌*◌, ◌/◌, ◌<◌, ◌≤◌}
use mathlib.Core.Path.{◌≡◌, refl, sym, ◌∙◌, ap, subst, subst₂}
use mathlib.Core.Bool.{Bool, true, false, false≢true}
use mathlib.Core.List.{List, [], ◌∷◌, map, map-map, map-id}
use mathlib.Core.Logic.{◌⊎◌, inl, inr}
use native.Mathlib.Omega.{arith}
use lib.Dec.{eqb}
use borrow.Author.Tests.{eq-eqb, ne_eqb, eqb-true, eqb-false}
use Rattle.port_rules.specs.declared.IdState.{IdState}
use Rattle.port_rules.specs.Card.{id_drives, id_bit, id_after_read, loaded}
use Rattle.port_rules.specs.Port.{Talk, read, after, value, port_bit, port_read}
use Rattle.port_rules.specs.Search.{bits}
use Rattle.found.specs.Theorems.{All}
use Rattle.found.specs.OneCard.{shl, heard}
use Rattle.port_rules.specs.Leads.{Leads, on, stay, step}
use Rattle.found.proofs.Run.{map-eq, all_map}
use Rattle.found.proofs.Called.{out}

-- a read, for a card that drives the bus's bit, one that does not, and one that is mute
won : (p b : ℕ) (s : IdState) → id_drives s p ≡ true → b ≡ s.shift / 32768 → id_after_read s p b ≡ loaded (shl s.shift) s
unfolding id_after_read id_bit
won p b s d e = rw (d, id_after_read) (rw (eq-eqb b (s.shift / 32768) e))

lost : (p b : ℕ) (s : IdState) → id_drives s p ≡ true → (b ≡ s.shift / 32768 → ⊥) → id_after_read s p b ≡ out (shl s.shift) s
unfolding id_after_read id_bit
lost p b s d e = rw (d, id_after_read) (rw (ne_eqb b (s.shift / 32768) e))

pub mute : (p b : ℕ) (s : IdState) → id_drives s p ≡ false → id_after_read s p b ≡ s
unfolding id_after_read
mute p b s d = rw (d, id_after_read)

-- who is out drives nothing; a word does not matter
pub out_mute : (p w : ℕ) (s : IdState) → id_drives (out w s) p ≡ false
unfolding id_drives
out_mute p w s = refl

pub load_drives : (p w : ℕ) (s : IdState) → id_drives (loaded w s) p ≡ id_drives s p
unfolding id_drives
load_drives p w s = refl

-- the bus carries the top bit of the least word m that is driven
abbrev pub Some : {X : Type 0} → (X → Type 0) → List X → Type 0
Some P [] = ⊥
Some P (x ∷ xs) = P x ⊎ Some P xs

pub some-map : {X Y : Type 0} (P : X → Type 0) (Q : Y → Type 0) (f : X → Y) → ((x : X) → P x → Q (f x)) → (xs : List X) → Some P xs → Some Q (map f xs)
some-map P Q f h [] a = a
some-map P Q f h (x ∷ xs) (inl p) = inl (h x p)
some-map P Q f h (x ∷ xs) (inr a) = inr (some-map P Q f h xs a)

abbrev pub Drives : ℕ → ℕ → IdState → Type 0
Drives p m s = (id_drives s p ≡ true) × (s.shift ≡ m)

abbrev pub Above : ℕ → ℕ → IdState → Type 0
Above p m s = id_drives s p ≡ true → (m ≤ s.shift) × (s.shift < 65536)

drove : (p : ℕ) (s : IdState) → id_drives s p ≡ true → id_bit s p ≡ s.shift / 32768
unfolding id_bit
drove p s d = rw (d, id_bit)

undriven : (p : ℕ) (s : IdState) → id_drives s p ≡ false → id_bit s p ≡ 1
unfolding id_bit
undriven p s d = rw (d, id_bit)

bit_low : (p m : ℕ) (s : IdState) → m < 65536 → Above p m s → m / 32768 ≤ id_bit s p
bit_low p m s h a = go (id_drives s p) refl
  where
    go : (d : Bool) → id_drives s p ≡ d → m / 32768 ≤ id_bit s p
    go true e = omega (arith, a e, drove p s e)
    go false e = omega (arith, undriven p s e)

bus_low : (p m : ℕ) (cs : List IdState) → m < 65536 → All (Above p m) cs → m / 32768 ≤ port_bit p cs
unfolding port_bit
bus_low p m [] h a = omega arith
bus_low p m (s ∷ cs) h (a, b) = omega (arith, bus_low p m cs h b, bit_low p m s h a)

bus_high : (p m : ℕ) (cs : List IdState) → Some (Drives p m) cs → port_bit p cs ≤ m / 32768
unfolding port_bit
bus_high p m [] a = absurd a
bus_high p m (s ∷ cs) (inl (d, e)) = omega (arith, drove p s d)
bus_high p m (s ∷ cs) (inr a) = omega (arith, bus_high p m cs a)

bus : (p m : ℕ) (cs : List IdState) → m < 65536 → Some (Drives p m) cs → All (Above p m) cs → port_bit p cs ≡ m / 32768
bus p m cs h a b = omega (arith, bus_low p m cs h b, bus_high p m cs a)

-- both facts stand for the next bit
drives_on : (p m : ℕ) (s : IdState) → Drives p m s → Drives p (shl m) (id_after_read s p (m / 32768))
drives_on p m s (d, e) =
    let q : m / 32768 ≡ s.shift / 32768 = ap (λ (w : ℕ). w / 32768) (sym e) in
    rw (won p (m / 32768) s d q) (load_drives p (shl s.shift) s ∙ d, ap shl e)

above_on : (p m : ℕ) (s : IdState) → m < 65536 → Above p m s → Above p (shl m) (id_after_read s p (m / 32768))
above_on p m s h a = go (id_drives s p) refl (eqb (m / 32768) (s.shift / 32768)) refl
  where
    go : (d : Bool) → id_drives s p ≡ d → (b : Bool) → eqb (m / 32768) (s.shift / 32768) ≡ b → Above p (shl m) (id_after_read s p (m / 32768))
    go false d b e = rw (mute p (m / 32768) s d) (λ t. absurd (false≢true (sym d ∙ t)))
    go true d true e = let b : m / 32768 ≡ s.shift / 32768 = eqb-true _ _ e in rw (won p (m / 32768) s d b) (λ t. omega (arith, a d))
    go true d false e = rw (lost p (m / 32768) s d (eqb-false _ _ e)) (λ t. absurd (false≢true (sym (out_mute p (shl s.shift) s) ∙ t)))

-- what n bits of m make of the number read so far
unfoldable pub number : ℕ → ℕ → ℕ → ℕ
number zero m a = a
number (suc n) m a = number n (shl m) (a * 2 + m / 32768)

pub reads : {A : Type 0} (p n m a : ℕ) (k : ℕ → Talk A) (cs : List IdState) → m < 65536 → Some (Drives p m) cs → All (Above p m) cs →
    Leads p (bits n a k) cs n (k (number n m a)) (map (heard p n m) cs)
unfolding bits heard number after value port_read
reads p zero m a k cs h d o = subst (λ (ds : List IdState). Leads p (k a) cs 0 (k a) ds) (sym (map-id cs)) (stay p (k a) cs)
reads p (suc n) m a k cs h d o =
    let b : ℕ = m / 32768 in
    let one : Leads p (bits (suc n) a k) cs 1 (bits n (a * 2 + b) k) (map (λ s. id_after_read s p b) cs) =
    subst (λ (c : ℕ). Leads p (bits (suc n) a k) cs 1 (bits n (a * 2 + c) k) (map (λ s. id_after_read s p c) cs)) (bus p m cs h d o) (step p read (λ c. bits n (a * 2 + c) k) cs) in
    let rest = reads p n (shl m) (a * 2 + b) k (map (λ s. id_after_read s p b) cs) (omega arith)
    (some-map (Drives p m) (Drives p (shl m)) (λ s. id_after_read s p b) (drives_on p m) cs d)
    (all_map {P = Above p m} (Above p (shl m)) (λ s. id_after_read s p b) (λ s q. above_on p m s h q) cs o) in
    let q : 1 + n ≡ suc n = omega arith in
    subst₂ (λ (c : ℕ) (ds : List IdState). Leads p (bits (suc n) a k) cs c (k (number (suc n) m a)) ds) q (map-map (heard p n (shl m)) (λ s. id_after_read s p b) cs) (on one rest)

-- nobody drives: ones
abbrev pub Mute : ℕ → IdState → Type 0
Mute p s = id_drives s p ≡ false

unfoldable pub ones : ℕ → ℕ → ℕ
ones zero a = a
ones (suc n) a = ones n (a * 2 + 1)

bus_mute : (p : ℕ) (cs : List IdState) → All (Mute p) cs → port_bit p cs ≡ 1
unfolding port_bit
bus_mute p [] a = refl
bus_mute p (s ∷ cs) (d, a) = omega (arith, undriven p s d, bus_mute p cs a)

pub reads-ones : {A : Type 0} (p n a : ℕ) (k : ℕ → Talk A) (cs : List IdState) → All (Mute p) cs → Leads p (bits n a k) cs n (k (ones n a)) cs
unfolding bits ones after value port_read
reads-ones p zero a k cs h = stay p (k a) cs
reads-ones p (suc n) a k cs h =
    let e : map (λ s. id_after_read s p 1) cs ≡ cs = map-eq (λ s. id_after_read s p 1) (λ s. s) (λ s d. mute p 1 s d) cs h ∙ map-id cs in
    let one : Leads p (bits (suc n) a k) cs 1 (bits n (a * 2 + 1) k) (map (λ s. id_after_read s p 1) cs) =
    subst (λ (c : ℕ). Leads p (bits (suc n) a k) cs 1 (bits n (a * 2 + c) k) (map (λ s. id_after_read s p c) cs)) (bus_mute p cs h) (step p read (λ c. bits n (a * 2 + c) k) cs) in
    let one' = subst (λ (ds : List IdState). Leads p (bits (suc n) a k) cs 1 (bits n (a * 2 + 1) k) ds) e one in
    let q : 1 + n ≡ suc n = omega arith in
    subst (λ (c : ℕ). Leads p (bits (suc n) a k) cs c (k (ones (suc n) a)) cs) q (on one' (reads-ones p n (a * 2 + 1) k cs h))

-- sixteen bits of m are m
unfoldable twice : ℕ → ℕ → ℕ
twice zero x = x
twice (suc n) x = twice n (2 * x)

shifted : (n m a : ℕ) → m < 65536 → (r : ℕ) × (r < 65536) × (number n m a * 65536 + r ≡ twice n (a * 65536 + m))
unfolding number twice
shifted zero m a h = (m, h, refl)
shifted (suc n) m a h =
    let (r, l, e) = shifted n (shl m) (a * 2 + m / 32768) (omega arith) in
    let q : (a * 2 + m / 32768) * 65536 + shl m ≡ 2 * (a * 65536 + m) = omega arith in
    (r, l, e ∙ ap (twice n) q)

pub sixteen : (m : ℕ) → m < 65536 → number 16 m 0 ≡ m
unfolding twice
sixteen m h = let (r, l, e) = shifted 16 m 0 h in omega arith

-- what sixteen bits of m make of a card: who is mute stays; who has the word m stays in; who has another is out
pub heard_mute : (p n m : ℕ) (s : IdState) → id_drives s p ≡ false → heard p n m s ≡ s
unfolding heard
heard_mute p zero m s d = refl
heard_mute p (suc n) m s d = ap (heard p n (shl m)) (mute p (m / 32768) s d) ∙ heard_mute p n (shl m) s d

-- after n bits a card that drove is in, and so far its bits are those of m, or it is out
data Heard (p n m : ℕ) (s : IdState) : Type 0 where
  in' : (w : ℕ) → heard p n m s ≡ loaded w s → ((a : ℕ) → number n s.shift a ≡ number n m a) → Heard p n m s
  out' : (w : ℕ) → heard p n m s ≡ out w s → Heard p n m s

hears : (p n m : ℕ) (s : IdState) → id_drives s p ≡ true → Heard p n m s
unfolding heard number
hears p zero m s d = in' s.shift refl (λ a. refl)
hears p (suc n) m s d = go (hears p n (shl m) (loaded (shl s.shift) s) (load_drives p (shl s.shift) s ∙ d)) (eqb (m / 32768) (s.shift / 32768)) refl
  where
    more : m / 32768 ≡ s.shift / 32768 → Heard p n (shl m) (loaded (shl s.shift) s) → Heard p (suc n) m s
    more b (in' w e f) = in' w (ap (heard p n (shl m)) (won p (m / 32768) s d b) ∙ e) (λ a. f (a * 2 + s.shift / 32768) ∙ ap (λ (c : ℕ). number n (shl m) (a * 2 + c)) (sym b))
    more b (out' w e) = out' w (ap (heard p n (shl m)) (won p (m / 32768) s d b) ∙ e)

    go : Heard p n (shl m) (loaded (shl s.shift) s) → (b : Bool) → eqb (m / 32768) (s.shift / 32768) ≡ b → Heard p (suc n) m s
    go r true e = more (eqb-true _ _ e) r
    go r false e = out' (shl s.shift) (ap (heard p n (shl m)) (lost p (m / 32768) s d (eqb-false _ _ e)) ∙ heard_mute p n (shl m) (out (shl s.shift) s) (out_mute p (shl s.shift) s))

pub heard-same : (p n : ℕ) (s : IdState) → id_drives s p ≡ true → (w : ℕ) × (heard p n s.shift s ≡ loaded w s)
unfolding heard
heard-same p zero s d = (s.shift, refl)
heard-same p (suc n) s d =
    let (w, e) = heard-same p n (loaded (shl s.shift) s) (load_drives p (shl s.shift) s ∙ d) in
    (w, ap (heard p n (shl s.shift)) (won p (s.shift / 32768) s d refl) ∙ e)

pub heard_other : (p m : ℕ) (s : IdState) → id_drives s p ≡ true → s.shift < 65536 → m < 65536 → (s.shift ≡ m → ⊥) → (w : ℕ) × (heard p 16 m s ≡ out w s)
heard_other p m s d h l e = go (hears p 16 m s d)
  where
    go : Heard p 16 m s → (w : ℕ) × (heard p 16 m s ≡ out w s)
    go (in' w q f) = absurd (e (sym (sixteen s.shift h) ∙ f 0 ∙ sixteen m l))
    go (out' w q) = (w, q)
