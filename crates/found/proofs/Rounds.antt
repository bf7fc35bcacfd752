-- All rounds: each finds the least station that is left, and the rest is the same search with one tag fewer.
-- Assumes nothing.
use Prim.Native.Nat.{ℕ, zero, suc, ◌+◌, ◌-◌, ◌*◌, ◌<◌, ◌≤◌}
use mathlib.Core.Path.{◌≡◌, refl, sym, ◌∙◌, ap, subst, subst₂}
use mathlib.Core.Bool.{Bool, true, false, cond}
use mathlib.Core.List.{List, [], ◌∷◌, map, map-map}
use mathlib.Core.Logic.{inl, inr}
use native.Mathlib.Omega.{arith}
use lib.Dec.{eqb, leb, ltb, leb-suc-suc}
use lib.ListN.{length, get_or}
use borrow.Author.Tests.{lt-ltb, eq-eqb, ne_eqb, eqb-true, eqb-false, leb-true, leb-false}
use Rattle.port_rules.specs.declared.IdState.{IdState}
use Rattle.port_rules.specs.Card.{id_write}
use Rattle.port_rules.specs.Port.{Talk}
use Rattle.port_rules.specs.Search.{put, rounds, all_ones}
use Rattle.found.specs.Theorems.{All, Distinct, station, Kept, keeping, Here, Findable, ascending, place}
use Rattle.port_rules.specs.Leads.{Leads, on, stay}
use Rattle.found.proofs.Run.{writes, map-eq, all_map, all_both, all_all}
use Rattle.found.proofs.Contend.{Some}
use Rattle.found.proofs.Sort.{others, others_is, others-not, distinct-others, least_first, length-ascending}
use Rattle.found.proofs.Round.{Readable, readable, Rival, Tagged, judged, round, round_none, idle, now3, ends, After, Ended, was, took, waits}

-- the addresses of the untagged cards
unfoldable pub untagged : List IdState → List ℕ
untagged [] = []
untagged (s ∷ cs) = cond (eqb s.tag 0) (station s ∷ untagged cs) (untagged cs)

pub untagged_is : (s : IdState) (cs : List IdState) → s.tag ≡ 0 → untagged (s ∷ cs) ≡ station s ∷ untagged cs
unfolding untagged
untagged_is s cs e = rw (eq-eqb s.tag 0 e)

untagged_not : (s : IdState) (cs : List IdState) → Tagged s → untagged (s ∷ cs) ≡ untagged cs
unfolding untagged
untagged_not s cs e = rw (ne_eqb s.tag 0 e)

untagged_none : (cs : List IdState) → All Tagged cs → untagged cs ≡ []
unfolding untagged
untagged_none [] a = refl
untagged_none (s ∷ cs) (t, a) = untagged_not s cs t ∙ untagged_none cs a

-- the untagged card with the least station, if there is one
pub data Least (cs : List IdState) : Type 0 where
  nobody : All Tagged cs → Least cs
  this : (c : IdState) → c.tag ≡ 0 → Some (λ s. s ≡ c) cs → All (λ s. s.tag ≡ 0 → station c ≤ station s) cs → Least cs

all_below : (a b : ℕ) (cs : List IdState) → a ≤ b → All (λ s. s.tag ≡ 0 → b ≤ station s) cs → All (λ s. s.tag ≡ 0 → a ≤ station s) cs
all_below a b cs h l = all_both {P = λ s. s.tag ≡ 0 → b ≤ station s} {Q = λ s. s.tag ≡ 0 → b ≤ station s} (λ s. s.tag ≡ 0 → a ≤ station s) (λ s q r z. omega (arith, q z)) cs l l

all_vacuous : (a : ℕ) (cs : List IdState) → All Tagged cs → All (λ s. s.tag ≡ 0 → a ≤ station s) cs
all_vacuous a cs l = all_both {P = Tagged} {Q = Tagged} (λ s. s.tag ≡ 0 → a ≤ station s) (λ s q r z. absurd (q z)) cs l l

lower : (s : IdState) (cs : List IdState) → Least cs → Least (s ∷ cs)
lower s cs l = first (eqb s.tag 0) refl l
  where
    second : s.tag ≡ 0 → (c : IdState) → c.tag ≡ 0 → Some (λ x. x ≡ c) cs → All (λ x. x.tag ≡ 0 → station c ≤ station x) cs → (b : Bool) → leb (station s) (station c) ≡ b → Least (s ∷ cs)
    second z c t a h true e = this s z (inl refl) (λ _. omega arith, all_below (station s) (station c) cs (leb-true _ _ e) h)
    second z c t a h false e = this c t (inr a) (λ _. omega (arith, leb-false (station s) (station c) e), h)

    first : (b : Bool) → eqb s.tag 0 ≡ b → Least cs → Least (s ∷ cs)
    first true e (nobody a) = this s (eqb-true _ _ e) (inl refl) (λ _. omega arith, all_vacuous (station s) cs a)
    first true e (this c t a h) = second (eqb-true _ _ e) c t a h (leb (station s) (station c)) refl
    first false e (nobody a) = nobody (eqb-false _ _ e, a)
    first false e (this c t a h) = this c t (inr a) (λ z. absurd (eqb-false _ _ e z), h)

pub least : (cs : List IdState) → Least cs
least [] = nobody tt
least (s ∷ cs) = lower s cs (least cs)

-- its station is the least of the untagged ones
has : (c : IdState) (cs : List IdState) → c.tag ≡ 0 → Some (λ s. s ≡ c) cs → Some (λ a. a ≡ station c) (untagged cs)
unfolding untagged
has c [] z a = a
has c (s ∷ cs) z (inl e) = rw (untagged_is s cs (ap (λ (x : IdState). x.tag) e ∙ z)) (inl (ap station e))
has c (s ∷ cs) z (inr a) = go (eqb s.tag 0) refl (has c cs z a)
  where
    go : (b : Bool) → eqb s.tag 0 ≡ b → Some (λ x. x ≡ station c) (untagged cs) → Some (λ x. x ≡ station c) (untagged (s ∷ cs))
    go true e r = rw (untagged_is s cs (eqb-true _ _ e)) (inr r)
    go false e r = rw (untagged_not s cs (eqb-false _ _ e)) r

bounds : (m : ℕ) (cs : List IdState) → All (λ s. s.tag ≡ 0 → m ≤ station s) cs → All (λ a. m ≤ a) (untagged cs)
unfolding untagged
bounds m [] a = tt
bounds m (s ∷ cs) (h, a) = go (eqb s.tag 0) refl (bounds m cs a)
  where
    go : (b : Bool) → eqb s.tag 0 ≡ b → All (λ x. m ≤ x) (untagged cs) → All (λ x. m ≤ x) (untagged (s ∷ cs))
    go true e r = rw (untagged_is s cs (eqb-true _ _ e)) (h (eqb-true _ _ e), r)
    go false e r = rw (untagged_not s cs (eqb-false _ _ e)) r

findable_in : (p : ℕ) (c : IdState) (cs : List IdState) → All (Findable p) cs → Some (λ s. s ≡ c) cs → Findable p c
findable_in p c [] a s = absurd s
findable_in p c (s ∷ cs) (f, a) (inl e) = subst (Findable p) e f
findable_in p c (s ∷ cs) (f, a) (inr r) = findable_in p c cs a r

-- the station address, from what is kept
abbrev station_kept : Kept → ℕ
station_kept k = (get_or k.words 0 0 * 65536 + get_or k.words 1 0) * 65536 + get_or k.words 2 0

-- after the round one is tagged
module _ (p t : ℕ) (c : IdState) (t> : 0 < t) where
  left : (f : IdState → IdState) (cs : List IdState) → All (λ s. After p t c s (f s)) cs → untagged (map f cs) ≡ others (station c) (untagged cs)
  unfolding untagged others
  left f [] a = refl
  left f (s ∷ cs) (h, a) = go h.tagging (left f cs a)
    where
      same : station (f s) ≡ station s
      same = ap station_kept h.kept

      go : Ended t (station c) s (f s) → untagged (map f cs) ≡ others (station c) (untagged cs) → untagged (f s ∷ map f cs) ≡ others (station c) (untagged (s ∷ cs))
      go (was n e) r = untagged_not (f s) (map f cs) (λ z. n (sym e ∙ z)) ∙ r ∙ ap (others (station c)) (sym (untagged_not s cs n))
      go (took z q e) r = untagged_not (f s) (map f cs) (λ y. absurd (omega arith)) ∙ r ∙ sym (others_is (station c) (station s) (untagged cs) q) ∙ ap (others (station c)) (sym (untagged_is s cs z))
      go (waits z n e) r =
          untagged_is (f s) (map f cs) e ∙ (λ i. same i ∷ r i) ∙ sym (others-not (station c) (station s) (untagged cs) n) ∙ ap (others (station c)) (sym (untagged_is s cs z))

  still : (s e : IdState) → Findable p s → After p t c s e → Findable p e
  still s e f a = record {
    fits0 = subst (λ (k : Kept). get_or k.words 0 0 < 65536) (sym a.kept) f.fits0;
    fits1 = subst (λ (k : Kept). get_or k.words 1 0 < 65536) (sym a.kept) f.fits1;
    fits2 = subst (λ (k : Kept). get_or k.words 2 0 < 65536) (sym a.kept) f.fits2;
    not_ones = subst (λ (k : Kept). station_kept k ≡ all_ones → ⊥) (sym a.kept) f.not_ones;
    here = a.here';
  }

-- the tag that a card has in the end, if `free` tags are free and xs are found from here on
abbrev pub new_tag : ℕ → List ℕ → IdState → ℕ
new_tag free xs s = cond (eqb s.tag 0) (7 - free + place (station s) xs) s.tag

abbrev pub costs : ℕ → ℕ → ℕ
costs n free = 309 * n + cond (ltb n free) 308 0

pub record Finds {A : Type 0} (p free : ℕ) (k : List ℕ → Talk A) (cs ds : List IdState) : Type 0 where
  pub leads : Leads p (rounds free k) cs (costs (length (untagged cs)) free) (k (ascending (untagged cs))) ds
  pub tags : map (λ s. s.tag) ds ≡ map (new_tag free (ascending (untagged cs))) cs
  pub same : map keeping ds ≡ map keeping cs
  pub heres : All (Here p) ds

new_tag_tagged : (free : ℕ) (xs : List ℕ) (s : IdState) → Tagged s → new_tag free xs s ≡ s.tag
new_tag_tagged free xs s n = rw (ne_eqb s.tag 0 n)

new_tag_untagged : (free : ℕ) (xs : List ℕ) (s : IdState) → s.tag ≡ 0 → new_tag free xs s ≡ 7 - free + place (station s) xs
new_tag_untagged free xs s z = rw (eq-eqb s.tag 0 z)

place_here : (a x : ℕ) (xs : List ℕ) → a ≡ x → place a (x ∷ xs) ≡ 1
unfolding place
place_here a x xs e = rw (eq-eqb a x e)

place-later : (a x : ℕ) (xs : List ℕ) → (a ≡ x → ⊥) → place a (x ∷ xs) ≡ suc (place a xs)
unfolding place
place-later a x xs e = rw (ne_eqb a x e)

-- a card's end tag, seen before and after a round
tag-on : (p free : ℕ) (c : IdState) (ys : List ℕ) (s e : IdState) → suc free ≤ 7 → After p (7 - free) c s e → new_tag free ys e ≡ new_tag (suc free) (station c ∷ ys) s
tag-on p free c ys s e h a = go a.tagging
  where
    same : station e ≡ station s
    same = ap station_kept a.kept

    go : Ended (7 - free) (station c) s e → new_tag free ys e ≡ new_tag (suc free) (station c ∷ ys) s
    go (was n q) = new_tag_tagged free ys e (λ z. n (sym q ∙ z)) ∙ q ∙ sym (new_tag_tagged (suc free) (station c ∷ ys) s n)
    go (took z q r) =
        let l : 7 - free ≡ 7 - suc free + 1 = omega arith in
        new_tag_tagged free ys e (λ y. absurd (omega arith)) ∙ r ∙ l ∙ ap (λ (n : ℕ). 7 - suc free + n) (sym (place_here (station s) (station c) ys q)) ∙ sym (new_tag_untagged (suc free) (station c ∷ ys) s z)
    go (waits z n r) =
        let l : 7 - free + place (station s) ys ≡ 7 - suc free + suc (place (station s) ys) = omega arith in
        new_tag_untagged free ys e r ∙ ap (λ (x : ℕ). 7 - free + place x ys) same ∙ l ∙ ap (λ (x : ℕ). 7 - suc free + x) (sym (place-later (station s) (station c) ys n)) ∙ sym (new_tag_untagged (suc free) (station c ∷ ys) s z)

tags-stay : (free : ℕ) (xs : List ℕ) (cs : List IdState) → All Tagged cs → map (λ s. s.tag) cs ≡ map (new_tag free xs) cs
tags-stay free xs cs a = map-eq (λ s. s.tag) (new_tag free xs) (λ s n. sym (new_tag_tagged free xs s n)) cs a

-- no untagged card is left
finds-none : {A : Type 0} (p free : ℕ) (k : List ℕ → Talk A) (cs : List IdState) → All (Findable p) cs → All Tagged cs → (ds : List IdState) × Finds p free k cs ds
unfolding rounds ascending
finds-none p zero k cs f a =
    let e = untagged_none cs a in (
      cs,
      record {
        leads = subst (λ (xs : List ℕ). Leads p (rounds zero k) cs (costs (length xs) zero) (k (ascending xs)) cs) (sym e) (stay p (k []) cs);
        tags = tags-stay zero (ascending (untagged cs)) cs a;
        same = refl;
        heres = all_all {P = Findable p} (Here p) (λ s q. q.here) cs f;
      },
    )
finds-none p (suc free) k cs f a =
    let e = untagged_none cs a in
    let c : 308 ≡ costs 0 (suc free) = rw (lt-ltb 0 (suc free) (omega arith)) in
    let none : Leads p (rounds (suc free) k) cs 308 (k []) (map (idle p 2) cs) = round_none p (λ a. cond (eqb a all_ones) (k []) (put (208 + (7 - free)) (rounds free (λ found. k (a ∷ found))))) cs (all_all {P = Findable p} (Readable p) (readable p) cs f) a in (
      map (idle p 2) cs,
      record {
        leads = subst (λ (xs : List ℕ). Leads p (rounds (suc free) k) cs (costs (length xs) (suc free)) (k (ascending xs)) (map (idle p 2) cs)) (sym e)
            (subst (λ (n : ℕ). Leads p (rounds (suc free) k) cs n (k []) (map (idle p 2) cs)) c none);
        tags = map-map (λ s. s.tag) (idle p 2) cs ∙ tags-stay (suc free) (ascending (untagged cs)) cs a;
        same = map-map keeping (idle p 2) cs;
        heres = all_map {P = Tagged} (Here p) (idle p 2) (λ s q _. refl) cs a;
      },
    )

some-length : (P : ℕ → Type 0) (xs : List ℕ) → Some P xs → 0 < length xs
some-length P [] s = absurd s
some-length P (x ∷ xs) s = omega arith

pub costs_on : (n free : ℕ) → 308 + (1 + costs n free) ≡ costs (suc n) (suc free)
costs_on n free = rw (leb-suc-suc (suc n) free) (omega arith)

-- a round with a survivor, and the same search with one tag fewer
module _ {A : Type 0} (p free : ℕ) (k : List ℕ → Talk A) (cs : List IdState) (c : IdState)
    (p< : p < 16) (free≤ : suc free ≤ 7) (few : length (untagged cs) ≤ suc free) (distinct : Distinct (untagged cs)) (f : All (Findable p) cs)
    (z : c.tag ≡ 0) (some : Some (λ s. s ≡ c) cs) (low : All (λ s. s.tag ≡ 0 → station c ≤ station s) cs) where
  t : ℕ
  t = 7 - free

  fc : Findable p c
  fc = findable_in p c cs f some

  ended : IdState → IdState
  ended s = id_write (judged p c s) p (208 + t)

  abbrev rest : List IdState
  rest = map ended cs

  abbrev go_on : List ℕ → Talk A
  go_on found = k (station c ∷ found)

  abbrev talk : ℕ → Talk A
  talk a = cond (eqb a all_ones) (k []) (put (208 + (7 - free)) (rounds free (λ found. k (a ∷ found))))

  after : (s : IdState) → Findable p s → After p t c s (ended s)
  unfolding t ended
  after s fs = ends p (7 - free) c s (judged p c s) p< (omega arith) (omega arith) (readable p c fc) (readable p s fs) (now3 p c p< (readable p c fc) z s (readable p s fs))

  rivals : All (Rival p c) cs
  rivals = all_both {P = Findable p} {Q = λ s. s.tag ≡ 0 → station c ≤ station s} (Rival p c) (λ s q r. (readable p s q, r)) cs f low

  afters : All (λ s. After p t c s (ended s)) cs
  afters = all_both {P = Findable p} {Q = Findable p} (λ s. After p t c s (ended s)) (λ s q r. after s q) cs f f

  still_all : All (Findable p) rest
  unfolding t
  still_all = all_map {P = Findable p} (Findable p) ended (λ s q. still p t c (omega arith) s (ended s) q (after s q)) cs f

  others-left : untagged rest ≡ others (station c) (untagged cs)
  unfolding t
  others-left = left p t c (omega arith) ended cs afters

  ordered : station c ∷ ascending (untagged rest) ≡ ascending (untagged cs)
  ordered = ap (λ (xs : List ℕ). station c ∷ ascending xs) others-left ∙ sym (least_first (station c) (untagged cs) distinct (has c cs z some) (bounds (station c) cs low))

  one_fewer : suc (length (untagged rest)) ≡ length (untagged cs)
  one_fewer = ap suc (sym (length-ascending (untagged rest))) ∙ ap length ordered ∙ length-ascending (untagged cs)

  distinct-rest : Distinct (untagged rest)
  distinct-rest = rw others-left (distinct-others (station c) (untagged cs) distinct)

  begins : Leads p (rounds (suc free) k) cs (308 + 1) (rounds free go_on) rest
  unfolding rounds t ended
  begins =
      let r = round p c p< (readable p c fc) z talk cs rivals some in
      let e : talk (station c) ≡ put (208 + (7 - free)) (rounds free go_on) = rw (ne_eqb (station c) all_ones fc.not_ones) in
      let r' = subst (λ (u : Talk A). Leads p (rounds (suc free) k) cs 308 u (map (judged p c) cs)) e r in
      on r' (writes p (208 + t) (rounds free go_on) (judged p c) ended (λ (s : IdState) (q : Rival p c s). refl) cs rivals)

  finds-one : (ds : List IdState) → Finds p free go_on rest ds → Finds p (suc free) k cs ds
  unfolding t
  finds-one ds g = record {
    leads =
        let n : 308 + 1 + costs (length (untagged rest)) free ≡ costs (length (untagged cs)) (suc free) = omega (arith, costs_on (length (untagged rest)) free) ∙ ap (λ (m : ℕ). costs m (suc free)) one_fewer in
        subst₂ (λ (m : ℕ) (xs : List ℕ). Leads p (rounds (suc free) k) cs m (k xs) ds) n ordered (on begins g.leads);
    tags =
        g.tags ∙ map-map (new_tag free (ascending (untagged rest))) ended cs
        ∙ map-eq (λ s. new_tag free (ascending (untagged rest)) (ended s)) (new_tag (suc free) (station c ∷ ascending (untagged rest))) (λ (s : IdState) (q : Findable p s). tag-on p free c (ascending (untagged rest)) s (ended s) free≤ (after s q)) cs f
        ∙ ap (λ (xs : List ℕ). map (new_tag (suc free) xs) cs) ordered;
    same = g.same ∙ map-map keeping ended cs ∙ map-eq (λ s. keeping (ended s)) keeping (λ (s : IdState) (q : Findable p s). (after s q).kept) cs f;
    heres = g.heres;
  }

pub finds : {A : Type 0} (p free : ℕ) (k : List ℕ → Talk A) (cs : List IdState) → p < 16 → free ≤ 7 → length (untagged cs) ≤ free → Distinct (untagged cs) → All (Findable p) cs →
    (ds : List IdState) × Finds p free k cs ds
finds {A} p zero k cs p< h few d f = go (least cs)
  where
    go : Least cs → (ds : List IdState) × Finds p zero k cs ds
    go (nobody a) = finds-none p zero k cs f a
    go (this c z s l) = absurd (omega (arith, some-length (λ a. a ≡ station c) (untagged cs) (has c cs z s)))
finds {A} p (suc free) k cs p< h few d f =
    go (λ (k' : List ℕ → Talk A) (ds : List IdState). finds p free k' ds p< (omega arith)) (least cs)
  where
    go : ((k' : List ℕ → Talk A) (ds : List IdState) → length (untagged ds) ≤ free → Distinct (untagged ds) → All (Findable p) ds → (es : List IdState) × Finds p free k' ds es) →
        Least cs → (ds : List IdState) × Finds p (suc free) k cs ds
    go again (nobody a) = finds-none p (suc free) k cs f a
    go again (this c z s l) =
        let (ds, g) = again (go_on p free k cs c p< h few d f z s l) (rest p free k cs c p< h few d f z s l)
        (omega (arith, one_fewer p free k cs c p< h few d f z s l)) (distinct-rest p free k cs c p< h few d f z s l) (still_all p free k cs c p< h few d f z s l) in
        (ds, finds-one p free k cs c p< h few d f z s l ds g)
