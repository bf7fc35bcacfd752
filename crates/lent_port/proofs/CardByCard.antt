-- The search and the activation, card by card: writes step each card by itself, and a round carries the least address of those that take part, so each card's end is told by the addresses that the bus carried.
-- Assumes nothing.
use Prim.Native.Nat.{ℕ, zero, suc, min, ◌+◌, ◌-◌, ◌*◌, ◌/◌, ◌%◌, ◌<◌, ◌≤◌}
use mathlib.Core.Path.{◌≡◌, refl, sym, ◌∙◌, ap, subst, subst₂}
use mathlib.Core.Bool.{Bool, true, false, cond, not, ◌&&◌}
use mathlib.Core.List.{List, [], ◌∷◌, map, map-map, map-id}
use mathlib.Core.Logic.{inl, inr}
use native.Mathlib.Omega.{arith}
use lib.Dec.{eqb}
use lib.ListN.{length, get_or}
use borrow.Author.Tests.{lt-ltb, eq-eqb, ne_eqb, eqb-true, eqb-false, not-false}
use Rattle.port_rules.specs.declared.IdState.{IdState}
use Rattle.port_rules.specs.Card.{id_write}
use Rattle.port_rules.specs.Port.{Talk, done, Ran, run}
use Rattle.port_rules.specs.Search.{put, puts, id_bytes, call_up, read_address, rounds, search, activate, all_ones}
use Rattle.port_rules.specs.Leads.{Leads, on, stay}
use Rattle.found.specs.Theorems.{All, word_at, station, Here, Kept}
use Rattle.found.specs.OneCard.{wrote, heard}
use Rattle.found.proofs.Run.{map-eq, all_map, all_both, writes, writes_all}
use Rattle.found.proofs.Called.{called, obeying, id_bytes-length}
use Rattle.found.proofs.Contend.{Some, heard_mute}
use Rattle.found.proofs.Round.{Readable, Rival, Tagged, judged, round, round_none, idle, now3, ends, After, Ended, was, took, waits, asked, obeying_drives}
use Rattle.found.proofs.Rounds.{Least, nobody, this, least as lowest, costs_on}
use Rattle.found.proofs.Found.{clears}
use Rattle.lent_port.specs.Roll.{called_up, hears, away, takes_part, Worded, least, struck, found, rounds_cost, through, searched_by, activated_by}
use Rattle.lent_port.proofs.Aside.{away-write, away-read, present, aside}
use Rattle.lent_port.proofs.Ones.{real, real_ones, real_same, found_real}

-- two zeros and the sequence, to any cards
pub calls_up : {A : Type 0} (p : ℕ) (k : Talk A) (cs : List IdState) → Leads p (call_up k) cs 257 k (map (called_up p) cs)
unfolding call_up puts called_up
calls_up p k cs =
    let xs : List ℕ = 0 ∷ (0 ∷ id_bytes 0 255) in
    let n : length xs ≡ 257 = ap (λ (m : ℕ). suc (suc m)) (id_bytes-length 255 0) in
    subst (λ (m : ℕ). Leads p (call_up k) cs m k (map (called_up p) cs)) n (writes_all p xs k cs)

-- a byte more, to any cards
abbrev Any : IdState → Type 0
Any s = Unit {0}

any : (cs : List IdState) → All Any cs
any [] = tt
any (s ∷ cs) = (tt, any cs)

one_more : {A : Type 0} (p x : ℕ) (k : Talk A) (f : IdState → IdState) (cs : List IdState) → Leads p (put x k) (map f cs) 1 k (map (λ s. id_write (f s) p x) cs)
one_more p x k f cs = writes {P = Any} p x k f (λ s. id_write (f s) p x) (λ s h. refl) cs (any cs)

pub activates : (p tag base : ℕ) (cs : List IdState) → Leads p (activate tag base) cs 259 (done []) (map (activated_by p (216 + tag) (224 + base)) cs)
unfolding activate
activates p tag base cs =
    on (calls_up p (put (216 + tag) (put (224 + base) (done []))) cs)
    (on (one_more p (216 + tag) (put (224 + base) (done [])) (called_up p) cs)
    (one_more p (224 + base) (done []) (λ s. id_write (called_up p s) p (216 + tag)) cs))

-- ---- a round, over cards of which none is away

-- with a tag or without: the address with which a card takes part in a round
abbrev part : IdState → ℕ
part s = cond (eqb s.tag 0) (station s) all_ones

part-tagged : (s : IdState) → Tagged s → part s ≡ all_ones
part-tagged s n = rw (ne_eqb s.tag 0 n)

part_free : (s : IdState) → s.tag ≡ 0 → part s ≡ station s
part_free s z = rw (eq-eqb s.tag 0 z)

-- a card, called up
up : (p : ℕ) (s : IdState) → Readable p s → called_up p s ≡ obeying p s.tag s.shift s
unfolding called_up wrote
up p s r = called p s r.here

-- a word that a tagged card does not drive
idles : (p j m w : ℕ) (s : IdState) → j < 64 → Tagged s → heard p 16 m (id_write (obeying p s.tag w s) p (128 + j)) ≡ obeying p s.tag (word_at j s) s
idles p j m w s j< n = ap (heard p 16 m) (asked p s.tag w j s j<) ∙ heard_mute p 16 m (obeying p s.tag (word_at j s) s) (obeying_drives p s.tag (word_at j s) s ∙ ne_eqb s.tag 0 n)

hears-tagged : (p a : ℕ) (s : IdState) → Readable p s → Tagged s → hears p a (called_up p s) ≡ idle p 2 s
unfolding hears
hears-tagged p a s r n =
    ap (hears p a) (up p s r)
    ∙ ap (λ (h : IdState). heard p 16 (a % 65536) (id_write (heard p 16 (a / 65536 % 65536) (id_write h p 129)) p 130)) (idles p 0 (a / 65536 / 65536 % 65536) s.shift s (omega arith) n)
    ∙ ap (λ (h : IdState). heard p 16 (a % 65536) (id_write h p 130)) (idles p 1 (a / 65536 % 65536) (word_at 0 s) s (omega arith) n)
    ∙ idles p 2 (a % 65536) (word_at 1 s) s (omega arith) n

-- the words of an address are those of the card that has it
hears-least : (p : ℕ) (c s : IdState) → Readable p c → Readable p s → hears p (station c) (called_up p s) ≡ judged p c s
unfolding hears
hears-least p c s rc rs =
    let w0 : station c / 65536 / 65536 % 65536 ≡ word_at 0 c = omega (arith, rc.fits0, rc.fits1, rc.fits2) in
    let w1 : station c / 65536 % 65536 ≡ word_at 1 c = omega (arith, rc.fits0, rc.fits1, rc.fits2) in
    let w2 : station c % 65536 ≡ word_at 2 c = omega (arith, rc.fits0, rc.fits1, rc.fits2) in
    λ i. heard p 16 (w2 i) (id_write (heard p 16 (w1 i) (id_write (heard p 16 (w0 i) (id_write (up p s rs i) p 128)) p 129)) p 130)

-- the least address is that of the lowest card
below : (p : ℕ) (s : IdState) → Readable p s → station s ≤ all_ones
below p s r = omega (arith, r.fits0, r.fits1, r.fits2)

least-none : (cs : List IdState) → All Tagged cs → least (map part cs) ≡ all_ones
unfolding least
least-none [] a = refl
least-none (s ∷ cs) (t, a) = omega (arith, part-tagged s t, least-none cs a)

least_low : (p : ℕ) (c : IdState) (cs : List IdState) → c.tag ≡ 0 → Some (λ s. s ≡ c) cs → least (map part cs) ≤ station c
unfolding least
least_low p c [] z a = absurd a
least_low p c (s ∷ cs) z (inl e) = let q : part s ≡ station c = part_free s (ap (λ (x : IdState). x.tag) e ∙ z) ∙ ap station e in omega arith
least_low p c (s ∷ cs) z (inr a) = omega (arith, least_low p c cs z a)

least_high : (p : ℕ) (c : IdState) (cs : List IdState) → station c ≤ all_ones → All (λ s. s.tag ≡ 0 → station c ≤ station s) cs → station c ≤ least (map part cs)
unfolding least
least_high p c [] h a = h
least_high p c (s ∷ cs) h (l, a) = go (eqb s.tag 0) refl (least_high p c cs h a)
  where
    go : (b : Bool) → eqb s.tag 0 ≡ b → station c ≤ least (map part cs) → station c ≤ min (part s) (least (map part cs))
    go true e r = omega (arith, part_free s (eqb-true _ _ e), l (eqb-true _ _ e))
    go false e r = omega (arith, part-tagged s (eqb-false _ _ e))

in_it : (p : ℕ) (c : IdState) (cs : List IdState) → All (Readable p) cs → Some (λ s. s ≡ c) cs → Readable p c
in_it p c [] a s = absurd s
in_it p c (s ∷ cs) (r, a) (inl e) = subst (Readable p) e r
in_it p c (s ∷ cs) (r, a) (inr x) = in_it p c cs a x

-- after a tag: who had the address takes part no more
either : (b : Bool) (x : ℕ) → x ≡ all_ones → cond b all_ones x ≡ all_ones
either true x e = refl
either false x e = e

module _ (p t : ℕ) (c s e : IdState) (t> : 0 < t) (a : After p t c s e) where
  same : station e ≡ station s
  same = ap (λ (k : Kept). (get_or k.words 0 0 * 65536 + get_or k.words 1 0) * 65536 + get_or k.words 2 0) a.kept

  after-part : part e ≡ cond (eqb (part s) (station c)) all_ones (part s)
  after-part = go a.tagging
    where
      go : Ended t (station c) s e → part e ≡ cond (eqb (part s) (station c)) all_ones (part s)
      go (was n q) = part-tagged e (λ z. n (sym q ∙ z)) ∙ sym (either (eqb (part s) (station c)) (part s) (part-tagged s n))
      go (took z q r) = part-tagged e (λ y. absurd (omega arith)) ∙ sym (ap (λ (b : Bool). cond b all_ones (part s)) (eq-eqb (part s) (station c) (part_free s z ∙ q)))
      go (waits z n r) = part_free e r ∙ same ∙ sym (part_free s z) ∙ sym (ap (λ (b : Bool). cond b all_ones (part s)) (ne_eqb (part s) (station c) (λ x. n (sym (part_free s z) ∙ x))))

  after-readable : Readable p s → Readable p e
  after-readable f = record {
    fits0 = subst (λ (k : Kept). get_or k.words 0 0 < 65536) (sym a.kept) f.fits0;
    fits1 = subst (λ (k : Kept). get_or k.words 1 0 < 65536) (sym a.kept) f.fits1;
    fits2 = subst (λ (k : Kept). get_or k.words 2 0 < 65536) (sym a.kept) f.fits2;
    here = a.here';
  }

-- What a round comes to that reads the address a: the accesses, and of each card what it is after the tag t.
record Rounded (p : ℕ) (cs : List IdState) (a : ℕ) : Type 1 where
  leads : {A : Type 0} (k : ℕ → Talk A) → Leads p (call_up (read_address k)) cs 308 (k a) (map (λ s. hears p a (called_up p s)) cs)
  tags : (t : ℕ) → 0 < t → t < 8 → (a ≡ all_ones → ⊥) → (s : IdState) → Readable p s → part (id_write (hears p a (called_up p s)) p (208 + t)) ≡ cond (eqb (part s) a) all_ones (part s)
  stays : (t : ℕ) → 0 < t → t < 8 → (a ≡ all_ones → ⊥) → (s : IdState) → Readable p s → Readable p (id_write (hears p a (called_up p s)) p (208 + t))

rounded : (p : ℕ) (cs : List IdState) → p < 16 → All (Readable p) cs → Rounded p cs (least (map part cs))
rounded p cs p< r = go (lowest cs)
  where
    go : Least cs → Rounded p cs (least (map part cs))
    go (nobody a) = subst (Rounded p cs) (sym (least-none cs a)) (record {
      leads = λ k. subst (λ (ds : List IdState). Leads p (call_up (read_address k)) cs 308 (k all_ones) ds)
          (map-eq (idle p 2) (λ s. hears p all_ones (called_up p s)) (λ s (q : Readable p s × Tagged s). sym (hears-tagged p all_ones s q.0 q.1)) cs (all_both (λ s. Readable p s × Tagged s) (λ s x y. (x, y)) cs r a))
          (round_none p k cs r a);
      tags = λ t l h n. absurd (n refl);
      stays = λ t l h n. absurd (n refl);
    })
    go (this c z some low) =
        let rc : Readable p c = in_it p c cs r some in
        let e : station c ≡ least (map part cs) = omega (arith, least_low p c cs z some, least_high p c cs (below p c rc) low) in
        let after : (t : ℕ) → 0 < t → t < 8 → (s : IdState) → Readable p s → After p t c s (id_write (hears p (station c) (called_up p s)) p (208 + t)) =
        λ t l h s rs. subst (λ (x : IdState). After p t c s (id_write x p (208 + t))) (sym (hears-least p c s rc rs)) (ends p t c s (judged p c s) p< l h rc rs (now3 p c p< rc z s rs)) in
        subst (Rounded p cs) e (record {
          leads = λ k. subst (λ (ds : List IdState). Leads p (call_up (read_address k)) cs 308 (k (station c)) ds)
              (map-eq (judged p c) (λ s. hears p (station c) (called_up p s)) (λ s (q : Readable p s). sym (hears-least p c s rc q)) cs r)
              (round p c p< rc z k cs (all_both (Rival p c) (λ s x y. (x, y)) cs r low) some);
          tags = λ t l h n s rs. after-part p t c s (id_write (hears p (station c) (called_up p s)) p (208 + t)) l (after t l h s rs);
          stays = λ t l h n s rs. after-readable p t c s (id_write (hears p (station c) (called_up p s)) p (208 + t)) l (after t l h s rs) rs;
        })

-- ---- the rounds, over such cards
abbrev Gone : {A : Type 0} → ℕ → ℕ → (List ℕ → Talk A) → List IdState → List ℕ → Type 0
Gone p free k cs xs = Leads p (rounds free k) cs (rounds_cost (length xs) free) (k xs) (map (through p free xs) cs)

-- one round more
module _ {A : Type 0} (p free : ℕ) (k : List ℕ → Talk A) (cs : List IdState) (p< : p < 16) (h : suc free ≤ 7) (r : All (Readable p) cs) where
  abbrev a : ℕ
  a = least (map part cs)

  abbrev more : ℕ → Talk A
  more x = put (208 + (7 - free)) (rounds free (λ xs. k (x ∷ xs)))

  abbrev next : IdState → IdState
  next s = id_write (hears p a (called_up p s)) p (208 + (7 - free))

  abbrev read : List IdState
  read = map (λ s. hears p a (called_up p s)) cs

  one : Rounded p cs a
  one = rounded p cs p< r

  comes_to : (b : Bool) → eqb a all_ones ≡ b → Leads p (rounds (suc free) k) cs 308 (cond b (k []) (more a)) read
  unfolding rounds
  comes_to b e = subst (λ (c : Bool). Leads p (rounds (suc free) k) cs 308 (cond c (k []) (more a)) read) e (one.leads (λ x. cond (eqb x all_ones) (k []) (more x)))

  goes_on_lem : (b : Bool) → eqb a all_ones ≡ b → ((k' : List ℕ → Talk A) (ds : List IdState) → All (Readable p) ds → Gone p free k' ds (found free (map part ds))) → Gone p (suc free) k cs (cond b [] (a ∷ found free (struck a (map part cs))))
  unfolding struck through
  goes_on_lem true e again =
      let c : 308 ≡ rounds_cost 0 (suc free) = rw (lt-ltb 0 (suc free) (omega arith)) in
      subst₂ (λ (n : ℕ) (x : ℕ). Leads p (rounds (suc free) k) cs n (k []) (map (λ s. hears p x (called_up p s)) cs)) c (eqb-true _ _ e) (comes_to true e)
  goes_on_lem false e again =
      let n : a ≡ all_ones → ⊥ = eqb-false _ _ e in
      let t> : 0 < 7 - free = omega arith in
      let t< : 7 - free < 8 = omega arith in
      let tagged = on (comes_to false e) (one_more p (208 + (7 - free)) (rounds free (λ xs. k (a ∷ xs))) (λ s. hears p a (called_up p s)) cs) in
      let rest = again (λ xs. k (a ∷ xs)) (map next cs) (all_map {P = Readable p} (Readable p) next (one.stays (7 - free) t> t< n) cs r) in
      let q : map part (map next cs) ≡ struck a (map part cs) =
      map-map part next cs ∙ map-eq (λ s. part (next s)) (λ s. cond (eqb (part s) a) all_ones (part s)) (one.tags (7 - free) t> t< n) cs r ∙ sym (map-map (λ x. cond (eqb x a) all_ones x) part cs) in
      let xs : List ℕ = found free (struck a (map part cs)) in
      let rest' = subst (λ (l : List ℕ). Gone p free (λ xs. k (a ∷ xs)) (map next cs) (found free l)) q rest in
      subst₂ (λ (m : ℕ) (ds : List IdState). Leads p (rounds (suc free) k) cs m (k (a ∷ xs)) ds) (omega (arith, costs_on (length xs) free)) (map-map (through p free xs) next cs) (on tagged rest')

rounds-gone : {A : Type 0} (p free : ℕ) (k : List ℕ → Talk A) (cs : List IdState) → p < 16 → free ≤ 7 → All (Readable p) cs → Gone p free k cs (found free (map part cs))
unfolding rounds found through
rounds-gone p zero k cs p< h r = subst (λ (ds : List IdState). Leads p (k []) cs 0 (k []) ds) (sym (map-id cs)) (stay p (k []) cs)
rounds-gone {A} p (suc free) k cs p< h r = goes_on_lem p free k cs p< h r (eqb (least (map part cs)) all_ones) refl (λ (k' : List ℕ → Talk A) (ds : List IdState). rounds-gone p free k' ds p< (omega arith))

-- ---- the search
cleared : (p : ℕ) (s : IdState) → Readable p s → id_write (called_up p s) p 208 ≡ obeying p 0 s.shift s
cleared p s r = ap (λ (x : IdState). id_write x p 208) (up p s r) ∙ clears p s.tag s.shift s

search-gone : (p : ℕ) (cs : List IdState) → p < 16 → All (Readable p) cs →
    Leads p search cs (258 + rounds_cost (length (found 7 (map station cs))) 7) (done (found 7 (map station cs))) (map (searched_by p (found 7 (map station cs))) cs)
unfolding search searched_by
search-gone p cs p< r =
    let begun : IdState → IdState = λ s. id_write (called_up p s) p 208 in
    let started = on (calls_up p (put 208 (rounds 7 done)) cs) (one_more p 208 (rounds 7 done) (called_up p) cs) in
    let still : All (Readable p) (map begun cs) = all_map {P = Readable p} (Readable p) begun (λ s q. subst (Readable p) (sym (cleared p s q)) (record { fits0 = q.fits0; fits1 = q.fits1; fits2 = q.fits2; here = λ _. refl })) cs r in
    let e : map part (map begun cs) ≡ map station cs = map-map part begun cs ∙ map-eq (λ s. part (begun s)) station (λ s q. ap part (cleared p s q)) cs r in
    let xs : List ℕ = found 7 (map station cs) in
    let rest = subst (λ (l : List ℕ). Gone p 7 done (map begun cs) (found 7 l)) e (rounds-gone p 7 done (map begun cs) p< (omega arith) still) in
    subst (λ (ds : List IdState). Leads p search cs (258 + rounds_cost (length xs) 7) (done xs) ds) (map-map (through p 7 xs) begun cs) (on started rest)

-- ---- with cards that are away among them
module _ (p : ℕ) where
  here : (s : IdState) → away p s ≡ false → Here p s
  here s e c = sym (eqb-true p s.port (not-false (eqb p s.port) (sym (ap (λ (b : Bool). b && not (eqb p s.port)) c) ∙ e)))

  readables : (cs : List IdState) → All Worded cs → All (Readable p) (present p cs)
  unfolding present
  readables [] a = tt
  readables (s ∷ cs) (w, a) = go (away p s) refl (readables cs a)
    where
      go : (b : Bool) → away p s ≡ b → All (Readable p) (present p cs) → All (Readable p) (cond b (present p cs) (s ∷ present p cs))
      go true e r = r
      go false e r = (record { fits0 = w.0; fits1 = w.1; fits2 = w.2; here = here s e }, r)

  parts : (cs : List IdState) → real (map (takes_part p) cs) ≡ real (map station (present p cs))
  unfolding present
  parts [] = refl
  parts (s ∷ cs) = go (away p s) (parts cs)
    where
      go : (b : Bool) → real (map (takes_part p) cs) ≡ real (map station (present p cs)) → real (cond b all_ones (station s) ∷ map (takes_part p) cs) ≡ real (map station (cond b (present p cs) (s ∷ present p cs)))
      go true r = real_ones (map (takes_part p) cs) ∙ r
      go false r = real_same (station s) (map (takes_part p) cs) (map station (present p cs)) r

  -- what is away stays as it is
  module _ (s : IdState) (e : away p s ≡ true) where
    wrote-away : (xs : List ℕ) → wrote p xs s ≡ s
    unfolding wrote
    wrote-away [] = refl
    wrote-away (x ∷ xs) = ap (wrote p xs) (away-write p s e x) ∙ wrote-away xs

    heard-away : (n w : ℕ) → heard p n w s ≡ s
    unfolding heard
    heard-away zero w = refl
    heard-away (suc n) w = ap (heard p n (w * 2 % 65536)) (away-read p s e (w / 32768)) ∙ heard-away n (w * 2 % 65536)

    word-away : (n w x : ℕ) → heard p n w (id_write s p x) ≡ s
    word-away n w x = ap (heard p n w) (away-write p s e x) ∙ heard-away n w

    hears-away : (a : ℕ) → hears p a (called_up p s) ≡ s
    unfolding hears called_up
    hears-away a =
        ap (hears p a) (wrote-away (0 ∷ 0 ∷ id_bytes 0 255))
        ∙ ap (λ (h : IdState). heard p 16 (a % 65536) (id_write (heard p 16 (a / 65536 % 65536) (id_write h p 129)) p 130)) (word-away 16 (a / 65536 / 65536 % 65536) 128)
        ∙ ap (λ (h : IdState). heard p 16 (a % 65536) (id_write h p 130)) (word-away 16 (a / 65536 % 65536) 129)
        ∙ word-away 16 (a % 65536) 130

    through-away : (free : ℕ) (xs : List ℕ) → through p free xs s ≡ s
    unfolding through
    through-away zero xs = refl
    through-away (suc free) [] = hears-away all_ones
    through-away (suc free) (a ∷ xs) = ap (λ (h : IdState). through p free xs (id_write h p (208 + (7 - free)))) (hears-away a) ∙ ap (through p free xs) (away-write p s e (208 + (7 - free))) ∙ through-away free xs

    searched-away : (xs : List ℕ) → searched_by p xs s ≡ s
    unfolding searched_by called_up
    searched-away xs = ap (λ (h : IdState). through p 7 xs (id_write h p 208)) (wrote-away (0 ∷ 0 ∷ id_bytes 0 255)) ∙ ap (through p 7 xs) (away-write p s e 208) ∙ through-away 7 xs

-- The search of any cards: what it finds, how many accesses it makes, and what becomes of each card.
pub record Searches (p : ℕ) (cs : List IdState) : Type 0 where
  pub answered : (run p search cs).answer ≡ found 7 (map (takes_part p) cs)
  pub cost : length (run p search cs).accesses ≡ 258 + rounds_cost (length (found 7 (map (takes_part p) cs))) 7
  pub left : (run p search cs).cards ≡ map (searched_by p (found 7 (map (takes_part p) cs))) cs

pub searches : (p : ℕ) (cs : List IdState) → p < 16 → All Worded cs → Searches p cs
unfolding run
searches p cs p< w =
    let ds : List IdState = present p cs in
    let xs : List ℕ = found 7 (map station ds) in
    let e : xs ≡ found 7 (map (takes_part p) cs) = sym (found_real 7 (map (takes_part p) cs) (map station ds) (parts p cs)) in
    let l = search-gone p ds p< (readables p cs w) in
    let all = aside p search (searched_by p xs) (λ s q. searched-away p s q xs) cs l.left in
    record {
      answered = ap (λ (r : Ran (List ℕ)). r.answer) all ∙ l.answered ∙ e;
      cost = ap (λ (r : Ran (List ℕ)). length r.accesses) all ∙ l.counted ∙ omega arith ∙ ap (λ (ys : List ℕ). 258 + rounds_cost (length ys) 7) e;
      left = ap (λ (r : Ran (List ℕ)). r.cards) all ∙ ap (λ (ys : List ℕ). map (searched_by p ys) cs) e;
    }
