-- The search finds every card: D0h takes the tags away, and then the rounds find one after the other.
-- Assumes nothing.
use Prim.Native.Nat.{ℕ, ◌+◌, ◌*◌}
use mathlib.Core.Path.{◌≡◌, refl, sym, ◌∙◌, ap, subst}
use mathlib.Core.Bool.{cond}
use mathlib.Core.List.{List, [], ◌∷◌, map, map-map}
use native.Mathlib.Omega.{arith}
use native.Mathlib.Nat.{zero-add}
use lib.Dec.{ltb}
use lib.ListN.{length, length-map}
use borrow.Author.Tests.{eq-eqb}
use Rattle.port_rules.specs.declared.IdState.{IdState}
use Rattle.port_rules.specs.Card.{id_write, id_command}
use Rattle.port_rules.specs.Port.{Talk, done, run}
use Rattle.port_rules.specs.Search.{put, call_up, rounds, search}
use Rattle.found.specs.Theorems.{All, station, keeping, Here, Findable, FindsAll, ascending, place, TheSearchFindsEveryCard, TheSearchCosts}
use Rattle.port_rules.specs.Leads.{Leads, on}
use Rattle.found.proofs.Run.{writes, map-eq, all_map}
use Rattle.found.proofs.Called.{obeying, calls}
use Rattle.found.proofs.Rounds.{untagged, Finds, finds, new_tag, costs}

-- D0h takes every tag away
cleared : ℕ → IdState → IdState
cleared p s = obeying p 0 s.shift s

pub clears : (p t w : ℕ) (s : IdState) → id_write (obeying p t w s) p 208 ≡ obeying p 0 w s
unfolding id_write id_command
clears p t w s = rw (eq-eqb p p refl)

all_untagged : (p : ℕ) (cs : List IdState) → untagged (map (cleared p) cs) ≡ map station cs
unfolding cleared untagged
all_untagged p [] = refl
all_untagged p (s ∷ cs) = ap (λ (xs : List ℕ). station s ∷ xs) (all_untagged p cs)

clear-findable : (p : ℕ) (s : IdState) → Findable p s → Findable p (cleared p s)
unfolding cleared
clear-findable p s f = record { fits0 = f.fits0; fits1 = f.fits1; fits2 = f.fits2; not_ones = f.not_ones; here = λ _. refl }

starts : {A : Type 0} (p : ℕ) (k : Talk A) (cs : List IdState) → All (Findable p) cs → Leads p (call_up (put 208 k)) cs 258 k (map (cleared p) cs)
unfolding cleared
starts p k cs f =
    on (calls p (put 208 k) (λ (s : IdState) (q : Findable p s). q.here) cs f)
    (writes p 208 k (λ s. obeying p s.tag s.shift s) (cleared p) (λ (s : IdState) (q : Findable p s). clears p s.tag s.shift s) cs f)

concludes : (p : ℕ) (cs ds : List IdState) → All (Findable p) cs → Finds p 7 done (map (cleared p) cs) ds → FindsAll p cs (run p search cs)
unfolding search run cleared
concludes p cs ds f g =
    let l = on (starts p (rounds 7 done) cs f) g.leads in
    let e : untagged (map (cleared p) cs) ≡ map station cs = all_untagged p cs in
    let n : length (untagged (map (cleared p) cs)) ≡ length cs = ap length e ∙ length-map cs station in
    let a : (run p search cs).answer ≡ ascending (map station cs) = l.answered ∙ ap ascending e in
    record {
      found = a;
      tags =
          ap (map (λ s. s.tag)) l.left ∙ g.tags ∙ map-map (new_tag 7 (ascending (untagged (map (cleared p) cs)))) (cleared p) cs
          ∙ ap (λ (xs : List ℕ). map (λ s. 0 + place (station s) xs) cs) (sym l.answered)
          ∙ map-eq (λ s. 0 + place (station s) (run p search cs).answer) (λ s. place (station s) (run p search cs).answer) (λ (s : IdState) (q : Findable p s). zero-add _) cs f;
      kept = ap (map keeping) l.left ∙ g.same ∙ map-map keeping (cleared p) cs;
      here = subst (All (Here p)) (sym l.left) g.heres;
      cost = l.counted ∙ ap (λ (m : ℕ). 258 + costs m 7 + 0) n ∙ omega arith;
    }

pub finds_every_card : TheSearchFindsEveryCard
finds_every_card p cs h =
    let e : untagged (map (cleared p) cs) ≡ map station cs = all_untagged p cs in
    let n : length (untagged (map (cleared p) cs)) ≡ length cs = ap length e ∙ length-map cs station in
    let (ds, g) = finds p 7 done (map (cleared p) cs) h.port (omega arith) (omega arith) (rw e h.distinct) (all_map {P = Findable p} (Findable p) (cleared p) (clear-findable p) cs h.findable) in
    concludes p cs ds h.findable g

-- the accesses for m cards
abbrev price : ℕ → ℕ
price m = 258 + 309 * m + cond (ltb m 7) 308 0

pub costs_so : TheSearchCosts
costs_so p cs h =
    let c = (finds_every_card p cs h).cost in
    record {
      none = λ e. c ∙ ap price e;
      two = λ e. c ∙ ap price e;
      seven = λ e. c ∙ ap price e;
    }
