-- Activation: after the sequence every card obeys; the test leaves the one with the tag; the last command is its alone. After a search the tags are the places found.
-- Assumes nothing.
use Prim.Native.Nat.{ℕ, ◌+◌, ◌-◌, ◌<◌}
use mathlib.Core.Path.{◌≡◌, refl, sym, ◌∙◌, ap}
use mathlib.Core.Bool.{Bool, true, false, cond}
use mathlib.Core.List.{List, [], ◌∷◌, map, map-map}
use native.Mathlib.Omega.{arith}
use lib.Dec.{eqb}
use borrow.Author.Tests.{lt-ltb, le-ltb, eq-eqb, ne_eqb, eqb-true, eqb-false}
use Rattle.port_rules.specs.declared.IdState.{IdState}
use Rattle.port_rules.specs.Card.{based, id_write, id_command}
use Rattle.port_rules.specs.Port.{done, run}
use Rattle.port_rules.specs.Search.{put, search, activate}
use Rattle.port_rules.specs.Leads.{on}
use Rattle.found.specs.Theorems.{Here, place, station, Kept, keeping, configured, activated_by, ActivationActivatesTheTaggedCard, AFoundCardIsActivatedAlone}
use Rattle.found.proofs.Found.{finds_every_card}
use Rattle.found.proofs.Run.{writes}
use Rattle.found.proofs.Called.{obeying, out, calls}
use Rattle.found.proofs.Round.{deaf}

tested : (p t w x : ℕ) (s : IdState) → x < 8 → id_write (obeying p t w s) p (216 + x) ≡ cond (eqb x t) (obeying p t w s) (record { command = false; port = 16; at = 0; tag = t; shift = w; address = s.address; active = s.active; due = s.due; words = s.words })
unfolding id_write id_command
tested p t w x s h =
    let e : 216 + x - 216 ≡ x = omega arith in
    rw (eq-eqb p p refl, le-ltb (216 + x) 128 (omega arith), le-ltb (216 + x) 192 (omega arith), le-ltb (216 + x) 208 (omega arith), le-ltb (216 + x) 216 (omega arith), lt-ltb (216 + x) 224 (omega arith), e)

abbrev active_at : ℕ → IdState → IdState
active_at b s = record { command = false; port = 16; at = 0; tag = s.tag; shift = s.shift; address = b; active = true; due = s.due; words = s.words }

at_base : (p b : ℕ) (s : IdState) → b < 32 → id_write (obeying p s.tag s.shift s) p (224 + b) ≡ active_at (configured b s.address) s
unfolding id_write id_command
at_base p b s h =
    rw (eq-eqb p p refl, le-ltb (224 + b) 128 (omega arith), le-ltb (224 + b) 192 (omega arith), le-ltb (224 + b) 208 (omega arith), le-ltb (224 + b) 216 (omega arith), le-ltb (224 + b) 224 (omega arith)) (go (eqb b 31) refl)
  where
    go : (c : Bool) → eqb b 31 ≡ c → cond (eqb (224 + b) 255) (active_at s.address s) (active_at (based s.address (224 + b - 224)) s) ≡ active_at (cond c s.address (based s.address b)) s
    go true e = rw (eq-eqb (224 + b) 255 (omega (arith, eqb-true b 31 e)))
    go false e = let n : b ≡ 31 → ⊥ = eqb-false b 31 e in let q : 224 + b - 224 ≡ b = omega arith in rw (ne_eqb (224 + b) 255 (omega arith), q)

-- one card, by whether it has the tag
each : (p t b : ℕ) (s : IdState) → p < 16 → t < 8 → b < 32 → id_write (id_write (obeying p s.tag s.shift s) p (216 + t)) p (224 + b) ≡ activated_by t b s
each p t b s p< t< b< = ap (λ (h : IdState). id_write h p (224 + b)) (tested p s.tag s.shift t s t<) ∙ go (eqb s.tag t) refl
  where
    go : (c : Bool) → eqb s.tag t ≡ c → id_write (cond (eqb t s.tag) (obeying p s.tag s.shift s) (out s.shift s)) p (224 + b) ≡ activated_by t b s
    go true e = let q : s.tag ≡ t = eqb-true _ _ e in rw (eq-eqb t s.tag (sym q), eq-eqb s.tag t q) (at_base p b s b<)
    go false e = rw (ne_eqb t s.tag (λ q. eqb-false _ _ e (sym q)), e) (deaf p s.shift (224 + b) s p< (omega arith))

pub activates : ActivationActivatesTheTaggedCard
unfolding activate run
activates p t b cs p< t< b< a =
    let up = calls p (put (216 + t) (put (224 + b) (done []))) (λ (s : IdState) (q : Here p s). q) cs a in
    let one = writes p (216 + t) (put (224 + b) (done [])) (λ s. obeying p s.tag s.shift s) (λ s. id_write (obeying p s.tag s.shift s) p (216 + t)) (λ (s : IdState) (q : Here p s). refl) cs a in
    let two = writes p (224 + b) (done []) (λ s. id_write (obeying p s.tag s.shift s) p (216 + t)) (activated_by t b) (λ (s : IdState) (q : Here p s). each p t b s p< t< b<) cs a in
    let l = on up (on one two) in
    (l.left, l.counted)

-- two lists of cards that agree, place by place, in tag and in what is kept, agree in what these give
paired : {X : Type 0} (h : ℕ → Kept → X) (f : IdState → ℕ) (ds cs : List IdState) → map (λ s. s.tag) ds ≡ map f cs → map keeping ds ≡ map keeping cs →
    map (λ s. h s.tag (keeping s)) ds ≡ map (λ s. h (f s) (keeping s)) cs
paired h f [] [] e k = refl
paired h f [] (c ∷ cs) e k = absurd (let z : ◌≡◌ {A = ℕ} 0 1 = cc in omega arith)
paired h f (d ∷ ds) [] e k = absurd (let z : ◌≡◌ {A = ℕ} 0 1 = cc in omega arith)
paired h f (d ∷ ds) (c ∷ cs) e k =
    let t : d.tag ≡ f c = cc in
    let ts : map (λ s. s.tag) ds ≡ map f cs = cc in
    let w : keeping d ≡ keeping c = cc in
    let ws : map keeping ds ≡ map keeping cs = cc in
    λ i. h (t i) (w i) ∷ paired h f ds cs ts ws i

pub activates-one : AFoundCardIsActivatedAlone
activates-one p k base cs h k< b< =
    let r = run p search cs in
    let all = finds_every_card p cs h in
    let end : (run p (activate k base) r.cards).cards ≡ map (activated_by k base) r.cards = (activates p k base r.cards h.port k< b< all.here).0 in
    record {
      active = ap (map (λ s. s.active)) end ∙ map-map (λ s. s.active) (activated_by k base) r.cards
          ∙ paired (λ t m. cond (eqb t k) true m.active) (λ s. place (station s) r.answer) r.cards cs all.tags all.kept;
      address = ap (map (λ s. s.address)) end ∙ map-map (λ s. s.address) (activated_by k base) r.cards
          ∙ paired (λ t m. cond (eqb t k) (configured base m.address) m.address) (λ s. place (station s) r.answer) r.cards cs all.tags all.kept;
    }
