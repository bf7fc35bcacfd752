-- One round: the untagged card with the least station is read out and left in ID_CMD, and the tag written next is its.
-- Assumes nothing.
use Prim.Native.Nat.{ℕ, ◌+◌, ◌-◌, ◌*◌, ◌<◌, ◌≤◌}
use mathlib.Core.Path.{◌≡◌, refl, sym, ◌∙◌, ap, subst, subst₂}
use mathlib.Core.Bool.{Bool, true, false, false≢true}
use mathlib.Core.List.{List, [], ◌∷◌, map, map-map}
use mathlib.Core.Logic.{inl, inr}
use native.Mathlib.Omega.{arith}
use lib.Dec.{eqb}
use borrow.Author.Tests.{lt-ltb, le-ltb, eq-eqb, ne_eqb, eqb-true, eqb-false}
use Rattle.port_rules.specs.declared.IdState.{IdState}
use Rattle.port_rules.specs.Card.{id_write, id_wait, id_command, id_drives}
use Rattle.port_rules.specs.Port.{Talk}
use Rattle.port_rules.specs.Search.{put, bits, call_up, read_address, all_ones}
use Rattle.found.specs.Theorems.{All, word_at, station, keeping, Here, Findable}
use Rattle.port_rules.specs.Leads.{Leads, on}
use Rattle.found.proofs.Run.{writes, all_map}
use Rattle.found.proofs.Called.{obeying, out, calls}
use Rattle.found.proofs.Contend.{Some, some-map, Drives, Above, Mute, reads, reads-ones, ones, sixteen, heard_mute, heard-same, heard_other, out_mute}
use Rattle.found.specs.OneCard.{heard}

-- what a round asks of a card: 16 bits a word, and that it is not in ID_CMD at another port
pub record Readable (p : ℕ) (s : IdState) : Type 0 where
  pub fits0 : word_at 0 s < 65536
  pub fits1 : word_at 1 s < 65536
  pub fits2 : word_at 2 s < 65536
  pub here : Here p s

pub readable : (p : ℕ) (s : IdState) → Findable p s → Readable p s
readable p s f = record { fits0 = f.fits0; fits1 = f.fits1; fits2 = f.fits2; here = f.here }

-- commands to a card in ID_CMD: a read command, a tag where there is none, a tag where there is one; and to a card that is out
pub asked : (p t w j : ℕ) (s : IdState) → j < 64 → id_write (obeying p t w s) p (128 + j) ≡ obeying p t (word_at j s) s
unfolding id_write id_command
asked p t w j s h =
    let e : 128 + j - 128 ≡ j = omega arith in
    rw (eq-eqb p p refl, le-ltb (128 + j) 128 (omega arith), lt-ltb (128 + j) 192 (omega arith), e)

takes : (p w t : ℕ) (s : IdState) → 0 < t → t < 8 → id_write (obeying p 0 w s) p (208 + t) ≡ obeying p t w s
unfolding id_write id_command
takes p w t s l h =
    let e : 208 + t - 208 ≡ t = omega arith in
    rw (eq-eqb p p refl, le-ltb (208 + t) 128 (omega arith), le-ltb (208 + t) 192 (omega arith), le-ltb (208 + t) 208 (omega arith), lt-ltb (208 + t) 216 (omega arith), ne_eqb (208 + t) 208 (omega arith), e)

keeps : (p v w t : ℕ) (s : IdState) → 0 < t → t < 8 → (v ≡ 0 → ⊥) → id_write (obeying p v w s) p (208 + t) ≡ obeying p v w s
unfolding id_write id_command
keeps p v w t s l h n =
    rw (eq-eqb p p refl, le-ltb (208 + t) 128 (omega arith), le-ltb (208 + t) 192 (omega arith), le-ltb (208 + t) 208 (omega arith), lt-ltb (208 + t) 216 (omega arith), ne_eqb (208 + t) 208 (omega arith), ne_eqb v 0 n)

pub deaf : (p w x : ℕ) (s : IdState) → p < 16 → (x ≡ 0 → ⊥) → id_write (out w s) p x ≡ out w s
unfolding id_write id_wait
deaf p w x s h n = rw (ne_eqb x 0 n, ne_eqb p 16 (omega arith))

pub obeying_drives : (p t w : ℕ) (s : IdState) → id_drives (obeying p t w s) p ≡ eqb t 0
unfolding id_drives
obeying_drives p t w s = rw (eq-eqb p p refl)

-- what has become of s within a round, where P says that its words so far are those of the least
pub data Now (p : ℕ) (P : Type 0) (s h : IdState) : Type 0 where
  tagged : (s.tag ≡ 0 → ⊥) → (w : ℕ) → h ≡ obeying p s.tag w s → Now p P s h
  stands : s.tag ≡ 0 → P → (w : ℕ) → h ≡ obeying p s.tag w s → Now p P s h
  fell : s.tag ≡ 0 → (P → ⊥) → (w : ℕ) → h ≡ out w s → Now p P s h

abbrev asks : ℕ → ℕ → IdState → IdState
asks p j h = id_write h p (128 + j)

-- a word more
now_on : (p j m : ℕ) (P : Type 0) (s h : IdState) → p < 16 → j < 64 → word_at j s < 65536 → m < 65536 → Now p P s h → Now p (P × (word_at j s ≡ m)) s (heard p 16 m (asks p j h))
now_on p j m P s h p< j< w< m< (tagged n w e) =
    tagged n (word_at j s) (ap (λ (x : IdState). heard p 16 m (asks p j x)) e ∙ ap (heard p 16 m) (asked p s.tag w j s j<) ∙ heard_mute p 16 m (obeying p s.tag (word_at j s) s) (obeying_drives p s.tag (word_at j s) s ∙ ne_eqb s.tag 0 n))
now_on p j m P s h p< j< w< m< (fell t n w e) =
    fell t (λ q. n q.0) w (ap (λ (x : IdState). heard p 16 m (asks p j x)) e ∙ ap (heard p 16 m) (deaf p w (128 + j) s p< (omega arith)) ∙ heard_mute p 16 m (out w s) (out_mute p w s))
now_on p j m P s h p< j< w< m< (stands t q w e) = go (eqb (word_at j s) m) refl
  where
    c : IdState
    c = obeying p s.tag (word_at j s) s

    d : id_drives c p ≡ true
    d = obeying_drives p s.tag (word_at j s) s ∙ eq-eqb s.tag 0 t

    f : asks p j h ≡ c
    f = ap (asks p j) e ∙ asked p s.tag w j s j<

    go : (b : Bool) → eqb (word_at j s) m ≡ b → Now p (P × (word_at j s ≡ m)) s (heard p 16 m (asks p j h))
    go true r =
        let (v, g) = heard-same p 16 c d in
        stands t (q, eqb-true _ _ r) v (ap (heard p 16 m) f ∙ ap (λ (x : ℕ). heard p 16 x c) (sym (eqb-true _ _ r)) ∙ g)
    go false r =
        let (v, g) = heard_other p m c d w< m< (eqb-false _ _ r) in
        fell t (λ k. eqb-false _ _ r k.1) v (ap (heard p 16 m) f ∙ g)

-- what the others need: who drives after a read command has a word not below m
now-above : (p j m : ℕ) (P : Type 0) (s h : IdState) → p < 16 → j < 64 → word_at j s < 65536 → (s.tag ≡ 0 → P → m ≤ word_at j s) → Now p P s h → Above p m (asks p j h)
now-above p j m P s h p< j< w< l (tagged n w e) =
    rw (e, asked p s.tag w j s j<) (λ d. absurd (false≢true (sym (ne_eqb s.tag 0 n) ∙ sym (obeying_drives p s.tag (word_at j s) s) ∙ d)))
now-above p j m P s h p< j< w< l (stands t q w e) = rw (e, asked p s.tag w j s j<) (λ d. (l t q, w<))
now-above p j m P s h p< j< w< l (fell t n w e) =
    rw (e, deaf p w (128 + j) s p< (omega arith)) (λ d. absurd (false≢true (sym (out_mute p w s) ∙ d)))

now_drives : (p j m : ℕ) (P : Type 0) (s h : IdState) → j < 64 → s.tag ≡ 0 → P → word_at j s ≡ m → Now p P s h → Drives p m (asks p j h)
now_drives p j m P s h j< t q r (tagged n w e) = absurd (n t)
now_drives p j m P s h j< t q r (stands t' q' w e) = rw (e, asked p s.tag w j s j<) (obeying_drives p s.tag (word_at j s) s ∙ eq-eqb s.tag 0 t, r)
now_drives p j m P s h j< t q r (fell t' n w e) = absurd (n q)

-- a read command and sixteen reads, over cards of which each is f of a card that meets G
word : {A : Type 0} (p j m : ℕ) (k : ℕ → Talk A) (G P : IdState → Type 0) (f : IdState → IdState) → p < 16 → j < 64 → m < 65536 →
    ((s : IdState) → G s → Now p (P s) s (f s)) → ((s : IdState) → G s → word_at j s < 65536) → ((s : IdState) → G s → s.tag ≡ 0 → P s → m ≤ word_at j s) →
    (cs : List IdState) → All G cs → Some (λ s. G s × (s.tag ≡ 0) × P s × (word_at j s ≡ m)) cs →
    Leads p (put (128 + j) (bits 16 0 k)) (map f cs) 17 (k m) (map (λ s. heard p 16 m (asks p j (f s))) cs)
word p j m k G P f p< j< m< now w< l cs g some =
    let one = writes p (128 + j) (bits 16 0 k) f (λ s. asks p j (f s)) (λ (s : IdState) (h : G s). refl) cs g in
    let rest = reads p 16 m 0 k (map (λ s. asks p j (f s)) cs) m<
    (some-map (λ s. G s × (s.tag ≡ 0) × P s × (word_at j s ≡ m)) (Drives p m) (λ s. asks p j (f s)) (λ s q. now_drives p j m (P s) s (f s) j< q.1 q.2 q.3 (now s q.0)) cs some)
    (all_map {P = G} (Above p m) (λ s. asks p j (f s)) (λ s h. now-above p j m (P s) s (f s) p< j< (w< s h) (l s h) (now s h)) cs g) in
    subst₂ (λ (n : ℕ) (ds : List IdState). Leads p (put (128 + j) (bits 16 0 k)) (map f cs) 17 (k n) ds) (sixteen m m<) (map-map (heard p 16 m) (λ s. asks p j (f s)) cs) (on one rest)

-- The round. c is the untagged card with the least station; what is known of each card; what it agrees with c in; and what becomes of it
abbrev pub Rival : ℕ → IdState → IdState → Type 0
Rival p c s = Readable p s × (s.tag ≡ 0 → station c ≤ station s)

abbrev pub Agrees1 : IdState → IdState → Type 0
Agrees1 c s = Unit {0} × (word_at 0 s ≡ word_at 0 c)

abbrev pub Agrees2 : IdState → IdState → Type 0
Agrees2 c s = Agrees1 c s × (word_at 1 s ≡ word_at 1 c)

abbrev pub Agrees3 : IdState → IdState → Type 0
Agrees3 c s = Agrees2 c s × (word_at 2 s ≡ word_at 2 c)

abbrev pub called : ℕ → IdState → IdState
called p s = obeying p s.tag s.shift s

abbrev contended : ℕ → ℕ → IdState → IdState → IdState
contended p j c h = heard p 16 (word_at j c) (asks p j h)

abbrev pub judged : ℕ → IdState → IdState → IdState
judged p c s = contended p 2 c (contended p 1 c (contended p 0 c (called p s)))

now0 : (p : ℕ) (s : IdState) → Now p (Unit {0}) s (called p s)
now0 p s = go (eqb s.tag 0) refl
  where
    go : (b : Bool) → eqb s.tag 0 ≡ b → Now p (Unit {0}) s (called p s)
    go true e = stands (eqb-true _ _ e) tt s.shift refl
    go false e = tagged (eqb-false _ _ e) s.shift refl

module _ (p : ℕ) (c : IdState) (p< : p < 16) (fc : Readable p c) (free : c.tag ≡ 0) where
  now1 : (s : IdState) → Readable p s → Now p (Agrees1 c s) s (contended p 0 c (called p s))
  now1 s f = now_on p 0 (word_at 0 c) (Unit {0}) s (called p s) p< (omega arith) f.fits0 fc.fits0 (now0 p s)

  now2 : (s : IdState) → Readable p s → Now p (Agrees2 c s) s (contended p 1 c (contended p 0 c (called p s)))
  now2 s f = now_on p 1 (word_at 1 c) (Agrees1 c s) s (contended p 0 c (called p s)) p< (omega arith) f.fits1 fc.fits1 (now1 s f)

  pub now3 : (s : IdState) → Readable p s → Now p (Agrees3 c s) s (judged p c s)
  now3 s f = now_on p 2 (word_at 2 c) (Agrees2 c s) s (contended p 1 c (contended p 0 c (called p s))) p< (omega arith) f.fits2 fc.fits2 (now2 s f)

  own : Rival p c c
  own = (fc, λ _. omega arith)

  weaken : {X : Type 0} (x : X) (Q : X → Type 0) (xs : List X) → Q x → Some (λ y. y ≡ x) xs → Some Q xs
  weaken x Q [] q a = a
  weaken x Q (y ∷ ys) q (inl e) = inl (subst Q (sym e) q)
  weaken x Q (y ∷ ys) q (inr a) = inr (weaken x Q ys q a)

  pub round : {A : Type 0} (k : ℕ → Talk A) (cs : List IdState) → All (Rival p c) cs → Some (λ s. s ≡ c) cs →
      Leads p (call_up (read_address k)) cs 308 (k (station c)) (map (judged p c) cs)
  unfolding read_address
  round k cs a some =
      let up = calls p (read_address k) (λ (s : IdState) (q : Rival p c s). q.0.here) cs a in
      let w0 = word p 0 (word_at 0 c) (λ x. put 129 (bits 16 0 (λ y. put 130 (bits 16 0 (λ z. k ((x * 65536 + y) * 65536 + z)))))) (Rival p c) (λ s. Unit {0}) (called p) p< (omega arith) fc.fits0
      (λ s q. now0 p s) (λ s q. q.0.fits0) (λ s q t r. omega (arith, q.0.fits0, q.0.fits1, q.0.fits2, fc.fits1, fc.fits2, q.1 t)) cs a
      (weaken c (λ s. Rival p c s × (s.tag ≡ 0) × Unit {0} × (word_at 0 s ≡ word_at 0 c)) cs (own, free, tt, refl) some) in
      let w1 = word p 1 (word_at 1 c) (λ y. put 130 (bits 16 0 (λ z. k ((word_at 0 c * 65536 + y) * 65536 + z)))) (Rival p c) (Agrees1 c) (λ s. contended p 0 c (called p s)) p< (omega arith) fc.fits1
      (λ s q. now1 s q.0) (λ s q. q.0.fits1) (λ s q t r. omega (arith, q.0.fits1, q.0.fits2, fc.fits1, fc.fits2, q.1 t, r.1)) cs a
      (weaken c (λ s. Rival p c s × (s.tag ≡ 0) × Agrees1 c s × (word_at 1 s ≡ word_at 1 c)) cs (own, free, (tt, refl), refl) some) in
      let w2 = word p 2 (word_at 2 c) (λ z. k ((word_at 0 c * 65536 + word_at 1 c) * 65536 + z)) (Rival p c) (Agrees2 c) (λ s. contended p 1 c (contended p 0 c (called p s))) p< (omega arith) fc.fits2
      (λ s q. now2 s q.0) (λ s q. q.0.fits2) (λ s q t r. omega (arith, q.0.fits2, fc.fits2, q.1 t, r.0.1, r.1)) cs a
      (weaken c (λ s. Rival p c s × (s.tag ≡ 0) × Agrees2 c s × (word_at 2 s ≡ word_at 2 c)) cs (own, free, ((tt, refl), refl), refl) some) in
      on up (on w0 (on w1 w2))

-- no untagged card: forty-eight ones
abbrev pub idle : ℕ → ℕ → IdState → IdState
idle p j s = obeying p s.tag (word_at j s) s

abbrev pub Tagged : IdState → Type 0
Tagged s = s.tag ≡ 0 → ⊥

nobody : {A : Type 0} (p j : ℕ) (w : IdState → ℕ) (k : ℕ → Talk A) (cs : List IdState) → j < 64 → All Tagged cs →
    Leads p (put (128 + j) (bits 16 0 k)) (map (λ s. obeying p s.tag (w s) s) cs) 17 (k 65535) (map (idle p j) cs)
unfolding ones
nobody p j w k cs j< t =
    let one = writes p (128 + j) (bits 16 0 k) (λ s. obeying p s.tag (w s) s) (idle p j) (λ (s : IdState) (h : Tagged s). asked p s.tag (w s) j s j<) cs t in
    on one (reads-ones p 16 0 k (map (idle p j) cs) (all_map {P = Tagged} (Mute p) (idle p j) (λ s h. obeying_drives p s.tag (word_at j s) s ∙ ne_eqb s.tag 0 h) cs t))

pub round_none : {A : Type 0} (p : ℕ) (k : ℕ → Talk A) (cs : List IdState) → All (Readable p) cs → All Tagged cs →
    Leads p (call_up (read_address k)) cs 308 (k all_ones) (map (idle p 2) cs)
unfolding read_address
round_none p k cs f t =
    on (calls p (read_address k) (λ (s : IdState) (q : Readable p s). q.here) cs f)
    (on (nobody p 0 (λ s. s.shift) (λ x. put 129 (bits 16 0 (λ y. put 130 (bits 16 0 (λ z. k ((x * 65536 + y) * 65536 + z)))))) cs (omega arith) t)
    (on (nobody p 1 (word_at 0) (λ y. put 130 (bits 16 0 (λ z. k ((65535 * 65536 + y) * 65536 + z)))) cs (omega arith) t)
    (nobody p 2 (word_at 1) (λ z. k ((65535 * 65536 + 65535) * 65536 + z)) cs (omega arith) t)))

-- after the tag: what has become of a card
pub data Ended (t m : ℕ) (s e : IdState) : Type 0 where
  was : (s.tag ≡ 0 → ⊥) → e.tag ≡ s.tag → Ended t m s e
  took : s.tag ≡ 0 → station s ≡ m → e.tag ≡ t → Ended t m s e
  waits : s.tag ≡ 0 → (station s ≡ m → ⊥) → e.tag ≡ 0 → Ended t m s e

pub record After (p t : ℕ) (c s e : IdState) : Type 0 where
  pub tagging : Ended t (station c) s e
  pub kept : keeping e ≡ keeping s
  pub here' : e.command ≡ true → e.port ≡ p

pub ends : (p t : ℕ) (c s h : IdState) → p < 16 → 0 < t → t < 8 → Readable p c → Readable p s → Now p (Agrees3 c s) s h → After p t c s (id_write h p (208 + t))
ends p t c s h p< t> t< fc fs (tagged n w e) = rw (e, keeps p s.tag w t s t> t< n) (record { tagging = was n refl; kept = refl; here' = λ _. refl })
ends p t c s h p< t> t< fc fs (stands z q w e) =
    let f : id_write h p (208 + t) ≡ obeying p t w s = ap (λ (x : IdState). id_write x p (208 + t)) (e ∙ ap (λ (v : ℕ). obeying p v w s) z) ∙ takes p w t s t> t< in
    rw f (record { tagging = took z (omega (arith, q.0.0.1, q.0.1, q.1)) refl; kept = refl; here' = λ _. refl })
ends p t c s h p< t> t< fc fs (fell z n w e) =
    rw (e, deaf p w (208 + t) s p< (omega arith))
    (record { tagging = waits z (λ q. n (((tt, omega (arith, fc.fits0, fc.fits1)), omega arith), omega arith)) z; kept = refl; here' = λ x. absurd (false≢true x) })
