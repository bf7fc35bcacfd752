-- Cards in ID_CMD at another port do not matter to a talk, and it does nothing to them: the talk over all cards is the talk over the others, with these in their places.
-- Assumes nothing.
use Prim.Native.Nat.{ℕ, min, ◌≤◌}
use mathlib.Core.Path.{◌≡◌, refl, sym, ◌∙◌, ap}
use mathlib.Core.Bool.{Bool, true, false, cond, not}
use mathlib.Core.List.{List, [], ◌∷◌, map}
use native.Mathlib.Omega.{arith}
use lib.Dec.{eqb}
use borrow.Author.Tests.{not-true}
use Rattle.bits.proofs.Tests.{both}
use Rattle.port_rules.specs.declared.IdState.{IdState}
use Rattle.port_rules.specs.Card.{id_write, id_drives, id_bit, id_after_read}
use Rattle.port_rules.specs.Port.{Access, write, read, value, after, Talk, done, ask, Ran, run, port_write, port_bit, port_read}
use Rattle.port_rules.proofs.Gathering.{bit_narrow}
use Rattle.lent_port.specs.Roll.{away}

module _ (p : ℕ) (s : IdState) (e : away p s ≡ true) where
  at_command : s.command ≡ true
  at_command = (both s.command (not (eqb p s.port)) e).0

  elsewhere : eqb p s.port ≡ false
  elsewhere = not-true (eqb p s.port) (both s.command (not (eqb p s.port)) e).1

  pub away-write : (x : ℕ) → id_write s p x ≡ s
  unfolding id_write
  away-write x = rw (at_command, elsewhere, id_write)

  mute : id_drives s p ≡ false
  unfolding id_drives
  mute = rw (at_command, elsewhere, id_drives)

  away_bit : id_bit s p ≡ 1
  unfolding id_bit
  away_bit = rw (mute, id_bit)

  pub away-read : (b : ℕ) → id_after_read s p b ≡ s
  unfolding id_after_read
  away-read b = rw (mute, id_after_read)

module _ (p : ℕ) where
  -- xs in the places of those of cs that are not away
  unfoldable weave : List IdState → List IdState → List IdState
  weave [] xs = xs
  weave (s ∷ cs) [] = cond (away p s) (s ∷ weave cs []) (weave cs [])
  weave (s ∷ cs) (x ∷ xs) = cond (away p s) (s ∷ weave cs (x ∷ xs)) (x ∷ weave cs xs)

  -- those
  unfoldable pub present : List IdState → List IdState
  present [] = []
  present (s ∷ cs) = cond (away p s) (present cs) (s ∷ present cs)

  weave_map : (f : IdState → IdState) → ((s : IdState) → away p s ≡ true → f s ≡ s) → (cs xs : List IdState) → map f (weave cs xs) ≡ weave cs (map f xs)
  unfolding weave
  weave_map f h [] xs = refl
  weave_map f h (s ∷ cs) [] = go (away p s) refl (weave_map f h cs [])
    where
      go : (b : Bool) → away p s ≡ b → map f (weave cs []) ≡ weave cs [] → map f (cond b (s ∷ weave cs []) (weave cs [])) ≡ cond b (s ∷ weave cs []) (weave cs [])
      go true e r = λ i. h s e i ∷ r i
      go false e r = r
  weave_map f h (s ∷ cs) (x ∷ xs) = go (away p s) refl (weave_map f h cs (x ∷ xs)) (weave_map f h cs xs)
    where
      go : (b : Bool) → away p s ≡ b → map f (weave cs (x ∷ xs)) ≡ weave cs (f x ∷ map f xs) → map f (weave cs xs) ≡ weave cs (map f xs) → map f (cond b (s ∷ weave cs (x ∷ xs)) (x ∷ weave cs xs)) ≡ cond b (s ∷ weave cs (f x ∷ map f xs)) (f x ∷ weave cs (map f xs))
      go true e r q = λ i. h s e i ∷ r i
      go false e r q = λ i. f x ∷ q i

  weave_bit : (cs xs : List IdState) → port_bit p (weave cs xs) ≡ port_bit p xs
  unfolding weave port_bit
  weave_bit [] xs = refl
  weave_bit (s ∷ cs) [] = go (away p s) refl (weave_bit cs [])
    where
      go : (b : Bool) → away p s ≡ b → port_bit p (weave cs []) ≡ 1 → port_bit p (cond b (s ∷ weave cs []) (weave cs [])) ≡ 1
      go true e r = omega (arith, away_bit p s e)
      go false e r = r
  weave_bit (s ∷ cs) (x ∷ xs) = go (away p s) refl (weave_bit cs (x ∷ xs)) (weave_bit cs xs)
    where
      go : (b : Bool) → away p s ≡ b → port_bit p (weave cs (x ∷ xs)) ≡ min (id_bit x p) (port_bit p xs) → port_bit p (weave cs xs) ≡ port_bit p xs → port_bit p (cond b (s ∷ weave cs (x ∷ xs)) (x ∷ weave cs xs)) ≡ min (id_bit x p) (port_bit p xs)
      go true e r q = let n : port_bit p xs ≤ 1 = bit_narrow p xs in omega (arith, away_bit p s e)
      go false e r q = ap (min (id_bit x p)) q

  after_aside : (a : Access) (cs xs : List IdState) → after p a (weave cs xs) ≡ weave cs (after p a xs)
  unfolding after port_write port_read
  after_aside (write x) cs xs = weave_map (λ s. id_write s p x) (λ s e. away-write p s e x) cs xs
  after_aside read cs xs =
      ap (λ (b : ℕ). map (λ s. id_after_read s p b) (weave cs xs)) (weave_bit cs xs) ∙ weave_map (λ s. id_after_read s p (port_bit p xs)) (λ s e. away-read p s e (port_bit p xs)) cs xs

  value_aside : (a : Access) (cs xs : List IdState) → value p a (weave cs xs) ≡ value p a xs
  unfolding value
  value_aside (write x) cs xs = refl
  value_aside read cs xs = weave_bit cs xs

  abbrev woven : {A : Type 0} → List IdState → Ran A → Ran A
  woven cs r = record { answer = r.answer; accesses = r.accesses; cards = weave cs r.cards }

  run_aside : {A : Type 0} (t : Talk A) (cs xs : List IdState) → run p t (weave cs xs) ≡ woven cs (run p t xs)
  unfolding run
  run_aside (done a) cs xs = refl
  run_aside {A} (ask a k) cs xs =
      let next : run p (k (value p a (weave cs xs))) (after p a (weave cs xs)) ≡ woven cs (run p (k (value p a xs)) (after p a xs)) =
      (λ i. run p (k (value_aside a cs xs i)) (after_aside a cs xs i)) ∙ run_aside (k (value p a xs)) cs (after p a xs) in
      ap (λ (r : Ran A). record { answer = r.answer; accesses = a ∷ r.accesses; cards = r.cards }) next

  weave_present : (cs : List IdState) → weave cs (present cs) ≡ cs
  unfolding weave present
  weave_present [] = refl
  weave_present (s ∷ cs) = go (away p s) refl (present cs) (weave_present cs)
    where
      go : (b : Bool) → away p s ≡ b → (xs : List IdState) → weave cs xs ≡ cs → weave (s ∷ cs) (cond b xs (s ∷ xs)) ≡ s ∷ cs
      go false e xs r = rw e (ap (λ (l : List IdState). s ∷ l) r)
      go true e [] r = rw e (ap (λ (l : List IdState). s ∷ l) r)
      go true e (x ∷ xs) r = rw e (ap (λ (l : List IdState). s ∷ l) r)

  -- each of the others is g of what it was
  pub aside : {A : Type 0} (t : Talk A) (g : IdState → IdState) → ((s : IdState) → away p s ≡ true → g s ≡ s) → (cs : List IdState) → (run p t (present cs)).cards ≡ map g (present cs) →
      run p t cs ≡ record { answer = (run p t (present cs)).answer; accesses = (run p t (present cs)).accesses; cards = map g cs }
  aside t g h cs e =
      ap (run p t) (sym (weave_present cs)) ∙ run_aside t cs (present cs)
      ∙ ap (λ (l : List IdState). record { answer = (run p t (present cs)).answer; accesses = (run p t (present cs)).accesses; cards = l })
      (ap (weave cs) e ∙ sym (weave_map g h cs (present cs)) ∙ ap (map g) (weave_present cs))
