-- Every step keeps soundness: the test read as facts about the state's numbers, then case by case through the definitions.
-- Assumes nothing.
use Prim.Native.Nat.{ℕ, ◌-◌, ◌<◌, ◌≤◌}
use mathlib.Core.Path.{◌≡◌, refl, sym, ◌∙◌}
use mathlib.Core.Bool.{Bool, true, false, cond, not, ◌&&◌, ◌||◌, false≢true}
use native.Mathlib.Omega.{arith}
use lib.Dec.{ltb, eqb}
use borrow.Author.Tests.{leb-true, le-leb, eqb-true, eqb-false, eq-eqb, ltb-true}
use Rattle.bits.proofs.Tests.{both}
use Rattle.port_rules.specs.declared.IdState.{IdState}
use Rattle.port_rules.specs.Sequence.{id_byte}
use Rattle.port_rules.specs.Card.{tagged, loaded, expected, id_wait, id_command, id_write, id_drives, id_bit, id_after_read}
use Rattle.port_rules.specs.Sound.{id_sound, EveryStepKeepsSoundness}

pub expected-below : (i x : ℕ) → expected i x ≡ true → i < 255
unfolding expected
expected-below i x e = go (ltb i 255) refl e
  where
    go : (b : Bool) → ltb i 255 ≡ b → cond b (eqb x (id_byte i)) false ≡ true → i < 255
    go true h e = ltb-true i 255 h
    go false h e = absurd (false≢true e)

-- the test's facts
record Good (s : IdState) : Type 0 where
  ported : s.port ≤ 16
  placed : s.at ≤ 254
  labelled : s.tag ≤ 7
  obeys : s.command ≡ true → (s.port ≤ 15) × (s.at ≡ 0)
  portless : s.port ≡ 16 → s.at ≡ 0

both_true : {a b : Bool} → a ≡ true → b ≡ true → a && b ≡ true
both_true e f = rw (e, f)

implied : (a b : Bool) → (not a || b) ≡ true → a ≡ true → b ≡ true
implied true b e h = e
implied false b e h = absurd (false≢true h)

implying : (a b : Bool) → (a ≡ true → b ≡ true) → (not a || b) ≡ true
implying true b f = f refl
implying false b f = refl

good : (s : IdState) → id_sound s ≡ true → Good s
unfolding id_sound
good s e =
    let (e4, p4) = both _ _ e in
    let (e3, p3) = both _ _ e4 in
    let (e2, p2) = both _ _ e3 in
    let (p0, p1) = both _ _ e2 in
    record {
      ported = leb-true _ _ p0;
      placed = leb-true _ _ p1;
      labelled = leb-true _ _ p2;
      obeys = λ h. let (a, b) = both _ _ (implied _ _ p3 h) in (leb-true _ _ a, eqb-true _ _ b);
      portless = λ h. eqb-true _ _ (implied _ _ p4 (eq-eqb _ _ h));
    }

sound : (s : IdState) → Good s → id_sound s ≡ true
unfolding id_sound
sound s g =
    both_true
    (both_true
    (both_true (both_true (le-leb _ _ g.ported) (le-leb _ _ g.placed)) (le-leb _ _ g.labelled))
    (implying _ _ (λ h. both_true (le-leb _ _ (g.obeys h).0) (eq-eqb _ _ (g.obeys h).1))))
    (implying _ _ (λ h. eq-eqb _ _ (g.portless (eqb-true _ _ h))))

-- a choice keeps what both its cases keep
either : {x y : IdState} (b : Bool) → (b ≡ true → Good x) → (b ≡ false → Good y) → Good (cond b x y)
either true f g = f refl
either false f g = g refl

-- in ID_WAIT, with these numbers; and with no port
listens : {s : IdState} → s.command ≡ false → s.port ≤ 16 → s.at ≤ 254 → s.tag ≤ 7 → (s.port ≡ 16 → s.at ≡ 0) → Good s
listens c p a t q = record {
  ported = p;
  placed = a;
  labelled = t;
  obeys = λ h. absurd (false≢true (sym c ∙ h));
  portless = q;
}

waits : {s : IdState} → s.command ≡ false → s.port ≡ 16 → s.at ≡ 0 → s.tag ≤ 7 → Good s
waits c p a t = listens c (omega arith) (omega arith) t (λ _. a)

module _ (s : IdState) (g : Good s) where
  labels : {t : ℕ} → t ≤ 7 → Good (tagged t s)
  labels h = record { ported = g.ported; placed = g.placed; labelled = h; obeys = g.obeys; portless = g.portless }

  loads : {d : ℕ} → Good (loaded d s)
  loads = record { ported = g.ported; placed = g.placed; labelled = g.labelled; obeys = g.obeys; portless = g.portless }

  waited : (p x : ℕ) → p < 16 → s.command ≡ false → Good (id_wait s p x)
  unfolding id_wait
  waited p x h c =
      either (eqb x 0) (λ _. listens c (omega arith) (omega arith) g.labelled (λ _. refl))
      (λ _. either (eqb p s.port)
      (λ own. let e : p ≡ s.port = eqb-true _ _ own in
      either (expected s.at x)
      (λ right. either (eqb s.at 254)
      (λ _. record { ported = g.ported; placed = omega arith; labelled = g.labelled; obeys = λ _. (omega arith, refl); portless = λ _. refl })
      (λ more. let n : s.at ≡ 254 → ⊥ = eqb-false _ _ more in
      listens c g.ported (omega (arith, expected-below _ _ right)) g.labelled (λ q. absurd (omega arith))))
      (λ _. listens c g.ported (omega arith) g.labelled (λ _. refl)))
      (λ _. g))

  commanded : (x : ℕ) → Good (id_command s x)
  unfolding id_command
  commanded x =
      either (ltb x 0x80) (λ _. waits refl refl refl g.labelled)
      (λ _. either (ltb x 0xC0) (λ _. loads)
      (λ _. either (ltb x 0xD0) (λ _. waits refl refl refl (omega arith))
      (λ _. either (ltb x 0xD8)
      (λ low. either (eqb x 0xD0) (λ _. labels (omega arith)) (λ _. either (eqb s.tag 0) (λ _. labels (omega (arith, ltb-true x 0xD8 low))) (λ _. g)))
      (λ _. either (ltb x 0xE0)
      (λ _. either (eqb (x - 0xD8) s.tag) (λ _. g) (λ _. waits refl refl refl g.labelled))
      (λ _. either (eqb x 0xFF) (λ _. waits refl refl refl g.labelled) (λ _. waits refl refl refl g.labelled))))))

  written : (p x : ℕ) → p < 16 → Good (id_write s p x)
  unfolding id_write
  written p x h = either s.command (λ _. either (eqb p s.port) (λ _. commanded x) (λ _. g)) (λ c. waited p x h c)

  read : (p b : ℕ) → Good (id_after_read s p b)
  unfolding id_after_read
  read p b = either (id_drives s p) (λ _. either (eqb b (id_bit s p)) (λ _. loads) (λ _. waits refl refl refl g.labelled)) (λ _. g)

pub every_step_keeps_soundness_lem : EveryStepKeepsSoundness
unfolding id_sound
every_step_keeps_soundness_lem = record {
  power_on = λ ws. refl;
  writes = λ s p x h e. sound (id_write s p x) (written s (good s e) p x h);
  reads = λ s p b e. sound (id_after_read s p b) (read s (good s e) p b);
}
