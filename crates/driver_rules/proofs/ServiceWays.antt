-- Each way through look and receive is the run of its tree. `access` stays shut. Assumes nothing.
use Rattle.std.specs.Prelude.{Result, Err, Option, Some, None}
use mathlib.Core.Path.{◌≡◌, refl, ap, subst⁻¹, ◌∙◌}
use mathlib.Core.Bool.{true, false}
use mathlib.Core.List.{List, [], ◌∷◌, ◌++◌}
use Prim.Native.Nat.{ℕ, zero, suc, ◌+◌, ◌-◌, ◌≤◌}
use native.Mathlib.Numerals.{sub-one}
use native.Mathlib.Omega.{arith}
use lib.ListN.{length, length-append}
use Rattle.bits.specs.Bits.{has}
use Rattle.bits.proofs.Tests.{by_test}
use Rattle.refusal.specs.declared.Refusal.{Refusal}
use Rattle.refusal.specs.declared.Refusal.TheVariants.{BudgetShort, CardUnfit}
use Rattle.card_rules.specs.declared.Card.{Card}
use Rattle.card_rules.specs.Adapter.{Adapter}
use Rattle.card_rules.specs.Access.{Access, ReadWord, WriteWord, step, access}
use Rattle.driver_rules.specs.declared.Driver.{Driver}
use Rattle.driver_rules.specs.Registers.{unfit, bad, length_in}
use Rattle.driver_rules.specs.Talk.{Ran, extended, run}
use Rattle.driver_rules.specs.declared.Served.{Served}
use Rattle.driver_rules.specs.declared.Item.{Item}
use Rattle.driver_rules.specs.Items.{Serving, plain, report_talk, idle_talk, fetch_talk}
use Rattle.driver_rules.specs.Meets.{Ended, Tells}
use Rattle.driver_rules.proofs.Count.{good-told}
use Rattle.driver_rules.proofs.ItemWays.{ran, answered, stops}
use Rattle.driver_rules.specs.Service.{look_talk, receive_talk, drop_talk}
use Rattle.driver_rules.specs.Serves.{is_discard, discarded, Meets}

-- a part that has come to its end
ends : (left : ℕ) (R : Ran Serving) (r : Served) (s : Adapter) (l₀ f₀ l f : List ℕ) → Ended left R r s l₀ f₀ l f → Meets r.answer left R r s l₀ f₀ l f
unfolding Meets
ends left R r s l₀ f₀ l f t = subst⁻¹ (λ (a : Option (Result Item Refusal)). Meets a left R r s l₀ f₀ l f) t.answer t

-- .. and hands nothing up
still : (left : ℕ) (R : Ran Serving) (x : Result Item Refusal) (d : Driver) (m : List Access) (s : Adapter) (c : Card) (more : ℕ) (l f : List ℕ)
    → R ≡ ran (plain x d) m s → length m + more ≡ left → Meets (Some x) left R (answered d c x more) s l f l f
unfolding Meets
still left R x d m s c more l f e n = stops left R x d m s c more e n l f

-- a discard is one after any accesses
later : (m xs : List Access) → discarded xs ≡ true → discarded (m ++ xs) ≡ true
unfolding discarded
later [] xs e = e
later (x ∷ m) xs e = by_test (is_discard x) (λ y. rw y) (λ n. rw n (later m xs e))

-- accesses made before
onward : (b : Option (Result Item Refusal)) (left less : ℕ) (m : List Access) (R : Ran Serving) (r : Served) (s : Adapter) (l₀ f₀ l f : List ℕ)
    → length m + less ≡ left → Meets b less R r s l₀ f₀ l f → Meets b left (extended m R) r s l₀ f₀ l f
unfolding Meets
onward (Some x) left less m R r s l₀ f₀ l f n t =
    record { answer = t.answer; driver = t.driver; count = simp length-append (omega (arith, t.count)); adapter = t.adapter; look = t.look; frame = t.frame }
onward None left less m R r s l₀ f₀ l f n t =
    record {
      on = record { answer = t.on.answer; adapter = t.on.adapter; count = simp length-append (omega (arith, t.on.count)) };
      less = omega (arith, t.less);
      discard = later m R.made t.discard;
      look = t.look;
      frame = t.frame;
    }

-- ---- the pieces of the definition, by what the code tests

module _ (d : Driver) (s s₁ : Adapter) (v : ℕ) where
  looks_unfit : (left : ℕ) → (left ≡ 0 → ⊥) → access (ReadWord 14) s ≡ step v s₁ → unfit v ≡ true → run (look_talk left d) s ≡ ran (plain (Err CardUnfit) d) (ReadWord 14 ∷ []) s₁
  unfolding run look_talk
  looks_unfit zero h e w = absurd (h refl)
  looks_unfit (suc k) h e w = rw (e, w)

  pub looks_report : (left : ℕ) → (left ≡ 0 → ⊥) → access (ReadWord 14) s ≡ step v s₁ → unfit v ≡ false → has 4 v ≡ true → run (look_talk left d) s ≡ extended (ReadWord 14 ∷ []) (run (report_talk (left - 1) d) s₁)
  unfolding run look_talk
  looks_report zero h e w t = absurd (h refl)
  looks_report (suc k) h e w t = rw (sub-one, e, w, t)

  pub looks_receive : (left : ℕ) → (left ≡ 0 → ⊥) → access (ReadWord 14) s ≡ step v s₁ → unfit v ≡ false → has 4 v ≡ false → has 16 v ≡ true → run (look_talk left d) s ≡ extended (ReadWord 14 ∷ []) (run (receive_talk (left - 1) d) s₁)
  unfolding run look_talk
  looks_receive zero h e w t x = absurd (h refl)
  looks_receive (suc k) h e w t x = rw (sub-one, e, w, t, x)

  pub looks_idle : (left : ℕ) → (left ≡ 0 → ⊥) → access (ReadWord 14) s ≡ step v s₁ → unfit v ≡ false → has 4 v ≡ false → has 16 v ≡ false → run (look_talk left d) s ≡ extended (ReadWord 14 ∷ []) (run (idle_talk (left - 1) d) s₁)
  unfolding run look_talk
  looks_idle zero h e w t x = absurd (h refl)
  looks_idle (suc k) h e w t x = rw (sub-one, e, w, t, x)

  receives_bad : (left : ℕ) → (left ≡ 0 → ⊥) → access (ReadWord 8) s ≡ step v s₁ → bad v ≡ true → run (receive_talk left d) s ≡ extended (ReadWord 8 ∷ []) (run (drop_talk (left - 1) d) s₁)
  unfolding run look_talk
  receives_bad zero h e w = absurd (h refl)
  receives_bad (suc k) h e w = rw (sub-one, e, w)

  pub receives_good : (left n : ℕ) → (left ≡ 0 → ⊥) → access (ReadWord 8) s ≡ step v s₁ → bad v ≡ false → n ≡ length_in v
      → run (receive_talk left d) s ≡ extended (ReadWord 8 ∷ []) (run (fetch_talk (left - 1) d n) s₁)
  unfolding run look_talk
  receives_good zero n h e w m = absurd (h refl)
  receives_good (suc k) n h e w m = rw (sub-one, e, w, m)

  drops : (left : ℕ) → (left ≡ 0 → ⊥) → access (WriteWord 14 16384) s ≡ step v s₁ → run (drop_talk left d) s ≡ extended (WriteWord 14 16384 ∷ []) (run (look_talk (left - 1) d) s₁)
  unfolding run look_talk
  drops zero h e = absurd (h refl)
  drops (suc k) h e = rw (sub-one, e)

-- ---- look

module _ (left : ℕ) (d : Driver) (s : Adapter) (l f : List ℕ) where
  pub look_none : (c : Card) → left ≡ 0 → Meets (Some (Err BudgetShort)) left (run (look_talk left d) s) (answered d c (Err BudgetShort) 0) s l f l f
  unfolding run look_talk
  look_none c e = still left _ (Err BudgetShort) d [] s c 0 l f (rw e) (omega arith)

  module _ (some : left ≡ 0 → ⊥) (s₁ : Adapter) (v : ℕ) (e₁ : access (ReadWord 14) s ≡ step v s₁) where
    pub look-unfit : (c : Card) → unfit v ≡ true → Meets (Some (Err CardUnfit)) left (run (look_talk left d) s) (answered d c (Err CardUnfit) (left - 1)) s₁ l f l f
    look-unfit c w = still left _ (Err CardUnfit) d (ReadWord 14 ∷ []) s₁ c (left - 1) l f (looks_unfit d s s₁ v left some e₁ w) (omega arith)

    module _ (w : unfit v ≡ false) where
      pub look-report : (r : Served) (s' : Adapter) → has 4 v ≡ true → Tells (left - 1) (run (report_talk (left - 1) d) s₁) r s' → Meets r.answer left (run (look_talk left d) s) r s' l f l f
      look-report r s' t m =
          rw (looks_report d s s₁ v left some e₁ w t)
          (onward r.answer left (left - 1) (ReadWord 14 ∷ []) _ r s' l f l f (omega arith) (ends _ _ r s' l f l f (m l f)))

      module _ (t : has 4 v ≡ false) where
        pub look_receive_lem : (r : Served) (s' : Adapter) (l' f' : List ℕ) → has 16 v ≡ true → Meets r.answer (left - 1) (run (receive_talk (left - 1) d) s₁) r s' l f l' f' → Meets r.answer left (run (look_talk left d) s) r s' l f l' f'
        look_receive_lem r s' l' f' x m =
            rw (looks_receive d s s₁ v left some e₁ w t x)
            (onward r.answer left (left - 1) (ReadWord 14 ∷ []) _ r s' l f l' f' (omega arith) m)

        pub look-idle : (r : Served) (s' : Adapter) → has 16 v ≡ false → Tells (left - 1) (run (idle_talk (left - 1) d) s₁) r s' → Meets r.answer left (run (look_talk left d) s) r s' l f l f
        look-idle r s' x m =
            rw (looks_idle d s s₁ v left some e₁ w t x)
            (onward r.answer left (left - 1) (ReadWord 14 ∷ []) _ r s' l f l f (omega arith) (ends _ _ r s' l f l f (m l f)))

-- ---- receive

module _ (left : ℕ) (d : Driver) (s : Adapter) (l f : List ℕ) where
  pub receive_none : (c : Card) → left ≡ 0 → Meets (Some (Err BudgetShort)) left (run (receive_talk left d) s) (answered d c (Err BudgetShort) 0) s l f l f
  unfolding run look_talk
  receive_none c e = still left _ (Err BudgetShort) d [] s c 0 l f (rw e) (omega arith)

  module _ (some : left ≡ 0 → ⊥) (s₁ : Adapter) (v : ℕ) (e₁ : access (ReadWord 8) s ≡ step v s₁) where
    module _ (w : bad v ≡ true) where
      pub receive_one : (c : Card) → left ≡ 1 → Meets (Some (Err BudgetShort)) left (run (receive_talk left d) s) (answered d c (Err BudgetShort) 0) s₁ l f l f
      unfolding run look_talk
      receive_one c e =
          let z : left - 1 ≡ 0 = omega arith in
          still left _ (Err BudgetShort) d (ReadWord 8 ∷ []) s₁ c 0 l f (receives_bad d s s₁ v left some e₁ w ∙ rw z) (omega arith)

      module _ (more : left ≡ 1 → ⊥) (s₂ : Adapter) (x₂ : ℕ) (e₂ : access (WriteWord 14 16384) s₁ ≡ step x₂ s₂) where
        pub dropped : run (receive_talk left d) s ≡ extended (ReadWord 8 ∷ (WriteWord 14 16384 ∷ [])) (run (look_talk (left - 2) d) s₂)
        dropped =
            let z : left - 1 - 1 ≡ left - 2 = omega arith in
            receives_bad d s s₁ v left some e₁ w ∙ ap (extended (ReadWord 8 ∷ [])) (drops d s₁ s₂ x₂ (left - 1) (λ z. omega arith) e₂ ∙ rw z)

        pub receive_pause : (c : Card) → Meets None left (run (receive_talk left d) s) (record { driver = d; card = c; answer = None; left = left - 2 }) s₂ l f l f
        unfolding Meets discarded
        receive_pause c =
            rw dropped
            (record { on = record { answer = refl; adapter = refl; count = omega arith }; less = omega arith; discard = refl; look = refl; frame = refl })

        pub receive_again : (r : Served) (s' : Adapter) (l' f' : List ℕ) → Meets r.answer (left - 2) (run (look_talk (left - 2) d) s₂) r s' l f l' f' → Meets r.answer left (run (receive_talk left d) s) r s' l f l' f'
        receive_again r s' l' f' m =
            rw dropped
            (onward r.answer left (left - 2) (ReadWord 8 ∷ (WriteWord 14 16384 ∷ [])) _ r s' l f l' f' (omega arith) m)

    pub receive_fetch : (n : ℕ) (r : Served) (s' : Adapter) (l' f' : List ℕ) → bad v ≡ false → n ≡ length_in v → Ended (left - 1) (run (fetch_talk (left - 1) d n) s₁) r s' l f l' f'
        → Meets r.answer left (run (receive_talk left d) s) r s' l f l' f'
    receive_fetch n r s' l' f' w e m =
        rw (receives_good d s s₁ v left n some e₁ w e)
        (onward r.answer left (left - 1) (ReadWord 8 ∷ []) _ r s' l f l' f' (omega arith) (ends _ _ r s' l f l' f' m))

-- a good RX status tells no more than 1,514 bytes
pub good-size : (v n : ℕ) → bad v ≡ false → n ≡ length_in v → n ≤ 1514
good-size v n w e = rw e (good-told v w).short
