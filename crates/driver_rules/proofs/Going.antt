-- A service goes on where look and receive paused: the run of the rest is the rest of the run. Assumes nothing.
use Rattle.std.specs.Prelude.{Result, Option, Some, None}
use mathlib.Core.Path.{◌≡◌, refl, ap, sym, subst, ◌∙◌}
use mathlib.Core.Bool.{true}
use mathlib.Core.List.{List}
use Prim.Native.Nat.{ℕ, ◌+◌, ◌-◌, ◌<◌}
use native.Mathlib.Omega.{arith}
use lib.ListN.{length}
use Rattle.refusal.specs.declared.Refusal.{Refusal}
use Rattle.card_rules.specs.Adapter.{Adapter}
use Rattle.driver_rules.specs.declared.Driver.{Driver}
use Rattle.driver_rules.specs.Talk.{Ran, run}
use Rattle.driver_rules.specs.declared.Item.{Item}
use Rattle.driver_rules.specs.declared.Served.{Served}
use Rattle.driver_rules.specs.Items.{Serving}
use Rattle.driver_rules.specs.Meets.{Ended}
use Rattle.driver_rules.specs.Service.{look_talk}
use Rattle.driver_rules.specs.Serves.{discarded, GoesOn, Paused, Meets}
use Rattle.driver_rules.specs.Serving.{Serves}

is_ended : (a : Option (Result Item Refusal)) (x : Result Item Refusal) (left : ℕ) (R : Ran Serving) (r : Served) (s : Adapter) (l₀ f₀ l f : List ℕ) → a ≡ Some x → Meets a left R r s l₀ f₀ l f → Ended left R r s l₀ f₀ l f
unfolding Meets
is_ended a x left R r s l₀ f₀ l f e m = subst (λ (b : Option (Result Item Refusal)). Meets b left R r s l₀ f₀ l f) e m

is_paused : (a : Option (Result Item Refusal)) (left : ℕ) (R : Ran Serving) (r : Served) (s : Adapter) (l₀ f₀ l f : List ℕ) → a ≡ None → Meets a left R r s l₀ f₀ l f → Paused left R r s l₀ f₀ l f
unfolding Meets
is_paused a left R r s l₀ f₀ l f e m = subst (λ (b : Option (Result Item Refusal)). Meets b left R r s l₀ f₀ l f) e m

-- the answer that is there
abbrev answer_in : Result Item Refusal → Option (Result Item Refusal) → Result Item Refusal
answer_in x None = x
answer_in x (Some y) = y

-- a service of `budget`, whose run is R, stands before a look with `left`
pub record Going (budget : ℕ) (R : Ran Serving) (left : ℕ) (d : Driver) (s : Adapter) (l₀ f₀ l f : List ℕ) : Type 0 where
  pub on : GoesOn budget R left (run (look_talk left d) s)
  pub look : l ≡ l₀
  pub frame : f ≡ f₀

pub going_none : (budget : ℕ) (d : Driver) (s : Adapter) (l f : List ℕ) → Going budget (run (look_talk budget d) s) budget d s l f l f
going_none budget d s l f = record { on = record { answer = refl; adapter = refl; count = omega arith }; look = refl; frame = refl }

module _ (budget : ℕ) (R : Ran Serving) (left : ℕ) (d : Driver) (s : Adapter) (l₀ f₀ l f : List ℕ) (G : Going budget R left d s l₀ f₀ l f)
    (r : Served) (s' : Adapter) (l' f' : List ℕ) (m : Meets r.answer left (run (look_talk left d) s) r s' l f l' f') where
  pub going_left : r.answer ≡ None → r.left < left
  going_left p = (is_paused _ _ _ _ _ _ _ _ _ p m).less

  pub going_discard : r.answer ≡ None → discarded (run (look_talk left d) s).made ≡ true
  going_discard p = (is_paused _ _ _ _ _ _ _ _ _ p m).discard

  pub going_more : r.answer ≡ None → Going budget R r.left r.driver s' l₀ f₀ l' f'
  going_more p =
      let t = is_paused _ _ _ _ _ _ _ _ _ p m in
      record {
        on = record { answer = G.on.answer ∙ t.on.answer; adapter = G.on.adapter ∙ t.on.adapter; count = omega (arith, G.on.count, t.on.count) };
        look = t.look ∙ G.look;
        frame = t.frame ∙ G.frame;
      }

  pub going_within : (x : Result Item Refusal) → r.answer ≡ Some x → length R.made + r.left ≡ budget
  going_within x p = omega (arith, G.on.count, (is_ended _ x _ _ _ _ _ _ _ _ p m).count)

  pub going_done : (x : Result Item Refusal) → r.answer ≡ Some x
      → Serves R (record { driver = r.driver; card = r.card; answer = x; used = budget - r.left }) s' l₀ f₀ l' f'
  going_done x p =
      let t = is_ended _ x _ _ _ _ _ _ _ _ p m in
      record {
        answer = ap (answer_in x) (sym p ∙ t.answer) ∙ sym (ap (λ y. y.answer) G.on.answer);
        driver = t.driver ∙ sym (ap (λ x. x.driver) G.on.answer);
        used = omega (arith, going_within x p);
        adapter = t.adapter ∙ sym G.on.adapter;
        look = rw (← G.look, G.on.answer) t.look;
        frame = rw (← G.frame, G.on.answer) t.frame;
      }
