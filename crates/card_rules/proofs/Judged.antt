-- The ways of a public call. Assumes nothing.
use borrow.Author.Rules.{rules}
use mathlib.Core.Path.{◌≡◌, refl, ap, ◌∙◌}
use mathlib.Core.Bool.{Bool, true, false}
use mathlib.Core.List.{List, ◌++◌}
use Prim.Native.Nat.{ℕ, suc}
use lib.ListN.{drop}
use Rattle.std.specs.Prelude.{Ok, Err, ⊤}
use Rattle.refusal.specs.declared.Refusal.{Refusal}
use Rattle.refusal.specs.declared.Refusal.TheVariants.{StateUnsound}
use Rattle.refusal.specs.Number.{number_of}
use Rattle.transmit_rules.specs.QueueView.{Tells}
use Rattle.card_rules.specs.declared.Card.{Card}
use Rattle.card_rules.specs.Adapter.{Adapter}
use Rattle.card_rules.specs.View.{Stands}
use Rattle.card_rules.specs.Calls.{Reply, refused, judged, tested, replying, Does, Call, Area}

-- Where the state is unsound, the call's own test does not matter.
pub tested-alike : (s b ok : Bool) (own : Refusal) → (s ≡ true → b ≡ ok) → tested s b own ≡ tested s ok own
unfolding tested
tested-alike true b ok own agrees = rw (agrees refl) refl
tested-alike false b ok own agrees = refl

-- The tests are passed ..
pub passed : (s ok : Bool) (own : Refusal) (x : ⊤) → Ok x ≡ tested s ok own → (s ≡ true) × (ok ≡ true)
unfolding tested
passed true true own x e = (refl, refl)
passed true false own x e = absurd (search rules)
passed false ok own x e = absurd (search rules)

-- .. or they refuse with the number that is judged.
pub refused-as : (s ok : Bool) (own : Refusal) (k : ℕ) (why : Refusal) → number_of own ≡ suc k → Err why ≡ tested s ok own
    → (n : ℕ) × (judged s ok (suc k) ≡ suc n) × (number_of why ≡ suc n)
unfolding tested judged
refused-as true true own k why n e = absurd (search rules)
refused-as true false own k why n e =
    let f : why ≡ own = search rules in
    (k, refl, ap number_of f ∙ n)
refused-as false ok own k why n e =
    let f : why ≡ StateUnsound = search rules in
    (0, refl, ap number_of f)

-- With no test of a call's own, it is the state that is unsound.
pub told-unsound : (s : Bool) (why : Refusal) → Err why ≡ tested s true StateUnsound → (s ≡ false) × (why ≡ StateUnsound)
unfolding tested
told-unsound true why e = absurd (search rules)
told-unsound false why e = (refl, search rules)

-- A refusal changes nothing.
module _ (s ok : Bool) (own : Refusal) (k : ℕ) (why : Refusal) (number : number_of own ≡ suc k) (refusal : Err why ≡ tested s ok own) where
  pub refuses : (w : Reply) (c : Card) (ram dir : List ℕ) (a : Adapter) → Call (judged s ok (suc k)) (refused (number_of why)) w c c ram dir ram dir a
  unfolding replying Does
  refuses w c ram dir a =
      let p = refused-as s ok own k why number refusal in
      rw (p.1, p.2) (record { answer = refl; does = (refl, refl, refl) })

  pub refused-area : (told out : List ℕ) → Area (judged s ok (suc k)) told out out
  unfolding Area
  refused-area told out = rw ((refused-as s ok own k why number refusal).1) refl

module _ (s ok : Bool) (k : ℕ) where
  -- the step
  pub goes : (w : Reply) (c : Card) (ram dir : List ℕ) (a : Adapter) (reply : Reply) (r : Card) (ram' dir' : List ℕ) → s ≡ true → ok ≡ true → reply ≡ w → Stands r ram' dir' a
      → Call (judged s ok (suc k)) reply w c r ram dir ram' dir' a
  unfolding judged replying Does
  goes w c ram dir a reply r ram' dir' e f h t = rw (e, f) (record { answer = h; does = t })

  -- .. and the area of a success
  pub told-area : (told out out' : List ℕ) (n : ℕ) → s ≡ true → ok ≡ true → Tells n out out' told → Area (judged s ok (suc k)) told out out'
  unfolding judged Area
  told-area told out out' n e f t = rw (e, f) (t.says ∙ ap (λ (m : ℕ). told ++ drop m out) t.count)
