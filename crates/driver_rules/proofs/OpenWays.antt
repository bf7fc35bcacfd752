-- The parts of an open, one after the other, are the run of its tree. `access` stays shut. Assumes nothing.
use Rattle.std.specs.Prelude.{Ok}
use mathlib.Core.Path.{◌≡◌, refl, ap}
use mathlib.Core.List.{List, [], ◌∷◌, ◌++◌, map}
use Prim.Native.Nat.{ℕ, suc, ◌+◌, ◌<◌}
use native.Mathlib.Numerals.{add-one}
use lib.ListN.{length, get_or, drop}
use lib.Seq.{drop-cons}
use Rattle.bits.proofs.Tests.{never}
use Rattle.card_rules.specs.declared.Card.{Card}
use Rattle.card_rules.specs.Adapter.{Adapter}
use Rattle.card_rules.specs.View.{view, Stands}
use Rattle.card_rules.specs.Access.{Access, Step, step, access}
use Rattle.driver_rules.specs.declared.Driver.{Driver}
use Rattle.driver_rules.specs.Registers.{select_window}
use Rattle.driver_rules.specs.Driver.{opening}
use Rattle.driver_rules.specs.Talk.{run, after}
use Rattle.driver_rules.proofs.Runs.{stands-then, stands_one}
use Rattle.driver_rules.specs.Open.{open_talk, command, pair_writes, address_writes, mask_writes, enable_writes}
use Rattle.driver_rules.specs.Opens.{Opens}

-- two accesses
pub two : {c₁ c₂ : Card} {ram₁ dir₁ ram₂ dir₂ : List ℕ} (x y : Access) (a : Adapter)
    → Stands c₁ ram₁ dir₁ (access x a).adapter → Stands c₂ ram₂ dir₂ (access y (view c₁ ram₁ dir₁)).adapter → Stands c₂ ram₂ dir₂ (after (x ∷ (y ∷ [])) a)
two x y a s t = stands-then (x ∷ []) (y ∷ []) a (stands_one x a s) (stands_one y _ t)

-- a turn of the loop that orders: command i of vs
pub order_turn : (vs : List ℕ) (i : ℕ) (s s' : Adapter) (x : ℕ) → i < length vs → access (command (get_or vs i 0)) s ≡ step x s'
    → after (map command (drop i vs)) s ≡ after (map command (drop (i + 1) vs)) s'
unfolding after
order_turn vs i s s' x h e = rw (drop-cons vs i 0, add-one) (ap (λ (t : Step). after (map command (drop (suc i) vs)) t.adapter) e)

-- window 2, and three words of the address
pub address : {c₀ c₁ c₂ c₃ : Card} {ram₀ dir₀ ram₁ dir₁ ram₂ dir₂ ram₃ dir₃ : List ℕ} (w₀ w₁ w₂ : ℕ) (a : Adapter)
    → Stands c₀ ram₀ dir₀ (after (command (select_window + 2) ∷ []) a) → Stands c₁ ram₁ dir₁ (after (pair_writes 0 w₀) (view c₀ ram₀ dir₀))
    → Stands c₂ ram₂ dir₂ (after (pair_writes 2 w₁) (view c₁ ram₁ dir₁)) → Stands c₃ ram₃ dir₃ (after (pair_writes 4 w₂) (view c₂ ram₂ dir₂))
    → Stands c₃ ram₃ dir₃ (after (address_writes w₀ w₁ w₂) a)
address w₀ w₁ w₂ a s t u v =
    stands-then (command (select_window + 2) ∷ []) (pair_writes 0 w₀ ++ (pair_writes 2 w₁ ++ pair_writes 4 w₂)) a s
    (stands-then (pair_writes 0 w₀) (pair_writes 2 w₁ ++ pair_writes 4 w₂) _ t (stands-then (pair_writes 2 w₁) (pair_writes 4 w₂) _ u v))

module _ (d : Driver) (w₀ w₁ w₂ : ℕ) (a : Adapter) where
  abbrev writes : List Access
  writes = address_writes w₀ w₁ w₂ ++ (mask_writes ++ enable_writes)

  open_run : run (open_talk d w₀ w₁ w₂) a ≡ record { answer = record { answer = Ok tt; driver = opening d }; made = writes; adapter = after writes a }
  unfolding run open_talk after
  open_run = refl

  pub opens : {c₁ c₂ c₃ : Card} {ram₁ dir₁ ram₂ dir₂ ram₃ dir₃ : List ℕ} (c : Card) (ram dir : List ℕ)
      → Stands c₁ ram₁ dir₁ (after (address_writes w₀ w₁ w₂) a) → Stands c₂ ram₂ dir₂ (after mask_writes (view c₁ ram₁ dir₁)) → Stands c₃ ram₃ dir₃ (after enable_writes (view c₂ ram₂ dir₂))
      → Opens (run (open_talk d w₀ w₁ w₂) a) c ram dir (record { card = c₃; driver = opening d; answer = Ok tt }) ram₃ dir₃
  opens c ram dir s t u =
      rw open_run
      (record { answer = refl; driver = refl; taken = λ _. stands-then (address_writes w₀ w₁ w₂) (mask_writes ++ enable_writes) a s (stands-then mask_writes enable_writes _ t u); kept = λ n. never n })
