-- A card at power-on is sound, with any words. Assumes nothing.
use mathlib.Core.Path.{◌≡◌, refl, ap, subst, ◌∙◌}
use mathlib.Core.Bool.{true}
use mathlib.Core.List.{List}
use Prim.Native.Nat.{ℕ}
use native.Mathlib.Omega.{arith}
use lib.ListN.{length}
use Rattle.receive_rules.specs.Early.{early_flag, told_flag}
use Rattle.transmit_rules.specs.Outcome.{due}
use Rattle.card_rules.specs.declared.Card.{Card}
use Rattle.card_rules.specs.Adapter.{Adapter}
use Rattle.card_rules.specs.Status.{interrupting}
use Rattle.card_rules.specs.Settle.{settle}
use Rattle.card_rules.specs.Power.{power_on}
use Rattle.card_rules.specs.Sound.{sound}
use Rattle.card_rules.specs.View.{Stands, Blank}
use Rattle.card_rules.proofs.Sides.{settle-sound}
use Rattle.card_rules.proofs.CommandKeeps.{power_on_kept}

-- power-on is settled already
settled : (words : List ℕ) → settle (power_on words 0) ≡ power_on words 0
unfolding settle power_on early_flag told_flag due interrupting
settled words = refl

pub power_on_sound : (words : List ℕ) → sound (power_on words 0) ≡ true
power_on_sound words = subst (λ (a : Adapter). sound a ≡ true) (settled words) (settle-sound (power_on words 0) (power_on_kept words 0 (omega arith)))

pub power_on_stands : (words : List ℕ) (r : Card) → Blank r (power_on words 0)
    → (ram dir : List ℕ) → length ram ≡ 8192 → length dir ≡ 1110 → Stands r ram dir (power_on words 0)
power_on_stands words r b ram dir l d =
    let i = b ram dir l d in
    record { shows = i.shows; sound = record { held = i.held; calm = ap sound i.shows ∙ power_on_sound words } }
