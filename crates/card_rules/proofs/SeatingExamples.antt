-- An ID state that is seated, computed. Assumes nothing.
use mathlib.Core.Path.{◌≡◌, refl}
use mathlib.Core.Bool.{Bool, true, false}
use mathlib.Core.List.{[]}
use Rattle.port_rules.specs.Card.{restarted}
use Rattle.card_rules.specs.Adapter.{Adapter}
use Rattle.card_rules.specs.Update.{with_select, select_window}
use Rattle.card_rules.specs.Power.{power_on}
use Rattle.card_rules.specs.Seat.{seated}

-- a card in window 1, and an ID state seated in it with a reset that is due or not
after : Bool → Adapter
after reset = let a = power_on [] 0 in seated (restarted reset []) (with_select (select_window 1 a.select) a)

-- a reset that is due is carried out: window 0 is selected
carried_out : (after true).select.window ≡ 0
unfolding after seated power_on
carried_out = refl

-- .. and is due no more
no_more_due : (after true).id.due ≡ false
unfolding after seated power_on
no_more_due = refl

-- else the card stays as it is
stays : (after false).select.window ≡ 1
unfolding after seated power_on
stays = refl
