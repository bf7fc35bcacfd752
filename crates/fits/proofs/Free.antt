-- A card at power-on is inactive, ignores the write, and shows the same whatever the memory holds. Assumes nothing.
use mathlib.Core.Path.{◌≡◌, refl, sym, ap, ◌∙◌}
use mathlib.Core.Bool.{false}
use Rattle.card_rules.specs.Adapter.{Adapter}
use Rattle.card_rules.specs.Power.{power_on}
use Rattle.card_rules.specs.View.{view, sound_card}
use Rattle.card_rules.proofs.Checked.{card-shown}
use Rattle.card_rules.specs.Access.{Step, WriteWord}
use Rattle.card_rules.proofs.StepEnds.{asleep}
use Rattle.card_rules.specs.Calls.{done, is_word}
use Rattle.card_rules.proofs.Judged.{goes}
use Rattle.fits.specs.Free.{TheMemoryIsLeftFree}

pub left-free : TheMemoryIsLeftFree
unfolding power_on
left-free words c fresh ram dir ram' dir' l m l' m' o v ok =
    let now = fresh ram dir l m in
    let then = fresh ram' dir' l' m' in
    let idle : (view c ram dir).id.active ≡ false = ap (λ (a : Adapter). a.id.active) now.shows in
    let ignored = ap (λ (t : Step). t.adapter) (asleep (WriteWord o v) (view c ram dir) idle) in
    goes (sound_card c ram dir) (is_word o) 11 done c ram dir _ done c ram' dir' (card-shown c ram dir now.sound) ok refl
    (record { shows = then.shows ∙ sym now.shows ∙ sym ignored; sound = then.sound })
