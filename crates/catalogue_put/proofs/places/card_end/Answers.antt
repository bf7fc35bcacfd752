-- `places::card_end` meets its contract. The invariant: the place and the sizes of what is left before the end make the end.
-- The measure is what is left of the file.
-- Assumes nothing.
use native.Mathlib.Omega.{arith}
use mathlib.Core.Logic.{⊎_elim}
use mathlib.Core.Path.{refl}
use borrow.Author.Tests.{eq-eqb, ne_eqb}
use Rattle.catalogue_rules.proofs.Bools.{or_yes, or_second}
use Rattle.catalogue_rules.proofs.At.{stood, stopped}
use Rattle.catalogue_put.specs.Places.{card_end}
use Rattle.catalogue_put.proofs.Passed.{is_end, end_empty, end-next, place_none, place_stop, place-on}
use Rattle.catalogue_put.proofs.places.card_end.Goals as goal

pub loop-f-init : goal.loop-f-init
loop-f-init c = refl

pub returns-in_default : goal.returns-in_default
returns-in_default c =
    place_none card_end is_end end_empty end-next c.args.file.now c.loop-f.at _ c.loop-f.invariant (stopped c.args.file.now c.loop-f.at c.in_default.is c.field_at.ensures).none

pub returns-then-f-eq-ADDRESS : goal.returns-then-f-eq-ADDRESS
returns-then-f-eq-ADDRESS c =
    place_stop card_end is_end end_empty end-next c.args.file.now c.loop-f.at _ c.loop-f.invariant (stood c.args.file.now c.loop-f.at c.in-Some.is c.field_at.ensures) (⊎_elim (λ e. or_yes _ _ (eq-eqb _ _ e)) (λ n. or_second _ _ (eq-eqb _ _ n.1)) c.then-f-eq-ADDRESS.either)

pub loop-f-smaller : goal.loop-f-smaller
loop-f-smaller c =
    omega (arith, (stood c.args.file.now c.loop-f.at c.in-Some.is c.field_at.ensures).fits, (stood c.args.file.now c.loop-f.at c.in-Some.is c.field_at.ensures).behind_head)

pub loop-f-preserved : goal.loop-f-preserved
loop-f-preserved c =
    place-on card_end is_end end_empty end-next c.args.file.now c.loop-f.at _ c.loop-f.invariant (stood c.args.file.now c.loop-f.at c.in-Some.is c.field_at.ensures) (rw (ne_eqb _ _ c.if-f-eq-ADDRESS.false, ne_eqb _ _ c.if-f-eq-COUNT.false) refl)
