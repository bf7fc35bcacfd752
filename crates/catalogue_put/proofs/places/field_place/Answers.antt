-- `places::field_place` meets its contract. The invariant: the place and the sizes of what is left before the field make its place.
-- The measure is what is left of the file.
-- Assumes nothing.
use native.Mathlib.Omega.{arith}
use mathlib.Core.Path.{refl}
use Rattle.catalogue_rules.proofs.At.{stood, stopped}
use Rattle.catalogue_put.specs.Places.{field_place}
use Rattle.catalogue_put.proofs.Passed.{is_tagged, tagged-empty, tagged-next, place_none, place_stop, place-on}
use borrow.Author.Tests.{eq-eqb, ne_eqb}
use Rattle.catalogue_put.proofs.places.field_place.Goals as goal

pub loop-f-init : goal.loop-f-init
loop-f-init c = refl

pub returns-in_default : goal.returns-in_default
returns-in_default c =
    place_none (field_place c.args.wanted) (is_tagged c.args.wanted) (tagged-empty c.args.wanted) (tagged-next c.args.wanted) c.args.file.now c.loop-f.at _ c.loop-f.invariant (stopped c.args.file.now c.loop-f.at c.in_default.is c.field_at.ensures).none

pub returns-then-f-wanted : goal.returns-then-f-wanted
returns-then-f-wanted c =
    place_stop (field_place c.args.wanted) (is_tagged c.args.wanted) (tagged-empty c.args.wanted) (tagged-next c.args.wanted) c.args.file.now c.loop-f.at _ c.loop-f.invariant (stood c.args.file.now c.loop-f.at c.in-Some.is c.field_at.ensures) (eq-eqb _ _ c.if-f-wanted.true)

pub loop-f-smaller : goal.loop-f-smaller
loop-f-smaller c =
    omega (arith, (stood c.args.file.now c.loop-f.at c.in-Some.is c.field_at.ensures).fits, (stood c.args.file.now c.loop-f.at c.in-Some.is c.field_at.ensures).behind_head)

pub loop-f-preserved : goal.loop-f-preserved
loop-f-preserved c =
    place-on (field_place c.args.wanted) (is_tagged c.args.wanted) (tagged-empty c.args.wanted) (tagged-next c.args.wanted) c.args.file.now c.loop-f.at _ c.loop-f.invariant (stood c.args.file.now c.loop-f.at c.in-Some.is c.field_at.ensures) (ne_eqb _ _ c.if-f-wanted.false)
