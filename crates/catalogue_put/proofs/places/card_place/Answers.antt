-- `places::card_place` meets its contract. The invariant: the card's place among what is left, from the place on, is its place in the file.
-- The measure is what is left of the file.
-- Assumes nothing.
use native.Mathlib.Omega.{arith}
use mathlib.Core.Path.{ap}
use lib.ListN.{drop}
use Rattle.catalogue_rules.specs.Field.{fields_of}
use Rattle.catalogue_rules.proofs.At.{stood, stopped}
use Rattle.catalogue_rules.specs.Reading.{addresses_of, is_among}
use Rattle.catalogue_put.specs.Places.{seek_if}
use Rattle.catalogue_put.proofs.Passed.{from_zero, card_nowhere, card-here, card-later}
use Rattle.catalogue_put.proofs.places.card_place.Goals as goal

pub loop-f-init : goal.loop-f-init
loop-f-init c = ap (seek_if (is_among c.args.address (addresses_of (fields_of c.args.file.now)))) (from_zero _)

pub returns : goal.returns
returns c =
    card_nowhere c.args.address c.loop-f.at (drop c.loop-f.at c.args.file.now) _ (stopped c.args.file.now c.loop-f.at c.in_default.is c.field_at.ensures).none c.loop-f.invariant

pub returns-then-is_address : goal.returns-then-is_address
returns-then-is_address c =
    card-here c.args.address c.args.file.now c.loop-f.at _ c.loop-f.invariant (stood c.args.file.now c.loop-f.at c.in-Some.is c.field_at.ensures) c.is_address.ensures c.if-is_address.true

pub loop-f-smaller : goal.loop-f-smaller
loop-f-smaller c =
    omega (arith, (stood c.args.file.now c.loop-f.at c.in-Some.is c.field_at.ensures).fits, (stood c.args.file.now c.loop-f.at c.in-Some.is c.field_at.ensures).behind_head)

pub loop-f-preserved : goal.loop-f-preserved
loop-f-preserved c =
    card-later c.args.address c.args.file.now c.loop-f.at _ c.loop-f.invariant (stood c.args.file.now c.loop-f.at c.in-Some.is c.field_at.ensures) c.is_address.ensures c.if-is_address.false
