-- `places::versions` meets its contract. The invariant: the versions passed and those left are all; each took a place.
-- The measure is what is left of the file.
-- Assumes nothing.
use native.Mathlib.Omega.{arith}
use lib.ListN.{drop}
use Rattle.catalogue_rules.proofs.At.{stood, stopped}
use Rattle.catalogue_put.proofs.Counted.{counted_none, counted-end, counted-on}
use Rattle.catalogue_rules.proofs.Walks.{one_byte, one_most}
use Rattle.catalogue_put.proofs.places.versions.Goals as goal

pub loop-f-init : goal.loop-f-init
loop-f-init c = (omega arith, omega arith)

pub returns-in_default : goal.returns-in_default
returns-in_default c =
    counted_none (drop c.loop-f.at c.args.file.now) c.loop-f.n _ (stopped c.args.file.now c.loop-f.at c.in_default.is c.field_at.ensures).none c.loop-f.invariant.1

pub returns-then-f-eq-ADDRESS : goal.returns-then-f-eq-ADDRESS
returns-then-f-eq-ADDRESS c =
    counted-end c.args.file.now c.loop-f.at (stood c.args.file.now c.loop-f.at c.in-Some.is c.field_at.ensures) c.loop-f.n _ c.loop-f.invariant.1 c.if-f-eq-ADDRESS.true

pub loop-f-smaller : goal.loop-f-smaller
loop-f-smaller c =
    omega (arith, (stood c.args.file.now c.loop-f.at c.in-Some.is c.field_at.ensures).fits, (stood c.args.file.now c.loop-f.at c.in-Some.is c.field_at.ensures).behind_head)

pub loop-f-preserved : goal.loop-f-preserved
loop-f-preserved c =
    (omega (arith, (stood c.args.file.now c.loop-f.at c.in-Some.is c.field_at.ensures).fits, (stood c.args.file.now c.loop-f.at c.in-Some.is c.field_at.ensures).behind_head, one_most _ c.from-n.ensures), counted-on c.args.file.now c.loop-f.at (stood c.args.file.now c.loop-f.at c.in-Some.is c.field_at.ensures) c.loop-f.n _ c.loop-f.invariant.1 c.if-f-eq-ADDRESS.false (one_byte _ c.from-n.ensures))
