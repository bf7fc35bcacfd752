-- `search::listed` meets its contract. The invariant: the address is among those from the place on exactly if it is among all.
-- The measure is what is left of the file.
-- Assumes nothing.
use native.Mathlib.Omega.{arith}
use lib.ListN.{drop}
use Rattle.catalogue_rules.proofs.At.{stood, stopped}
use Rattle.catalogue_rules.proofs.Seen.{among_hit, among_on, among_none}
use Rattle.catalogue_read.proofs.search.listed.Goals as goal

pub returns : goal.returns
returns c =
    among_none (drop c.loop-f.at c.args.file.now) c.args.address (stopped c.args.file.now c.loop-f.at c.in_default.is c.field_at.ensures).none c.loop-f.invariant

pub returns-then-is_address : goal.returns-then-is_address
returns-then-is_address c =
    among_hit (drop c.loop-f.at c.args.file.now) _ _ _ (stood c.args.file.now c.loop-f.at c.in-Some.is c.field_at.ensures).is_first c.args.address c.is_address.ensures c.loop-f.invariant c.if-is_address.true

pub overflow_add-at : goal.overflow_add-at
overflow_add-at c =
    omega (arith, (stood c.args.file.now c.loop-f.at c.in-Some.is c.field_at.ensures).fits)

pub loop-f-smaller : goal.loop-f-smaller
loop-f-smaller c =
    omega (arith, (stood c.args.file.now c.loop-f.at c.in-Some.is c.field_at.ensures).fits, (stood c.args.file.now c.loop-f.at c.in-Some.is c.field_at.ensures).behind_head)

pub loop-f-preserved : goal.loop-f-preserved
loop-f-preserved c =
    among_on (drop c.loop-f.at c.args.file.now) _ _ _ (stood c.args.file.now c.loop-f.at c.in-Some.is c.field_at.ensures).is_first c.args.address c.is_address.ensures c.loop-f.invariant c.if-is_address.false
