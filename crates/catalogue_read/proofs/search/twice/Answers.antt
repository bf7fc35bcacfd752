-- `search::twice` meets its contract. The invariant: an address is listed twice from the place on exactly if one is in the whole file.
-- The measure is what is left of the file.
-- Assumes nothing.
use native.Mathlib.Omega.{arith}
use lib.ListN.{drop}
use Rattle.catalogue_rules.proofs.At.{stood, stopped}
use Rattle.catalogue_rules.proofs.Seen.{twice_hit, twice_on, twice_none}
use Rattle.catalogue_read.proofs.search.twice.Goals as goal

pub returns : goal.returns
returns c =
    twice_none (drop c.loop-f.at c.args.file.now) (stopped c.args.file.now c.loop-f.at c.in_default.is c.field_at.ensures).none c.loop-f.invariant

pub overflow_add-next : goal.overflow_add-next
overflow_add-next c =
    omega (arith, (stood c.args.file.now c.loop-f.at c.in-Some.is c.field_at.ensures).fits)

pub returns-then-comes_again : goal.returns-then-comes_again
returns-then-comes_again c =
    twice_hit (drop c.loop-f.at c.args.file.now) _ _ _ (stood c.args.file.now c.loop-f.at c.in-Some.is c.field_at.ensures).is_first c.comes_again.ensures c.loop-f.invariant c.if-comes_again.true

pub loop-f-smaller : goal.loop-f-smaller
loop-f-smaller c =
    omega (arith, (stood c.args.file.now c.loop-f.at c.in-Some.is c.field_at.ensures).fits, (stood c.args.file.now c.loop-f.at c.in-Some.is c.field_at.ensures).behind_head)

pub loop-f-preserved : goal.loop-f-preserved
loop-f-preserved c =
    twice_on (drop c.loop-f.at c.args.file.now) _ _ _ (stood c.args.file.now c.loop-f.at c.in-Some.is c.field_at.ensures).is_first c.comes_again.ensures c.loop-f.invariant c.if-comes_again.false
