-- `walk::newest` meets its contract. The invariant: the newest image of what is left, else the best so far, is the newest of all.
-- The measure is what is left of the file.
-- Assumes nothing.
use native.Mathlib.Omega.{arith}
use mathlib.Core.Path.{ap, ◌∙◌}
use lib.ListN.{drop}
use borrow.Author.Tests.{ne_eqb}
use Rattle.std.specs.Prelude.{Ok, Err}
use Rattle.refusal.specs.declared.Refusal.TheVariants.{NoSuchCard}
use Rattle.catalogue_rules.proofs.At.{stood, stopped}
use Rattle.catalogue_rules.proofs.Spots.{any-number, newest-on, newest-end, newest-none}
use Rattle.catalogue_lookup.proofs.walk.newest.Goals as goal
use Rattle.catalogue_lookup.proofs.walk.newest.Goals.{then-f-eq-IMAGE, else-f-eq-IMAGE}

pub loop-f-init : goal.loop-f-init
loop-f-init c = λ n. any-number _ _ n 0 (Err NoSuchCard)

pub returns-in_default : goal.returns-in_default
returns-in_default c =
    newest-none c.loop-f.at (drop c.loop-f.at c.args.file.now) c.loop-f.best _ (stopped c.args.file.now c.loop-f.at c.in_default.is c.field_at.ensures).none c.loop-f.invariant

pub returns-then-f-eq-ADDRESS : goal.returns-then-f-eq-ADDRESS
returns-then-f-eq-ADDRESS c =
    newest-end c.args.file.now c.loop-f.at (stood c.args.file.now c.loop-f.at c.in-Some.is c.field_at.ensures) c.loop-f.best _ c.loop-f.invariant c.if-f-eq-ADDRESS.true

pub loop-f-smaller : goal.loop-f-smaller
loop-f-smaller c =
    omega (arith, (stood c.args.file.now c.loop-f.at c.in-Some.is c.field_at.ensures).fits, (stood c.args.file.now c.loop-f.at c.in-Some.is c.field_at.ensures).behind_head)

pub loop-f-preserved : goal.loop-f-preserved
loop-f-preserved c =
    newest-on c.args.file.now c.loop-f.at (stood c.args.file.now c.loop-f.at c.in-Some.is c.field_at.ensures) c.loop-f.best _ c.loop-f.invariant c.if-f-eq-ADDRESS.false c.if-f-eq-IMAGE.best
    (elim c.if-f-eq-IMAGE.branch [
      | then-f-eq-IMAGE w ↦ rw w.if-f-eq-IMAGE.true (w.best-is ∙ ap Ok w.span.ensures)
      | else-f-eq-IMAGE w ↦ rw (ne_eqb c.in-Some.f.tag 3 w.if-f-eq-IMAGE.false) w.best-is
    ])
