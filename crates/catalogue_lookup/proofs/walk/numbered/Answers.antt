-- `walk::numbered` meets its contract. The invariant: the image with the number is that of what is left, behind the number told last.
-- The measure is what is left of the file.
-- Assumes nothing.
use native.Mathlib.Omega.{arith}
use mathlib.Core.Path.{ap, ◌∙◌}
use lib.ListN.{drop}
use Rattle.std.specs.Prelude.{true, false, Ok}
use borrow.Author.Tests.{eq-eqb, ne_eqb}
use Rattle.catalogue_rules.proofs.At.{stood, stopped}
use Rattle.catalogue_rules.proofs.Bools.{and_no, and_yes}
use Rattle.catalogue_rules.proofs.Spots.{numbered-none, numbered-end, numbered-hit, numbered-on}
use Rattle.catalogue_lookup.proofs.walk.numbered.Goals as goal
use Rattle.catalogue_lookup.proofs.walk.numbered.Goals.{in-2, in-3+else-told-number, in_default-1}

pub returns-in_default : goal.returns-in_default
returns-in_default c =
    numbered-none c.loop-f.at (drop c.loop-f.at c.args.file.now) c.loop-f.told c.args.number _ (stopped c.args.file.now c.loop-f.at c.in_default.is c.field_at.ensures).none c.loop-f.invariant

pub returns-in-1 : goal.returns-in-1
returns-in-1 c =
    numbered-end c.args.file.now c.loop-f.at (stood c.args.file.now c.loop-f.at c.in-Some.is c.field_at.ensures) c.loop-f.told c.args.number _ c.loop-f.invariant c.in-1.is

pub returns-in-3 : goal.returns-in-3
returns-in-3 c =
    ap Ok c.span.ensures ∙ numbered-hit c.args.file.now c.loop-f.at (stood c.args.file.now c.loop-f.at c.in-Some.is c.field_at.ensures) c.loop-f.told c.args.number _ c.loop-f.invariant (λ e. omega arith) (and_yes _ _ true (eq-eqb _ _ c.in-3.is) (eq-eqb _ _ c.if-told-number.true))

pub loop-f-smaller : goal.loop-f-smaller
loop-f-smaller c =
    omega (arith, (stood c.args.file.now c.loop-f.at c.in-Some.is c.field_at.ensures).fits, (stood c.args.file.now c.loop-f.at c.in-Some.is c.field_at.ensures).behind_head)

-- A number is told; an image with another number, and any other field, leaves it.
pub loop-f-preserved : goal.loop-f-preserved
loop-f-preserved c =
    let on = numbered-on c.args.file.now c.loop-f.at (stood c.args.file.now c.loop-f.at c.in-Some.is c.field_at.ensures) c.loop-f.told c.args.number _ c.loop-f.invariant in
    elim c.match-f.branch [
      | in-2 w ↦ on (λ e. omega arith) (and_no _ _ (ne_eqb c.in-Some.f.tag 3 (λ e. omega arith))) c.match-f.told (rw w.in-2.is (w.told-is ∙ w.value_number-told.ensures))
      | in-3+else-told-number w ↦ on (λ e. omega arith) (and_yes _ _ false (eq-eqb _ _ w.in-3.is) (ne_eqb _ _ w.if-told-number.false)) c.match-f.told (rw (ne_eqb c.in-Some.f.tag 2 (λ e. omega arith)) w.told-is)
      | in_default-1 w ↦ on (λ e. omega arith) (and_no _ _ (ne_eqb c.in-Some.f.tag 3 (λ e. omega arith))) c.match-f.told (rw (ne_eqb c.in-Some.f.tag 2 (λ e. omega arith)) w.told-is)
    ]
