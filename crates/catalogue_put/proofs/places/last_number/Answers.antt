-- `places::last_number` meets its contract. The invariant: the last number of what is left, behind the number told last, else the last so far, is the latest.
-- The measure is what is left of the file.
-- Assumes nothing.
use native.Mathlib.Omega.{arith}
use mathlib.Core.Path.{refl, sym}
use lib.ListN.{drop}
use borrow.Author.Tests.{ne_eqb}
use Rattle.catalogue_rules.proofs.At.{stood, stopped}
use Rattle.catalogue_rules.proofs.Versions.{latest-any}
use Rattle.catalogue_put.proofs.Counted.{last_none, last_end, last_on}
use Rattle.catalogue_put.proofs.places.last_number.Goals as goal
use Rattle.catalogue_put.proofs.places.last_number.Goals.{in-2, in-3, in_default-tag}

pub loop-f-init : goal.loop-f-init
loop-f-init c = sym (latest-any _)

pub returns-in_default : goal.returns-in_default
returns-in_default c =
    last_none (drop c.loop-f.at c.args.file.now) c.loop-f.told c.loop-f.last _ (stopped c.args.file.now c.loop-f.at c.in_default.is c.field_at.ensures).none c.loop-f.invariant

pub returns-in-1 : goal.returns-in-1
returns-in-1 c =
    last_end c.args.file.now c.loop-f.at (stood c.args.file.now c.loop-f.at c.in-Some.is c.field_at.ensures) c.loop-f.told c.loop-f.last _ c.loop-f.invariant c.in-1.is

pub loop-f-smaller : goal.loop-f-smaller
loop-f-smaller c =
    omega (arith, (stood c.args.file.now c.loop-f.at c.in-Some.is c.field_at.ensures).fits, (stood c.args.file.now c.loop-f.at c.in-Some.is c.field_at.ensures).behind_head)

-- A number is told, an image takes the number told, and any other field leaves both.
pub loop-f-preserved : goal.loop-f-preserved
loop-f-preserved c =
    let st = stood c.args.file.now c.loop-f.at c.in-Some.is c.field_at.ensures in
    elim c.match-f.branch [
      | in-2 w ↦
          last_on c.args.file.now c.loop-f.at st c.loop-f.told c.loop-f.last _ c.loop-f.invariant (λ e. omega (arith, w.in-2.is)) (rw w.in-2.is w.last-is) w.value_number-told.ensures (rw w.in-2.is w.told-is)
      | in-3 w ↦
          last_on c.args.file.now c.loop-f.at st c.loop-f.told c.loop-f.last _ c.loop-f.invariant (λ e. omega (arith, w.in-3.is)) (rw w.in-3.is w.last-is) refl (rw w.in-3.is w.told-is)
      | in_default-tag w ↦
          last_on c.args.file.now c.loop-f.at st c.loop-f.told c.loop-f.last _ c.loop-f.invariant (λ e. omega arith) (rw (ne_eqb c.in-Some.f.tag 3 (λ e. omega arith)) w.last-is) refl (rw (ne_eqb c.in-Some.f.tag 2 (λ e. omega arith)) w.told-is)
    ]
