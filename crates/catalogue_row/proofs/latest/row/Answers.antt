-- `latest::row` meets its contract. The invariant: what the fields left still add makes the whole archive, and there is room for it.
-- The measure is what is left of the file.
-- Assumes nothing.
use Prim.Native.Nat.{◌+◌}
use native.Mathlib.Omega.{arith}
use mathlib.Core.Path.{sym, ◌∙◌}
use Rattle.catalogue_rules.proofs.At.{Stands, stands, stops}
use Rattle.catalogue_row.proofs.Outward.{going_begins, going_ends, sizes-on, room-here, going_on}
use Rattle.catalogue_row.proofs.latest.row.Goals as goal

pub loop-f-init : goal.loop-f-init
loop-f-init c = going_begins _ _ c.requires.0 c.requires.1

pub passed-to-requires : goal.passed-to-requires
passed-to-requires c =
    let f : Stands c.args.file.now c.loop-f.at c.in-Some.f.tag c.in-Some.f.start c.in-Some.f.len = stands (sym c.in-Some.is ∙ c.field_at.ensures) in
    (sizes-on c.loop-f.invariant _ _ (c.in-Some.f.start + c.in-Some.f.len) f.is_first, room-here c.loop-f.invariant _ _ (c.in-Some.f.start + c.in-Some.f.len) f.is_first)

pub loop-f-smaller : goal.loop-f-smaller
loop-f-smaller c =
    let f : Stands c.args.file.now c.loop-f.at c.in-Some.f.tag c.in-Some.f.start c.in-Some.f.len = stands (sym c.in-Some.is ∙ c.field_at.ensures) in
    omega (arith, f.fits, f.behind_head)

pub loop-f-preserved : goal.loop-f-preserved
loop-f-preserved c =
    let f : Stands c.args.file.now c.loop-f.at c.in-Some.f.tag c.in-Some.f.start c.in-Some.f.len = stands (sym c.in-Some.is ∙ c.field_at.ensures) in
    going_on c.loop-f.invariant _ _ (c.in-Some.f.start + c.in-Some.f.len) f.is_first _ _ c.passed-to.ensures

pub returns : goal.returns
returns c =
    going_ends c.loop-f.invariant (stops {file = c.args.file.now} {at = c.loop-f.at} (sym c.in_default.is ∙ c.field_at.ensures)).none
