-- `catalogue_row::import` meets its contract: each test in its turn, and then the cards are put.
-- The invariant: the reasons that are left decide.
-- Assumes nothing.
use Rattle.std.proofs.Common.{◌≡◌, length, drop}
use Rattle.catalogue_rules.specs.Edit.{imported}
use Rattle.catalogue_row.proofs.Ways.{or_all, moved}
use Rattle.catalogue_row.proofs.import.Given as goal

abbrev pub invariant-loop-why : goal.invariant-loop-why
invariant-loop-why l = imported (length l.out) l.archive ≡ or_all (drop l.why-index l.why-items) l.images (moved l.images)
