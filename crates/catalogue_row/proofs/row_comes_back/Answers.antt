-- `catalogue_row::row_comes_back` meets its contract, which is the law of `Returned`.
-- Assumes nothing.
use Rattle.catalogue_row.proofs.Returned.{row_comes_back_lem}
use Rattle.catalogue_row.proofs.row_comes_back.Goals as goal

pub returns : goal.returns
returns c = row_comes_back_lem
