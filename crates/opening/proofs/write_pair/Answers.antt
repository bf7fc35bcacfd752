-- `opening::write_pair`: two accesses, one after the other. Assumes nothing.
use Rattle.std.proofs.Common.{◌≡◌, ◌/◌, ◌%◌, arith}
use lib.ListN.{get_or}
use Rattle.driver_rules.proofs.OpenWays as ways
use Rattle.opening.proofs.write_pair.Goals as goal

pub returns : goal.returns
returns c =
    let high : get_or c.to_be_bytes.result 0 0 ≡ c.args.w / 256 = grind (arith, c.to_be_bytes.ensures) in
    let low : get_or c.to_be_bytes.result 1 0 ≡ c.args.w % 256 = grind (arith, c.to_be_bytes.ensures) in
    ways.two _ _ _ (rw high at c.write_byte-first.ensures) (rw low at c.write_byte.ensures)
