-- `search::address_at` meets its contract: six bytes, the first highest.
-- Assumes nothing.
use native.Mathlib.Omega.{arith}
use Rattle.catalogue_rules.specs.Turns.{address_of}
use Rattle.catalogue_read.proofs.search.address_at.Goals as goal

pub returns : goal.returns
unfolding address_of
returns c = rw (c.from_be_bytes.ensures, c.byte_at.ensures, c.byte_at-2.ensures, c.byte_at-3.ensures, c.byte_at-4.ensures, c.byte_at-5.ensures, c.byte_at-6.ensures, c.part-v.ensures) (omega arith)
