-- `wire::passes_filter` meets its contract: it is the definition's formula, test by test. Assumes nothing.
use Rattle.receive_rules.specs.Wire.{passes}
use Rattle.receive.proofs.wire.passes_filter.Goals as goal

pub returns : goal.returns
unfolding passes
returns c =
    rw (
      c.addressed-2.ensures,
      c.has-5.ensures,
      c.has-4.ensures,
      c.wide.ensures.0,
      c.has-3.ensures,
      c.addressed.ensures,
      c.has-2.ensures,
      c.has.ensures,
    )
