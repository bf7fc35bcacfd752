-- `window_read::tx_free` meets its contract: the size is the configuration's. Assumes nothing.
use native.Mathlib.Omega.{arith}
use Rattle.card_rules.proofs.Free.{free-le}
use Rattle.card_rules.specs.View.{view}
use Rattle.card_rules.proofs.Sides.{tx_sound_at}
use Rattle.window_read.proofs.tx_free.Goals as goal

pub tx_free-requires : goal.tx_free-requires
tx_free-requires c = tx_sound_at _ _ _ _ c.tx_size.ensures.0 c.s.invariant

pub overflow_cast-result : goal.overflow_cast-result
overflow_cast-result c = omega (arith, c.tx_free.ensures, free-le _ _ c.tx_free.ensures, c.tx_size.ensures.1)

pub returns : goal.returns
unfolding view
returns c = rw (← c.s.view_is, c.tx_free.ensures, c.tx_size.ensures.0)
