-- `ids::seamtrout_card_id_hear` meets its contract: the step keeps the ID state sound, and it is seated.
-- Assumes nothing.
use Rattle.abi.proofs.Port.{hear_sound}
use Rattle.abi.proofs.ids.seamtrout_card_id_hear.Goals as goal

pub seated-requires : goal.seated-requires
seated-requires c = hear_sound _ _ _ _ c.heard-i.ensures

pub returns : goal.returns
returns c = rw (← c.min.ensures, ← c.heard-i.ensures) c.seated.ensures
