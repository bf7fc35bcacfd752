-- `ids::seamtrout_card_id_write` meets its contract: the step keeps the ID state sound, and it is seated.
-- Assumes nothing.
use Rattle.abi.proofs.Port.{write-sound}
use Rattle.abi.proofs.ids.seamtrout_card_id_write.Goals as goal

pub seated-requires : goal.seated-requires
seated-requires c = write-sound _ _ _ _ c.written-i.ensures

pub returns : goal.returns
returns c = rw (← c.written-i.ensures) c.seated.ensures
