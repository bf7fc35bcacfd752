-- `reading::rx_free` meets its contract: the directory's sum is the room of the frames. Assumes nothing.
use Rattle.receive_rules.proofs.Order.{room_of_lem}
use Rattle.receive.proofs.reading.rx_free.Goals as goal

pub returns : goal.returns
returns c =
    let s = c.args in
    rw (c.used.ensures, room_of_lem s.size s.r.frames s.ram.now s.dir.now c.requires.packed)
