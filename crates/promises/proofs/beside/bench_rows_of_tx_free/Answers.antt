-- `beside::bench_rows_of_tx_free` meets its contract, by the law `rows`. Assumes nothing.
use Rattle.sends_carried.proofs.Rooms.{rows}
use Rattle.promises.proofs.beside.bench_rows_of_tx_free.Goals as goal

pub returns : goal.returns
returns c = rows
