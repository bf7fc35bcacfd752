-- `promises::the_bench_table` meets its contract, by the law `table`. Assumes nothing.
use Rattle.bench_table.proofs.Rows.{table}
use Rattle.promises.proofs.the_bench_table.Goals as goal

pub returns : goal.returns
returns c = table
