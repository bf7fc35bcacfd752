-- Cites the theorem. Assumes nothing.
use Rattle.run_calls.proofs.OneTest.{one_test}
use Rattle.promises.proofs.beside.the_one_test_of_soundness.Goals as goal

pub returns : goal.returns
returns c = one_test
