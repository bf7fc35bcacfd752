-- `beside::a_send_answers_by_the_table` meets its contract, by the law `answers`. Assumes nothing.
use Rattle.sends_carried.proofs.Stored.{answers}
use Rattle.promises.proofs.beside.a_send_answers_by_the_table.Goals as goal

pub returns : goal.returns
returns c = answers
