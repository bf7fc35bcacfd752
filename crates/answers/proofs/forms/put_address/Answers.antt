-- `forms::put_address` meets its contract: its parts are put one behind the other. Assumes nothing.
use Rattle.std.proofs.Common.{append_assoc}
use Rattle.answers.proofs.forms.put_address.Goals as goal

pub returns-clause-text : goal.returns-clause-text
returns-clause-text c =
    rw (c.put_word-3.ensures, c.put_word-2.ensures, c.put_word.ensures, c.put.ensures) (simp append_assoc)
