-- `window_write::resplit` meets its contract, by the laws of `Split`. Assumes nothing.
use Rattle.card_rules.proofs.Split.{is_kept_lem, is_split}
use Rattle.window_write.proofs.resplit.Goals as goal

pub returns-then-c-fifo : goal.returns-then-c-fifo
returns-then-c-fifo c ram dir h = is_kept_lem _ ram dir h _ c.if-c-fifo.true

pub returns : goal.returns
returns c ram dir h = is_split _ ram dir h _ c.if-c-fifo.false
