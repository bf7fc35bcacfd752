-- `wire::end_head` meets its contract: its tests are the definition's, in the same order. Assumes nothing.
use borrow.Author.Rules.{rules}
use borrow.Author.Tests.{le-leb, lt-leb, lt-ltb, le-ltb}
use Rattle.receive_rules.specs.Wire.{ending}
use Rattle.receive_rules.specs.View.{state_of}
use Rattle.receive.proofs.wire.end_head.Goals as goal

pub returns-then-last-ge-OVERRUN : goal.returns-then-last-ge-OVERRUN
unfolding ending state_of
returns-then-last-ge-OVERRUN c = search (rules, le-leb, lt-leb, lt-ltb, le-ltb)

pub returns-then-n-gt1514 : goal.returns-then-n-gt1514
unfolding ending state_of
returns-then-n-gt1514 c = search (rules, le-leb, lt-leb, lt-ltb, le-ltb)

pub returns-then-n-lt60 : goal.returns-then-n-lt60
unfolding ending state_of
returns-then-n-lt60 c = search (rules, le-leb, lt-leb, lt-ltb, le-ltb)

pub returns-then-not-alignment : goal.returns-then-not-alignment
unfolding ending state_of
returns-then-not-alignment c = search (rules, le-leb, lt-leb, lt-ltb, le-ltb, c.if-not-alignment.true)

pub returns-then-not-check : goal.returns-then-not-check
unfolding ending state_of
returns-then-not-check c = search (rules, le-leb, lt-leb, lt-ltb, le-ltb, c.if-not-alignment.false, c.if-not-check.true)

pub returns : goal.returns
unfolding ending state_of
returns c = search (rules, le-leb, lt-leb, lt-ltb, le-ltb, c.if-not-alignment.false, c.if-not-check.false)
