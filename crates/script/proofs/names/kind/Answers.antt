use Rattle.std.proofs.Common.{rules, tests}
-- `names::kind` meets its contract: what each way's calls ensure, and the tests that led there, pick its case.
-- Assumes nothing.
use Rattle.bench_rules.specs.Script.{kind_of}
use Rattle.script.proofs.names.kind.Goals as goal

pub returns-in-482906432882 : goal.returns-in-482906432882
unfolding kind_of
returns-in-482906432882 c = rw c.in-482906432882.is

pub returns-in-1785686382 : goal.returns-in-1785686382
unfolding kind_of
returns-in-1785686382 c = rw c.in-1785686382.is

pub returns-in-29303 : goal.returns-in-29303
unfolding kind_of
returns-in-29303 c = rw c.in-29303.is

pub returns-in-29282 : goal.returns-in-29282
unfolding kind_of
returns-in-29282 c = rw c.in-29282.is

pub returns-in-30583 : goal.returns-in-30583
unfolding kind_of
returns-in-30583 c = rw c.in-30583.is

pub returns-in-30562 : goal.returns-in-30562
unfolding kind_of
returns-in-30562 c = rw c.in-30562.is

pub returns-in-495873782388 : goal.returns-in-495873782388
unfolding kind_of
returns-in-495873782388 c = rw c.in-495873782388.is

pub returns-in-422944466291 : goal.returns-in-422944466291
unfolding kind_of
returns-in-422944466291 c = rw c.in-422944466291.is

pub returns-in-6647396 : goal.returns-in-6647396
unfolding kind_of
returns-in-6647396 c = rw c.in-6647396.is

pub returns-in-1936027252 : goal.returns-in-1936027252
unfolding kind_of
returns-in-1936027252 c = rw c.in-1936027252.is

pub returns-in-7165064745050203492 : goal.returns-in-7165064745050203492
unfolding kind_of
returns-in-7165064745050203492 c = rw c.in-7165064745050203492.is

pub returns-in-29304 : goal.returns-in-29304
unfolding kind_of
returns-in-29304 c = rw c.in-29304.is

pub returns-in-6906999 : goal.returns-in-6906999
unfolding kind_of
returns-in-6906999 c = rw c.in-6906999.is

pub returns-in-6906994 : goal.returns-in-6906994
unfolding kind_of
returns-in-6906994 c = rw c.in-6906994.is

pub returns-in-126879263777640 : goal.returns-in-126879263777640
unfolding kind_of
returns-in-126879263777640 c = rw c.in-126879263777640.is

pub returns-in-7017580640679851109 : goal.returns-in-7017580640679851109
unfolding kind_of
returns-in-7017580640679851109 c = rw c.in-7017580640679851109.is

pub returns-in-1869636974 : goal.returns-in-1869636974
unfolding kind_of
returns-in-1869636974 c = rw c.in-1869636974.is

pub returns-in-1936027236 : goal.returns-in-1936027236
unfolding kind_of
returns-in-1936027236 c = rw c.in-1936027236.is

pub returns-in-32481164609020773 : goal.returns-in-32481164609020773
unfolding kind_of
returns-in-32481164609020773 c = rw c.in-32481164609020773.is

pub returns-in_default : goal.returns-in_default
unfolding kind_of
returns-in_default c = search (tests, rules)
