-- `words::to_blank` meets its contract: the place that is found is the first of its class. Assumes nothing.
use Rattle.std.proofs.Common.{◌≡◌, sym, rules, true, false}
use Rattle.std.proofs.lemmas.Iterator.{IsFirst-from_position, YieldsList-from_slice}
use borrow.Author.Tests.{tests}
use Rattle.bench_rules.specs.Script.{is_of}
use Rattle.bench_rules.proofs.Lines.{reach_first}
use Rattle.script.proofs.words.to_blank.Goals as goal

pub returns-clause-reach : goal.returns-clause-reach
unfolding is_of
returns-clause-reach c =
    let first = IsFirst-from_position _ _ c.position.result (λ b. is_of 0 b ≡ true) (λ b. is_of 0 b ≡ false) c.position.ensures.ran (YieldsList-from_slice c.args.s.now cc) (λ x q h. search (rules, tests)) (λ x q h. search (rules, tests)) in
    rw c.unwrap_or.ensures (sym (reach_first 0 c.args.s.now c.position.result first))
