-- `sending::write_data`: the loop keeps that what is left to write is the rest of the words. Assumes nothing.
use Rattle.std.proofs.Common.{◌≡◌, ◌-◌, sym, ◌∙◌, arith}
use Rattle.driver_rules.specs.Talk.{words_of, after}
use Rattle.driver_rules.proofs.Runs.{wrote, write_turn}
use Rattle.sending.proofs.write_data.Goals as goal

pub loop-i-preserved : goal.loop-i-preserved
loop-i-preserved c =
    (c.write_word-at.ensures.sound, c.loop-i.invariant.1 ∙ write_turn _ _ _ _ _ _ _ c.loop-i-test.true (grind arith) (wrote _ c.write_word-at.ensures))

pub returns : goal.returns
unfolding words_of after
returns c =
    let e : c.args.words - c.loop-i.i ≡ 0 = omega (arith, c.loop-i-test.false) in record { shows = sym (rw e at c.loop-i.invariant.1); sound = c.loop-i.invariant.0 }
