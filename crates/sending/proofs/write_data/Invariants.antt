-- `sending::write_data`: the loop keeps that what is left to write is the rest of the words. Assumes nothing.
use Rattle.std.proofs.Common.{◌≡◌, ◌-◌, ◌*◌, drop}
use Rattle.card_rules.specs.View.{view, Sound}
use Rattle.driver_rules.specs.Talk.{words_of, after_writes}
use Rattle.sending.proofs.write_data.Given as goal

abbrev pub invariant-loop-i : goal.invariant-loop-i
invariant-loop-i l = Sound l.at l.ram l.dir × (after_writes (words_of l.words l.packet) (view l.initial.at l.initial.ram l.initial.dir) ≡ after_writes (words_of (l.words - l.i) (drop (2 * l.i) l.packet)) (view l.at l.ram l.dir))
