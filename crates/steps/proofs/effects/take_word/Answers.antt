-- `effects::take_word` meets its contract, by the law `rx-does`. Assumes nothing.
use mathlib.Core.Path.{ap, ◌∙◌}
use Prim.Native.Nat.{ℕ}
use Rattle.receive_rules.specs.Reading.{data_word, after_read}
use Rattle.receive_rules.specs.View.{rx_of}
use Rattle.card_rules.specs.View.{view}
use Rattle.card_rules.proofs.Join.{rx-does}
use Rattle.card_rules.proofs.Sides.{rx_sound_at}
use Rattle.steps.proofs.effects.take_word.Goals as goal

pub read_data-got-requires : goal.read_data-got-requires
read_data-got-requires c = rx_sound_at _ _ _ _ c.rx_size.ensures.0 c.requires

pub returns : goal.returns
unfolding view
returns c = record {
  value_value = c.read_data-got.ensures.0 ∙ ap (λ (n : ℕ). data_word (rx_of n c.args.c.receive c.args.ram.now c.args.dir.now)) c.rx_size.ensures.0;
  is = rx-does c.args.c c.args.ram.now c.args.dir.now c.args.ram.now c.args.dir.now c.requires.held (λ n. after_read) _ _ c.rx_size.ensures.0 c.read_data-got.ensures.1;
}
