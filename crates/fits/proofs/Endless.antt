-- With a receive failure every access of the pass leaves a sound card as it is, so what the pass finds it finds again, and no count of accesses ends it. Assumes nothing.
use mathlib.Core.Path.{◌≡◌, refl, sym, ap, ◌∙◌}
use mathlib.Core.Bool.{true, false, cond}
use Prim.Native.Nat.{ℕ}
use lib.Dec.{eqb}
use Rattle.bits.proofs.Tests.{never}
use Rattle.receive_rules.specs.Frame.{Rx}
use Rattle.receive_rules.specs.Reading as reading
use Rattle.card_rules.specs.Adapter.{Adapter}
use Rattle.card_rules.specs.Update.{with_rx}
use Rattle.card_rules.specs.Sound.{sound}
use Rattle.card_rules.specs.Settle.{settle}
use Rattle.card_rules.specs.Command.{command, commanded}
use Rattle.card_rules.specs.Read.{after_word}
use Rattle.card_rules.specs.Write.{write_word}
use Rattle.card_rules.specs.Access.{ReadWord, WriteWord, Step, effect, access}
use Rattle.card_rules.proofs.Sides.{settle-stays}
use Rattle.card_rules.proofs.StepEnds.{awake}
use Rattle.driver_rules.specs.Registers.{unfit, tx_complete, rx_complete, bad}
use Rattle.fits.specs.Order.{status_read}
use Rattle.fits.specs.When.{rx_read, discarded, Needs, unfit_card, report, good_frame_is, damaged_frame, idle}

module _ (a : Adapter) (s : sound a ≡ true) (on : a.id.active ≡ true) (w : a.select.window ≡ 1) (f : a.rx.receiver.failed ≡ true) where
  read_stays : (o : ℕ) → after_word o a ≡ a → (access (ReadWord o) a).adapter ≡ a
  unfolding effect
  read_stays o e = ap (λ (t : Step). t.adapter) (awake (ReadWord o) a on) ∙ ap settle e ∙ settle-stays a s

  discard-none : reading.discard a.rx ≡ a.rx
  unfolding reading.discard
  discard-none = rw f

  discards : write_word 14 16384 a ≡ a
  unfolding write_word commanded command
  discards = ap (λ (n : ℕ). cond (eqb n 0) a (with_rx (reading.discard a.rx) a)) w ∙ ap (λ (x : Rx). with_rx x a) discard-none

  discard-stays : (access (WriteWord 14 16384) a).adapter ≡ a
  unfolding effect
  discard-stays = ap (λ (t : Step). t.adapter) (awake (WriteWord 14 16384) a on) ∙ ap settle discards ∙ settle-stays a s

  unmoved : discarded a ≡ a
  unfolding after_word
  unmoved =
      let after-status = read_stays 14 refl in
      let after-rx = read_stays 8 refl in
      ap (λ (b : Adapter). (access (WriteWord 14 16384) (access (ReadWord 8) b).adapter).adapter) after-status
      ∙ ap (λ (b : Adapter). (access (WriteWord 14 16384) b).adapter) after-rx ∙ discard-stays

  module _ (u : unfit (status_read a) ≡ false) (t : tx_complete (status_read a) ≡ false) (x : rx_complete (status_read a) ≡ true) (g : bad (rx_read a) ≡ true) where
    pub endless : (b : Adapter) (n : ℕ) → b ≡ a → Needs b n → ⊥
    endless b n e (unfit_card c u') = never (sym (ap (λ (y : Adapter). unfit (status_read y)) e ∙ u) ∙ u')
    endless b n e (report c u' t') = never (sym (ap (λ (y : Adapter). tx_complete (status_read y)) e ∙ t) ∙ t')
    endless b n e (idle c u' t' x') = never (sym x' ∙ ap (λ (y : Adapter). rx_complete (status_read y)) e ∙ x)
    endless b n e (good_frame_is c u' t' x' g') = never (sym g' ∙ ap (λ (y : Adapter). bad (rx_read y)) e ∙ g)
    endless b n e (damaged_frame c m u' t' x' g' k) = endless (discarded b) m (ap discarded e ∙ unmoved) k
