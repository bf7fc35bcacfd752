-- `service::look` and `service::receive`: each way through `look` and `receive` is a law of Ways, and one of Unmoved; the accesses left fall at each call. Assumes nothing.
use mathlib.Core.Path.{refl, sym, ◌∙◌}
use mathlib.Core.List.{[]}
use Rattle.driver_rules.proofs.Runs.{wrote}
use Rattle.driver_rules.proofs.ServiceWays as ways
use Rattle.driver_rules.proofs.Unmoved as unmoved
use Rattle.service.proofs.+look_receive.Goals as goal

pub look-returns-then-left-eq0 : goal.look-returns-then-left-eq0
look-returns-then-left-eq0 t c =
    rw c.short.ensures (ways.look_none c.args.left _ _ _ _ _ c.if-left-eq0.true, (c.requires.sound, unmoved.stays _ _ _ _))

pub look-returns-then-is_unfit : goal.look-returns-then-is_unfit
look-returns-then-is_unfit t c =
    rw c.ended.ensures (ways.look-unfit c.args.left _ _ _ _ c.if-left-eq0.false _ _ (unmoved.as_came 14 _ _ _ refl c.requires.sound c.read_word-got.ensures) _ (sym c.is_unfit.ensures ∙ c.if-is_unfit.true), (c.requires.sound, unmoved.stays _ _ _ _))

pub look-returns-then-is_tx_complete : goal.look-returns-then-is_tx_complete
look-returns-then-is_tx_complete t c =
    let e = unmoved.as_came 14 _ _ _ refl c.requires.sound c.read_word-got.ensures in let w = sym c.is_unfit.ensures ∙ c.if-is_unfit.false in let h = sym c.is_tx_complete.ensures ∙ c.if-is_tx_complete.true in (ways.look-report c.args.left _ _ _ _ c.if-left-eq0.false _ _ e w _ _ h c.report.ensures.0, (c.report.ensures.1.0, unmoved.after_read_lem _ _ _ _ _ _ _ _ 14 (ways.looks_report _ _ _ _ c.args.left c.if-left-eq0.false e w h) c.report.ensures.1.1))

pub look-returns-then-is_rx_complete : goal.look-returns-then-is_rx_complete
look-returns-then-is_rx_complete t c =
    let e = unmoved.as_came 14 _ _ _ refl c.requires.sound c.read_word-got.ensures in let w = sym c.is_unfit.ensures ∙ c.if-is_unfit.false in let h = sym c.is_tx_complete.ensures ∙ c.if-is_tx_complete.false in let x = sym c.is_rx_complete.ensures ∙ c.if-is_rx_complete.true in (ways.look_receive_lem c.args.left _ _ _ _ c.if-left-eq0.false _ _ e w h _ _ _ _ x c.receive.ensures.0, (c.receive.ensures.1.0, unmoved.after_read_lem _ _ _ _ _ _ _ _ 14 (ways.looks_receive _ _ _ _ c.args.left c.if-left-eq0.false e w h x) c.receive.ensures.1.1))

pub look-returns : goal.look-returns
look-returns t c =
    let e = unmoved.as_came 14 _ _ _ refl c.requires.sound c.read_word-got.ensures in let w = sym c.is_unfit.ensures ∙ c.if-is_unfit.false in let h = sym c.is_tx_complete.ensures ∙ c.if-is_tx_complete.false in let x = sym c.is_rx_complete.ensures ∙ c.if-is_rx_complete.false in (ways.look-idle c.args.left _ _ _ _ c.if-left-eq0.false _ _ e w h _ _ x c.idle.ensures.0, (c.idle.ensures.1.0, unmoved.after_read_lem _ _ _ _ _ _ _ _ 14 (ways.looks_idle _ _ _ _ c.args.left c.if-left-eq0.false e w h x) c.idle.ensures.1.1))

pub receive-returns-then-left-eq0 : goal.receive-returns-then-left-eq0
receive-returns-then-left-eq0 t c =
    rw c.short.ensures (ways.receive_none c.args.left _ _ _ _ _ c.if-left-eq0.true, (c.requires.sound, unmoved.stays _ _ _ _))

pub receive-returns-then-left-eq1 : goal.receive-returns-then-left-eq1
receive-returns-then-left-eq1 t c =
    rw c.short-then-left-eq1.ensures (ways.receive_one c.args.left _ _ _ _ c.if-left-eq0.false _ _ (unmoved.as_came 8 _ _ _ refl c.requires.sound c.read_word-got.ensures) (sym c.is_bad.ensures ∙ c.if-is_bad.true) _ c.if-left-eq1.true, (c.requires.sound, unmoved.stays _ _ _ _))

pub receive-returns-then-turns-eq0 : goal.receive-returns-then-turns-eq0
receive-returns-then-turns-eq0 t c =
    let e = unmoved.as_came 8 _ _ _ refl c.requires.sound c.read_word-got.ensures in let w = sym c.is_bad.ensures ∙ c.if-is_bad.true in let x = wrote _ c.discard-dropped.ensures in (ways.receive_pause c.args.left _ _ _ _ c.if-left-eq0.false _ _ e w c.if-left-eq1.false _ _ x _, (c.discard-dropped.ensures.sound, unmoved.after-discard _ _ _ _ _ _ _ _ (ways.dropped c.args.left _ _ [] [] c.if-left-eq0.false _ _ e w c.if-left-eq1.false _ _ x)))

pub receive-returns-then-is_bad : goal.receive-returns-then-is_bad
receive-returns-then-is_bad t c =
    let e = unmoved.as_came 8 _ _ _ refl c.requires.sound c.read_word-got.ensures in let w = sym c.is_bad.ensures ∙ c.if-is_bad.true in let x = wrote _ c.discard-dropped.ensures in (ways.receive_again c.args.left _ _ _ _ c.if-left-eq0.false _ _ e w c.if-left-eq1.false _ _ x _ _ _ _ c.look.ensures.0, (c.look.ensures.1.0, unmoved.after-discard _ _ _ _ _ _ _ _ (ways.dropped c.args.left _ _ [] [] c.if-left-eq0.false _ _ e w c.if-left-eq1.false _ _ x)))

pub receive-returns : goal.receive-returns
receive-returns t c =
    let e = unmoved.as_came 8 _ _ _ refl c.requires.sound c.read_word-got.ensures in let w = sym c.is_bad.ensures ∙ c.if-is_bad.false in let n = c.length.ensures in (ways.receive_fetch c.args.left _ _ _ _ c.if-left-eq0.false _ _ e _ _ _ _ _ w n c.fetch.ensures.0, (c.fetch.ensures.1.0, unmoved.after_read_lem _ _ _ _ _ _ _ _ 8 (ways.receives_good _ _ _ _ c.args.left _ c.if-left-eq0.false e w n) c.fetch.ensures.1.1))
