-- `regs::is_sound` meets its contract: each test is a part of the definition's. Assumes nothing.
use Rattle.card_rules.proofs.Checked.{no-rx, rx_yes, no-tx, tx_yes, sides_held, short_test, last_test}
use Rattle.regs.proofs.is_sound.Goals as goal

pub returns-then-not-rx_sound : goal.returns-then-not-rx_sound
returns-then-not-rx_sound c = no-rx _ _ _ _ _ c.rx_size.ensures.0 c.rx_sound.ensures (c.if-not-rx_sound.true)

pub returns-then-not-tx_sound : goal.returns-then-not-tx_sound
returns-then-not-tx_sound c =
    no-tx _ _ _ _ _ (rx_yes c.args.c _ _ _ _ c.rx_size.ensures.0 c.rx_sound.ensures (c.if-not-rx_sound.false)) c.tx_size.ensures.0 c.tx_sound.ensures (c.if-not-tx_sound.true)

pub returns-then-c : goal.returns-then-c
returns-then-c c =
    short_test c.args.c _ _ _ _ (rx_yes c.args.c _ _ _ _ c.rx_size.ensures.0 c.rx_sound.ensures (c.if-not-rx_sound.false)) (tx_yes c.args.c _ _ _ _ c.tx_size.ensures.0 c.tx_sound.ensures (c.if-not-tx_sound.false))
    c.id_sound.ensures c.select_sound.ensures c.if-c.true

pub flags_of-requires : goal.flags_of-requires
flags_of-requires c =
    sides_held _ _ _ c.requires.0 c.requires.1 (rx_yes c.args.c _ _ _ _ c.rx_size.ensures.0 c.rx_sound.ensures (c.if-not-rx_sound.false)) (tx_yes c.args.c _ _ _ _ c.tx_size.ensures.0 c.tx_sound.ensures (c.if-not-tx_sound.false))

pub returns : goal.returns
returns c =
    last_test _ _ _ _ _ _ _ (rx_yes c.args.c _ _ _ _ c.rx_size.ensures.0 c.rx_sound.ensures (c.if-not-rx_sound.false)) (tx_yes c.args.c _ _ _ _ c.tx_size.ensures.0 c.tx_sound.ensures (c.if-not-tx_sound.false))
    c.flags_of.ensures c.id_sound.ensures c.select_sound.ensures c.interrupts.ensures
