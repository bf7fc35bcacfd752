-- The RAM and its split. Assumes nothing.
use Rattle.std.specs.Prelude.{cond, ℕ, ◌%◌, eqb}
use Rattle.transmit_rules.specs.Queue as queue
use Rattle.card_rules.specs.Adapter.{Adapter}

-- Word 13h bits 1-0 split the RAM, TX:RX: 0 is 3,072:5,120; 1 is 2,048:6,144; 2 is 4,096:4,096; 3 acts as 0.
unfoldable pub tx_size : ℕ → ℕ
tx_size split = cond (eqb split 1) 2048 (cond (eqb split 2) 4096 3072)

unfoldable pub rx_size : ℕ → ℕ
rx_size split = cond (eqb split 1) 6144 (cond (eqb split 2) 4096 5120)

-- bits 1-0 of the second Internal Configuration word
abbrev pub split : Adapter → ℕ
split a = a.config.second % 4

abbrev pub tx_room : Adapter → ℕ
tx_room a = tx_size (split a)

abbrev pub rx_room : Adapter → ℕ
rx_room a = rx_size (split a)

-- TX Free
abbrev pub tx_free : Adapter → ℕ
tx_free a = queue.free (tx_room a) a.tx.queue
