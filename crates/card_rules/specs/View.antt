-- The adapter that a card and its memory hold. Assumes nothing.
use Rattle.std.specs.Prelude.{◌≡◌, List, Bool, true, ◌&&◌, ℕ, ◌%◌, length}
use Rattle.receive_rules.specs.View as rx
use Rattle.transmit_rules.specs.View as tx
use Rattle.transmit_rules.specs.QueueView as fifo
use Rattle.transmit_rules.specs.OutcomesView.{Stacked}
use Rattle.card_rules.specs.declared.Card.{Card}
use Rattle.card_rules.specs.Adapter.{Adapter}
use Rattle.card_rules.specs.Room.{tx_size, rx_size}
use Rattle.card_rules.specs.Settle.{settle_sides}
use Rattle.card_rules.specs.Sound.{sound, registers_sound, latch_settled}

abbrev pub rx_size_of : Card → ℕ
rx_size_of c = rx_size (c.config.second % 4)

abbrev pub tx_size_of : Card → ℕ
tx_size_of c = tx_size (c.config.second % 4)

-- What a card and its memory are. The view leaves out the bytes outside the stored frames and packets, and the entries past a count.
unfoldable pub view : Card → List ℕ → List ℕ → Adapter
view c ram dir =
    record {
      id = c.id;
      select = c.select;
      lines = c.lines;
      config = c.config;
      prom = c.prom;
      rx = rx.rx_of (rx_size_of c) c.receive ram dir;
      tx = tx.tx_of (tx_size_of c) c.transmit ram dir;
    }

-- The memory has its size, and frames, packets and statuses lie in their places.
pub record Held (c : Card) (ram dir : List ℕ) : Type 0 where
  pub ram_long : length ram ≡ 8192
  pub dir_long : length dir ≡ 1110
  pub frames : rx.Packed (rx_size_of c) c.receive ram dir
  pub packets : fifo.Packed (tx_size_of c) c.transmit.fifo ram dir
  pub statuses : Stacked c.transmit.outcomes

pub record Sound (c : Card) (ram dir : List ℕ) : Type 0 where
  pub held : Held c ram dir
  pub calm : sound (view c ram dir) ≡ true

-- the card r with its memory is the adapter a
pub record Is (r : Card) (ram dir : List ℕ) (a : Adapter) : Type 0 where
  pub shows : view r ram dir ≡ a
  pub held : Held r ram dir

-- .. whatever the memory holds
abbrev pub Blank : Card → Adapter → Type 0
Blank r a = (ram dir : List ℕ) → length ram ≡ 8192 → length dir ≡ 1110 → Is r ram dir a

-- r is c after the effect f, with the memory as it was
abbrev pub Does : Card → Card → (Adapter → Adapter) → Type 0
Does c r f = (ram dir : List ℕ) → Held c ram dir → Is r ram dir (f (view c ram dir))

-- r is the adapter a, and it is sound
pub record Stands (r : Card) (ram dir : List ℕ) (a : Adapter) : Type 0 where
  pub shows : view r ram dir ≡ a
  pub sound : Sound r ram dir

-- r is c with RX Early and TX Available settled, and its receive side is sound
pub record SettlesSides (c r : Card) (ram dir : List ℕ) : Type 0 where
  pub shows : view r ram dir ≡ settle_sides (view c ram dir)
  pub held : Held r ram dir
  pub rx_sound_is : rx.Sound (rx_size_of r) r.receive ram dir

-- The test that a call makes of what it is handed.
unfoldable pub sound_card : Card → List ℕ → List ℕ → Bool
sound_card c ram dir =
    rx.sound_side (rx_size_of c) c.receive ram dir
    && (tx.sound_side (tx_size_of c) c.transmit ram dir
    && (registers_sound (view c ram dir) && latch_settled (view c ram dir)))
