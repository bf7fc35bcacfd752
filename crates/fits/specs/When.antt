-- "Given exactly when": open, send and service answer a number exactly when document 01's table says so. Nothing is known of a call but its contract. Assumes nothing.
use Rattle.std.specs.Prelude.{◌≡◌, ◌↔◌, ◌⊎◌, Bool, true, false, List, ℕ, ◌+◌, ◌<◌, ◌≤◌, length, ltb, ⊤}
use Rattle.card_rules.specs.declared.Card.{Card}
use Rattle.card_rules.specs.Adapter.{Adapter}
use Rattle.card_rules.specs.Sound as card
use Rattle.card_rules.specs.View.{view}
use Rattle.card_rules.specs.Access.{ReadWord, WriteWord, access}
use Rattle.driver_rules.specs.declared.Driver.{Driver}
use Rattle.driver_rules.specs.declared.After.{After}
use Rattle.driver_rules.specs.declared.Serviced.{Serviced}
use Rattle.driver_rules.specs.Registers.{status_port, rx_status, command_port, rx_discard, unfit, tx_complete, rx_complete, bad, length_in}
use Rattle.driver_rules.specs.Packet.{outside, lacks_room}
use Rattle.driver_rules.specs.Items.{words_in}
use Rattle.driver_rules.specs.Paper.{Paper, opened, ticket, short, refused, open_paper, send_paper, service_paper}
use Rattle.driver_rules.specs.Calls.{sound_state, large, Opens, Sends, Services}
use Rattle.fits.specs.Order.{status_read, free_read}

-- ---- the accesses that a service needs

-- behind the Status read: the adapter that it leaves, RX Status as it is read next, and the adapter that a discard leaves behind both
abbrev pub looked : Adapter → Adapter
looked a = (access (ReadWord status_port) a).adapter

abbrev pub rx_read : Adapter → ℕ
rx_read a = (access (ReadWord rx_status) (looked a)).value

abbrev pub discarded : Adapter → Adapter
discarded a = (access (WriteWord command_port rx_discard) (access (ReadWord rx_status) (looked a)).adapter).adapter

-- A service that begins at the adapter a needs n accesses: a status read, a discard and the acknowledgement need 1 each, a report 4, a good frame its words and 1 more.
pub data Needs : Adapter → ℕ → Type 0 where
  -- Adapter Failure, or a window other than 1
  unfit_card : (a : Adapter) → unfit (status_read a) ≡ true → Needs a 1
  -- TX Complete
  report : (a : Adapter) → unfit (status_read a) ≡ false → tx_complete (status_read a) ≡ true → Needs a (1 + 4)
  -- else RX Complete, and the frame is good
  good_frame_is : (a : Adapter) → unfit (status_read a) ≡ false → tx_complete (status_read a) ≡ false → rx_complete (status_read a) ≡ true
      → bad (rx_read a) ≡ false → Needs a (2 + (words_in (length_in (rx_read a)) + 1))
  -- .. or damaged: it is discarded, and the pass looks again from the start
  damaged_frame : (a : Adapter) (n : ℕ) → unfit (status_read a) ≡ false → tx_complete (status_read a) ≡ false → rx_complete (status_read a) ≡ true
      → bad (rx_read a) ≡ true → Needs (discarded a) n → Needs a (3 + n)
  -- else idle
  idle : (a : Adapter) → unfit (status_read a) ≡ false → tx_complete (status_read a) ≡ false → rx_complete (status_read a) ≡ false → Needs a (1 + 1)

-- Budget short: less than what the service needs. Where it would discard for ever it needs no number (`endless`), and every budget is short.
abbrev pub Short : ℕ → Adapter → Type 0
Short budget a = (n : ℕ) → Needs a n → budget < n

-- Budget enough: what the service needs is within it.
pub record Enough (budget : ℕ) (a : Adapter) : Type 0 where
  pub need : ℕ
  pub needed : Needs a need
  pub within : need ≤ budget

-- ---- a row for each number that a call says: the number's own test holds, and none before it in the order

module _ (sound : Bool) (d : Driver) where
  -- not refused 1
  abbrev pub Sound : Type 0 → Type 0
  Sound rest = (sound ≡ true) × rest

  -- .. nor 13
  abbrev pub Ready : Type 0 → Type 0
  Ready rest = Sound ((d.opened ≡ true) × rest)

  pub record Open-when (says : Paper) : Type 0 where
    pub refusal_1 : says ≡ refused 1 ↔ sound ≡ false
    pub no_other : says ≡ opened ↔ sound ≡ true

  module _ (packet : List ℕ) (a : Adapter) where
    -- .. nor 2
    abbrev pub Sized : Type 0 → Type 0
    Sized rest = Ready ((outside (length packet) ≡ false) × rest)

    -- .. nor 3
    abbrev pub Few : Type 0 → Type 0
    Few rest = Sized ((ltb 15 d.unreported ≡ false) × rest)

    -- .. nor 5
    abbrev pub Fit : Type 0 → Type 0
    Fit rest = Few ((unfit (status_read a) ≡ false) × rest)

    pub record Send-when (says : Paper) : Type 0 where
      pub refusal_1 : says ≡ refused 1 ↔ sound ≡ false
      pub refusal_13 : says ≡ refused 13 ↔ Sound (d.opened ≡ false)
      pub refusal_2 : says ≡ refused 2 ↔ Ready (outside (length packet) ≡ true)
      pub refusal_3 : says ≡ refused 3 ↔ Sized (ltb 15 d.unreported ≡ true)
      pub refusal_5 : says ≡ refused 5 ↔ Few (unfit (status_read a) ≡ true)
      pub refusal_4 : says ≡ refused 4 ↔ Fit (lacks_room (free_read a) (length packet) ≡ true)
      pub no_other : says ≡ ticket d.sent ↔ Fit (lacks_room (free_read a) (length packet) ≡ false)

  module _ (look frame : List ℕ) where
    -- .. nor 7
    abbrev pub Begun : Type 0 → Type 0
    Begun rest = Ready ((large look frame ≡ true) × rest)

    -- With budget 0, 6 stands in 5's place: a service needs 1 or more.
    pub record Service-when (budget : ℕ) (a : Adapter) (used : ℕ) (says : Paper) : Type 0 where
      pub refusal_1 : says ≡ refused 1 ↔ sound ≡ false
      pub refusal_13 : says ≡ refused 13 ↔ Sound (d.opened ≡ false)
      pub refusal_7 : says ≡ refused 7 ↔ Ready (large look frame ≡ false)
      pub refusal_5 : says ≡ refused 5 ↔ Begun ((0 < budget) × (unfit (status_read a) ≡ true))
      pub refusal_6 : says ≡ short used ↔ Begun (Short budget a)
      -- begun, and not short: the budget holds what the service needs
      pub enough : Begun (says ≡ short used → ⊥) → Enough budget a
      pub no_other : (n : ℕ) → says ≡ refused n → (n ≡ 1) ⊎ (n ≡ 13) ⊎ (n ≡ 7) ⊎ (n ≡ 5)

-- ---- the statement

pub record RefusedExactlyWhen : Type 0 where
  pub opens : (c : Card) (ram dir : List ℕ) (d : Driver) (w₀ w₁ w₂ : ℕ) (r : After ⊤) (ram' dir' : List ℕ) → Opens c ram dir d w₀ w₁ w₂ r ram' dir'
      → Open-when (sound_state c ram dir d) d (open_paper r.answer)
  pub sends : (c : Card) (ram dir : List ℕ) (d : Driver) (packet : List ℕ) (r : After ℕ) (ram' dir' : List ℕ) → Sends c ram dir d packet r ram' dir'
      → Send-when (sound_state c ram dir d) d packet (view c ram dir) (send_paper r.answer)
  pub services : (c : Card) (ram dir : List ℕ) (d : Driver) (budget : ℕ) (look frame : List ℕ) (r : Serviced) (ram' dir' look' frame' : List ℕ)
      → Services c ram dir d budget look frame r ram' dir' look' frame'
      → Service-when (sound_state c ram dir d) d look frame budget (view c ram dir) r.used (service_paper r.answer r.used)
  -- What a service needs is one number.
  pub one_need : (a : Adapter) (n m : ℕ) → Needs a n → Needs a m → n ≡ m
  -- A receive failure stands, but the Read Zero mask hides it: discards do nothing, and a damaged frame stays the oldest.
  pub endless : (a : Adapter) → card.sound a ≡ true → a.id.active ≡ true → a.select.window ≡ 1 → a.rx.receiver.failed ≡ true
      → unfit (status_read a) ≡ false → tx_complete (status_read a) ≡ false → rx_complete (status_read a) ≡ true → bad (rx_read a) ≡ true → (budget : ℕ) → Short budget a
