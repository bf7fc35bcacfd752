-- What the effects of the wire and of the outcomes come to on the whole card. Assumes nothing.
use mathlib.Core.Path.{◌≡◌, subst, subst⁻¹}
use mathlib.Core.Bool.{Bool, ◌&&◌}
use mathlib.Core.List.{List}
use Prim.Native.Nat.{ℕ}
use Rattle.receive_rules.specs.declared.Receive.{Receive}
use Rattle.receive_rules.specs.Frame.{Rx}
use Rattle.receive_rules.specs.Wire as wire
use Rattle.receive_rules.specs.Wire.{passes}
use Rattle.receive_rules.specs.View as rx
use Rattle.transmit_rules.specs.Leave.{told_of}
use Rattle.transmit_rules.specs.QueueView.{Tells}
use Rattle.transmit_rules.specs.View as tx
use Rattle.card_rules.specs.declared.Card.{Card}
use Rattle.card_rules.specs.Update.{with_rx}
use Rattle.card_rules.specs.Groups.{card_receive}
use Rattle.card_rules.specs.View.{rx_size_of, tx_size_of, view, Held, Is}
use Rattle.card_rules.proofs.Join.{rx-does}
use Rattle.card_rules.specs.Effect.{taken}

module _ (c : Card) (ram dir ram' dir' : List ℕ) (h : Held c ram dir) where
  -- a receive side stored into the card
  pub stored : (g : ℕ → Rx → Rx) (size : ℕ) (r : Receive) (q : Card) → size ≡ rx_size_of c → q ≡ card_receive r c
      → rx.Step size r ram dir ram' dir' (g size (rx.rx_of size c.receive ram dir)) → Is q ram' dir' (with_rx (g (rx_size_of c) (view c ram dir).rx) (view c ram dir))
  stored g size r q e k s =
      subst⁻¹ (λ (d : Card). Is d ram' dir' (with_rx (g (rx_size_of c) (view c ram dir).rx) (view c ram dir))) k (rx-does c ram dir ram' dir' h g size r e s)

  -- the start of a frame, whose filter's answer is t
  pub started : (first : List ℕ) (t : Bool) (size : ℕ) (r : Receive) (q : Card) → t ≡ passes c.select.filter c.config.station first → size ≡ rx_size_of c → q ≡ card_receive r c
      → rx.Step size r ram dir ram' dir' (wire.wire_start size (c.id.active && t) first (rx.rx_of size c.receive ram dir))
      → Is q ram' dir' (with_rx (wire.wire_start (rx_size_of c) (taken first (view c ram dir)) first (view c ram dir).rx) (view c ram dir))
  unfolding view
  started first t size r q p e k s =
      stored (λ n. wire.wire_start n (c.id.active && passes c.select.filter c.config.station first) first) size r q e k
      (subst (λ (b : Bool). rx.Step size r ram dir ram' dir' (wire.wire_start size (c.id.active && b) first (rx.rx_of size c.receive ram dir))) p s)

-- what the wire is told, by the size that the configuration gives
pub tells_as : (c : Card) (ram dir out out' : List ℕ) (n size : ℕ) → size ≡ tx_size_of c → Tells n out out' (told_of (tx.tx_of size c.transmit ram dir).queue.packets)
    → Tells n out out' (told_of (view c ram dir).tx.queue.packets)
unfolding view
tells_as c ram dir out out' n size e t = subst (λ (m : ℕ). Tells n out out' (told_of (tx.tx_of m c.transmit ram dir).queue.packets)) e t
