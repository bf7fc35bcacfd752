-- A seated ID state on the whole card. Assumes nothing.
use mathlib.Core.Path.{◌≡◌, sym, ap, ◌∙◌}
use mathlib.Core.Bool.{Bool, true, false, cond}
use Prim.Native.Nat.{ℕ}
use Rattle.port_rules.specs.declared.IdState.{IdState}
use Rattle.receive_rules.specs.Reading.{deafened}
use Rattle.card_rules.specs.declared.Card.{Card}
use Rattle.card_rules.specs.Adapter.{Adapter}
use Rattle.card_rules.specs.Update.{with_id, id_due}
use Rattle.card_rules.specs.Power.{power_on}
use Rattle.card_rules.specs.Groups.{card_id}
use Rattle.card_rules.specs.View.{view, Blank, Does}
use Rattle.card_rules.proofs.Groups.{is_id}
use Rattle.card_rules.specs.Seat.{seated}

seated-due : (i : IdState) (a : Adapter) → i.due ≡ true → seated i a ≡ with_id (id_due false i) (power_on i.words (deafened a.rx.receiver.wire))
unfolding seated
seated-due i a e = ap (λ (b : Bool). cond b (with_id (id_due false i) (power_on i.words (deafened a.rx.receiver.wire))) (with_id i a)) e

seated-plain : (i : IdState) (a : Adapter) → i.due ≡ false → seated i a ≡ with_id i a
unfolding seated
seated-plain i a e = ap (λ (b : Bool). cond b (with_id (id_due false i) (power_on i.words (deafened a.rx.receiver.wire))) (with_id i a)) e

pub seats_reset : (c p : Card) (i : IdState) (wire : ℕ) → i.due ≡ true → wire ≡ deafened c.receive.receiver.wire → Blank p (power_on i.words wire)
    → Does c (card_id (id_due false i) p) (seated i)
unfolding view
seats_reset c p i wire d e b ram dir h =
    let blank = b ram dir h.ram_long h.dir_long in
    let s = is_id p ram dir blank.held (id_due false i) in
    record {
      shows = s.shows ∙ ap (with_id (id_due false i)) blank.shows ∙ ap (λ (w : ℕ). with_id (id_due false i) (power_on i.words w)) e ∙ sym (seated-due i (view c ram dir) d);
      held = s.held;
    }

pub seats_plain : (c : Card) (i : IdState) → i.due ≡ false → Does c (card_id i c) (seated i)
seats_plain c i d ram dir h =
    let s = is_id c ram dir h i in
    record { shows = s.shows ∙ sym (seated-plain i (view c ram dir) d); held = s.held }
