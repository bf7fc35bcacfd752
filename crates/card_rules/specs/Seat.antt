-- What becomes of a card when an ID state is seated. Assumes nothing.
use Rattle.std.specs.Prelude.{false, cond}
use Rattle.port_rules.specs.declared.IdState.{IdState}
use Rattle.receive_rules.specs.Reading.{deafened}
use Rattle.card_rules.specs.Adapter.{Adapter}
use Rattle.card_rules.specs.Update.{with_id, id_due}
use Rattle.card_rules.specs.Power.{power_on}

-- An ID state is seated: it becomes the card's own. A reset that is due is carried out on the whole card.
unfoldable pub seated : IdState → Adapter → Adapter
seated i a = cond i.due (with_id (id_due false i) (power_on i.words (deafened a.rx.receiver.wire))) (with_id i a)
