-- The ID port keeps a bench unread. Assumes nothing.
use mathlib.Core.Path.{refl}
use mathlib.Core.Bool.{Bool, true, false, cond}
use Prim.Native.Nat.{ℕ, ◌<◌}
use Rattle.port_rules.specs.declared.IdState.{IdState}
use Rattle.port_rules.specs.Card.{id_write, id_after_read}
use Rattle.receive_rules.specs.Reading.{deafened}
use Rattle.card_rules.specs.Adapter.{Adapter}
use Rattle.card_rules.specs.Update.{with_id, id_due}
use Rattle.card_rules.specs.Power.{power_on}
use Rattle.card_rules.specs.Settle.{settle}
use Rattle.card_rules.specs.Event.{seat, seated}
use Rattle.runs.specs.Run.{Bench, with_adapter, IdWrite, IdRead, before}
use Rattle.frames_carried.specs.Bytes.{holdable}
use Rattle.frames_carried.specs.Carried.{Unread}

settled : (due : Bool) (x y : Adapter) (b : Bench) → Unread (with_adapter x b) → Unread (with_adapter y b) → Unread (with_adapter (settle (cond due x y)) b)
unfolding settle
settled true x y b h k = record { none_read = h.none_read; no_failure = h.no_failure; held = h.held }
settled false x y b h k = record { none_read = k.none_read; no_failure = k.no_failure; held = k.held }

seats : (i : IdState) (b : Bench) → Unread b → Unread (with_adapter (seat i b.adapter) b)
unfolding seat seated power_on holdable
seats i b h =
    settled i.due (with_id (id_due false i) (power_on i.words (deafened b.adapter.rx.receiver.wire))) (with_id i b.adapter) b
    (record { none_read = refl; no_failure = refl; held = refl })
    (record { none_read = h.none_read; no_failure = h.no_failure; held = h.held })

pub id_write_call : (p : ℕ) (small : p < 16) (byte : ℕ) (b : Bench) → Unread b → Unread (before (IdWrite p small byte) b)
unfolding before
id_write_call p small byte b h = seats (id_write b.adapter.id p byte) b h

pub id_read : (p : ℕ) (small : p < 16) (bus : ℕ) (b : Bench) → Unread b → Unread (before (IdRead p small bus) b)
unfolding before
id_read p small bus b h = seats (id_after_read b.adapter.id p bus) b h
