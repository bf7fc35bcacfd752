-- An active card by its shape, so that accesses to it compute. Assumes nothing.
use mathlib.Core.Path.{◌≡◌, ap}
use mathlib.Core.Bool.{Bool, true}
use Rattle.port_rules.specs.declared.IdState.{IdState}
use Rattle.card_rules.specs.Adapter.{Adapter}
use Rattle.card_rules.specs.Update.{with_id}

abbrev pub id_active : Bool → IdState → IdState
id_active v i = record { command = i.command; port = i.port; at = i.at; tag = i.tag; shift = i.shift; address = i.address; active = v; due = i.due; words = i.words }

abbrev pub woken : Bool → Adapter → Adapter
woken v a = with_id (id_active v a.id) a

pub is_woken : (a : Adapter) → a.id.active ≡ true → a ≡ woken true a
is_woken a h = ap (λ (v : Bool). woken v a) h
