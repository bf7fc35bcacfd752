-- Which states of a card on the ID port are sound: one test. Power-on passes it with any words, and every step keeps it.
-- Assumes nothing.
use Rattle.std.specs.Prelude.{ℕ, ◌<◌, ◌≡◌, Bool, true, not, ◌&&◌, ◌||◌, List, leb, eqb}
use Rattle.port_rules.specs.declared.IdState.{IdState}
use Rattle.port_rules.specs.Card.{id_fresh, id_write, id_after_read}

-- Port, place and tag are in range; in ID_CMD there is a port and no sequence begun; with no port there is none begun.
unfoldable pub id_sound : IdState → Bool
id_sound s =
    leb s.port 16
    && leb s.at 254
    && leb s.tag 7
    && (not s.command || (leb s.port 15 && eqb s.at 0))
    && (not (eqb s.port 16) || eqb s.at 0)

pub record EveryStepKeepsSoundness : Type 0 where
  pub power_on : (ws : List ℕ) → id_sound (id_fresh ws) ≡ true
  pub writes : (s : IdState) (port byte : ℕ) → port < 16 → id_sound s ≡ true → id_sound (id_write s port byte) ≡ true
  pub reads : (s : IdState) (port bus : ℕ) → id_sound s ≡ true → id_sound (id_after_read s port bus) ≡ true
