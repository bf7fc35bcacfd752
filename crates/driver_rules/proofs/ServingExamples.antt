-- A worked figure, computed for any adapter. Assumes nothing.
use Rattle.std.specs.Prelude.{Ok}
use mathlib.Core.Path.{refl}
use mathlib.Core.List.{List}
use Prim.Native.Nat.{ℕ}
use Rattle.card_rules.specs.declared.Card.{Card}
use Rattle.card_rules.specs.Adapter.{Adapter}
use Rattle.driver_rules.specs.declared.Driver.{Driver}
use Rattle.driver_rules.specs.Registers.{status_port, rx_status, rx_discard, acknowledge}
use Rattle.driver_rules.specs.Talk.{Talk, done, read_word, order, run}
use Rattle.driver_rules.specs.declared.Item.TheVariants.{Idle}
use Rattle.driver_rules.specs.Items.{Serving, plain, acknowledged}
use Rattle.driver_rules.specs.Areas.{in_look, in_frame}
use Rattle.driver_rules.specs.Serving.{Serves}

-- one damaged frame and idle: Status, RX Status, the discard, Status, the acknowledgement
damaged : Driver → Talk Serving
damaged d = read_word status_port (λ _. read_word rx_status (λ _. order rx_discard 0 (read_word status_port (λ _. order acknowledge acknowledged (done (plain (Ok Idle) d))))))

-- Its service tells 5 accesses.
tells_5 : (d : Driver) (c : Card) (a : Adapter) (l f : List ℕ)
    → Serves (run (damaged d) a) (record { card = c; driver = d; answer = Ok Idle; used = 5 }) (run (damaged d) a).adapter l f l f
unfolding damaged run in_look in_frame
tells_5 d c a l f = record { answer = refl; driver = refl; used = refl; adapter = refl; look = refl; frame = refl }
