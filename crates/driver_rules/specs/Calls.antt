-- The public calls: each as a tree of accesses under its refusals, and a record that says what its contract determines. Assumes nothing.
use Rattle.std.specs.Prelude.{◌≡◌, Bool, true, false, cond, not, ◌&&◌, List, ℕ, length, leb, Err, ⊤}
use Rattle.refusal.specs.declared.Refusal.TheVariants.{StateUnsound, NeverOpened, AreaShort}
use Rattle.card_rules.specs.declared.Card.{Card}
use Rattle.card_rules.specs.View.{view, Stands, sound_card}
use Rattle.driver_rules.specs.declared.Driver.{Driver}
use Rattle.driver_rules.specs.Talk.{Talk, done, Ran, run}
use Rattle.driver_rules.specs.Driver.{driver_sound}
use Rattle.driver_rules.specs.Items.{Serving, plain}
use Rattle.driver_rules.specs.Areas.{in_look, in_frame}
use Rattle.driver_rules.specs.declared.Serviced.{Serviced}
use Rattle.driver_rules.specs.Service.{look_talk}
use Rattle.driver_rules.specs.Serves.{Unmoved}
use Rattle.driver_rules.specs.declared.After.{After}
use Rattle.driver_rules.specs.Open.{Opening, open_talk}
use Rattle.driver_rules.specs.Opens as inner_open
use Rattle.driver_rules.specs.Send.{Sending, refuses, send_talk}
use Rattle.driver_rules.specs.Sends as inner_send

-- The state handed in: the card with its memory, and the driver.
abbrev pub sound_state : Card → List ℕ → List ℕ → Driver → Bool
sound_state c ram dir d = sound_card c ram dir && driver_sound d

-- the lookahead area has 256 bytes and the frame area 1,514
abbrev pub large : List ℕ → List ℕ → Bool
large look frame = leb 256 (length look) && leb 1514 (length frame)

-- ---- the calls, refusal 1 first

unfoldable pub open_call : Bool → Driver → ℕ → ℕ → ℕ → Talk Opening
open_call sound d w₀ w₁ w₂ = cond sound (open_talk d w₀ w₁ w₂) (done (record { answer = Err StateUnsound; driver = d }))

unfoldable pub send_call : Bool → Driver → List ℕ → Talk Sending
send_call sound d packet = cond sound (send_talk d packet) (done (refuses d StateUnsound))

unfoldable pub service_call : Bool → Bool → Driver → ℕ → Talk Serving
service_call sound areas d budget =
    cond (not sound) (done (plain (Err StateUnsound) d))
    (cond (not d.opened) (done (plain (Err NeverOpened) d))
    (cond (not areas) (done (plain (Err AreaShort) d))
    (look_talk budget d)))

-- ---- what the contracts determine

abbrev pub Opens : Card → List ℕ → List ℕ → Driver → ℕ → ℕ → ℕ → After ⊤ → List ℕ → List ℕ → Type 0
Opens c ram dir d w₀ w₁ w₂ r ram' dir' =
    inner_open.Opens (run (open_call (sound_state c ram dir d) d w₀ w₁ w₂) (view c ram dir)) c ram dir r ram' dir'

abbrev pub Sends : Card → List ℕ → List ℕ → Driver → List ℕ → After ℕ → List ℕ → List ℕ → Type 0
Sends c ram dir d packet r ram' dir' =
    inner_send.Sends (run (send_call (sound_state c ram dir d) d packet) (view c ram dir)) c ram dir r ram' dir'

-- Answer, driver, count, areas and card are those of the run R; refused before its first access, or later with no discard made, a call changes nothing.
pub record ServiceCall (begun : Bool) (R : Ran Serving) (c : Card) (ram dir look frame : List ℕ) (r : Serviced) (ram' dir' look' frame' : List ℕ) : Type 0 where
  pub answer : r.answer ≡ R.answer.answer
  pub driver : r.driver ≡ R.answer.driver
  pub used : r.used ≡ length R.made
  pub taken : begun ≡ true → Stands r.card ram' dir' R.adapter
  pub kept : begun ≡ false → (r.card ≡ c) × ((ram' ≡ ram) × (dir' ≡ dir))
  pub unmoved : begun ≡ true → Unmoved R c r.card ram dir ram' dir'
  pub lookahead : look' ≡ in_look R.answer.bytes look
  pub frames : frame' ≡ in_frame R.answer.bytes frame

abbrev pub Services : Card → List ℕ → List ℕ → Driver → ℕ → List ℕ → List ℕ → Serviced → List ℕ → List ℕ → List ℕ → List ℕ → Type 0
Services c ram dir d budget look frame r ram' dir' look' frame' =
    ServiceCall (sound_state c ram dir d && (d.opened && large look frame))
    (run (service_call (sound_state c ram dir d) (large look frame) d budget) (view c ram dir)) c ram dir look frame r ram' dir' look' frame'
