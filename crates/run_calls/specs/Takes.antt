-- The calls take the steps: public calls one after the other, of which nothing is known but their contracts, leave and answer what the run of their events does. Assumes nothing.
use Rattle.std.specs.Prelude.{◌≡◌, Bool, true, List, [], ◌∷◌, ◌++◌, ℕ, ◌<◌, length, take, ⊤, Result, Ok, Err}
use Rattle.refusal.specs.declared.Refusal.{Refusal}
use Rattle.port_rules.specs.Card.{id_write, id_after_read}
use Rattle.card_rules.specs.declared.Card.{Card}
use Rattle.card_rules.specs.Power.{power_on}
use Rattle.card_rules.specs.View.{view}
use Rattle.card_rules.specs.Access.{ReadWord, ReadByte, WriteWord, WriteByte}
use Rattle.card_rules.specs.declared.After.{After as AfterCard}
use Rattle.card_rules.specs.Calls as card
use Rattle.card_rules.specs.Calls.{Reply, done_reply, told_reply}
use Rattle.card_rules.specs.CardContracts as contract
use Rattle.driver_rules.specs.declared.Driver.{Driver}
use Rattle.driver_rules.specs.Driver.{never_opened}
use Rattle.driver_rules.specs.declared.Item.{Item}
use Rattle.driver_rules.specs.declared.Item.TheVariants as serving
use Rattle.driver_rules.specs.declared.After.{After}
use Rattle.driver_rules.specs.declared.Serviced.{Serviced}
use Rattle.driver_rules.specs.Paper.{open_paper, send_paper, service_paper}
use Rattle.driver_rules.specs.Calls.{sound_state, Opens, Sends, Services}
use Rattle.driver_rules.specs.HandUp.{handed}
use Rattle.runs.specs.Run as run
use Rattle.runs.specs.Run.{Bench, Areas, Event, after, sayings, Earlier, Host, IdWrite, IdRead, Later, since, Said}

-- what the calls are handed: the card with its memory, and the driver
pub record State : Type 0 where
  pub card : Card
  pub ram : List ℕ
  pub dir : List ℕ
  pub driver : Driver

-- .. as a run sees it
abbrev pub seen : State → Bench
seen s = record { adapter = view s.card s.ram s.dir; driver = s.driver }

-- The memory has its size, as its type says, and the state passes the test of soundness.
pub record Good (s : State) : Type 0 where
  pub ram_long : length s.ram ≡ 8192
  pub dir_long : length s.dir ≡ 1110
  pub sound : sound_state s.card s.ram s.dir s.driver ≡ true

-- ---- what is said

-- A step that is taken answers nothing.
abbrev pub says_done : Reply → List Said
says_done (card.refused n) = run.refused n ∷ []
says_done card.done = []
says_done (card.value v) = []

-- A success tells the first bytes of the area `out`, as many as are answered.
abbrev pub says_told : List ℕ → Reply → List Said
says_told out (card.refused n) = run.refused n ∷ []
says_told out card.done = []
says_told out (card.value n) = run.told (take n out) ∷ []

-- After a service that answers a frame of n bytes, hand_up gives them.
abbrev pub hands_up : Result Item Refusal → Areas → List ℕ
hands_up (Ok (serving.Reported t s)) x = []
hands_up (Ok (serving.Status s)) x = []
hands_up (Ok (serving.Frame n)) x = handed x.look x.frame n
hands_up (Ok serving.Idle) x = []
hands_up (Err why) x = []

-- ---- `Called s e s' says`: where a run has the event e, a public call is handed s, leaves s' and says so; all that is known of it is its contract

abbrev pub left : Card → List ℕ → List ℕ → Driver → State
left c ram dir d = record { card = c; ram = ram; dir = dir; driver = d }

pub data Called (s : State) : Event → State → List Said → Type 0 where
  wire_start_call : (first : List ℕ) (eight : length first ≡ 8) (r : AfterCard ⊤) (ram dir : List ℕ) → contract.WireStart s.card s.ram s.dir first r ram dir
      → Called s (run.Start first eight) (left r.card ram dir s.driver) (says_done (done_reply r.answer))
  wire_byte_call : (v : ℕ) (r : AfterCard ⊤) (ram dir : List ℕ) → contract.WireByte s.card s.ram s.dir v r ram dir
      → Called s (run.Byte v) (left r.card ram dir s.driver) (says_done (done_reply r.answer))
  wire_end_call : (check alignment : Bool) (r : AfterCard ⊤) (ram dir : List ℕ) → contract.WireEnd s.card s.ram s.dir check alignment r ram dir
      → Called s (run.End check alignment) (left r.card ram dir s.driver) (says_done (done_reply r.answer))
  success : (out out' : List ℕ) (r : AfterCard ℕ) (ram dir : List ℕ) → contract.Success s.card s.ram s.dir r ram dir → contract.SuccessArea s.card s.ram s.dir out out'
      → Called s run.Sent (left r.card ram dir s.driver) (says_told out' (told_reply r.answer))
  collisions : (r : AfterCard ⊤) (ram dir : List ℕ) → contract.Collisions s.card s.ram s.dir r ram dir
      → Called s run.Collided (left r.card ram dir s.driver) (says_done (done_reply r.answer))
  «open» : (w₀ w₁ w₂ : ℕ) (r : After ⊤) (ram dir : List ℕ) → Opens s.card s.ram s.dir s.driver w₀ w₁ w₂ r ram dir
      → Called s (run.Open w₀ w₁ w₂) (left r.card ram dir r.driver) (run.answered (open_paper r.answer) ∷ [])
  send : (packet : List ℕ) (r : After ℕ) (ram dir : List ℕ) → Sends s.card s.ram s.dir s.driver packet r ram dir
      → Called s (run.Send packet) (left r.card ram dir r.driver) (run.answered (send_paper r.answer) ∷ [])
  service : (budget : ℕ) (x x' : Areas) (r : Serviced) (ram dir : List ℕ) → Services s.card s.ram s.dir s.driver budget x.look x.frame r ram dir x'.look x'.frame
      → Called s (run.Service budget x) (left r.card ram dir r.driver) (run.served (service_paper r.answer r.used) (hands_up r.answer x') x' ∷ [])

-- calls one after the other
pub data Calls : State → List Event → State → List Said → Type 0 where
  none : (s : State) → Calls s [] s []
  then : (s s' s'' : State) (e : Event) (es : List Event) (says more : List Said) → Called s e s' says → Calls s' es s'' more → Calls s (e ∷ es) s'' (says ++ more)

-- Before the driver is opened: the host's accesses too, and the card's ID state as the ID port leaves it, seated.
pub data CalledBefore (s : State) : Earlier → State → Type 0 where
  read_word : (o : ℕ) (r : AfterCard ℕ) → contract.ReadsWord s.card s.ram s.dir o r → CalledBefore s (Host (ReadWord o)) (left r.card s.ram s.dir s.driver)
  read_byte : (o : ℕ) (r : AfterCard ℕ) → contract.ReadsByte s.card s.ram s.dir o r → CalledBefore s (Host (ReadByte o)) (left r.card s.ram s.dir s.driver)
  write_word : (o v : ℕ) (r : AfterCard ⊤) (ram dir : List ℕ) → contract.WritesWord s.card s.ram s.dir o v r ram dir → CalledBefore s (Host (WriteWord o v)) (left r.card ram dir s.driver)
  write_byte : (o v : ℕ) (r : AfterCard ⊤) (ram dir : List ℕ) → contract.WritesByte s.card s.ram s.dir o v r ram dir → CalledBefore s (Host (WriteByte o v)) (left r.card ram dir s.driver)
  seat_written : (p : ℕ) (small : p < 16) (byte : ℕ) (r : AfterCard ⊤) → contract.Seat s.card s.ram s.dir (id_write s.card.id p byte) r
      → CalledBefore s (IdWrite p small byte) (left r.card s.ram s.dir s.driver)
  seat_read : (p : ℕ) (small : p < 16) (bus : ℕ) (r : AfterCard ⊤) → contract.Seat s.card s.ram s.dir (id_after_read s.card.id p bus) r
      → CalledBefore s (IdRead p small bus) (left r.card s.ram s.dir s.driver)
  later : (e : Event) (s' : State) (says : List Said) → Called s e s' says → CalledBefore s (Later e) s'

pub data CallsBefore : State → List Earlier → State → Type 0 where
  none_before : (s : State) → CallsBefore s [] s
  then_before : (s s' s'' : State) (h : Earlier) (hs : List Earlier) → CalledBefore s h s' → CallsBefore s' hs s'' → CallsBefore s (h ∷ hs) s''

-- ---- what is promised

-- The calls leave what the run leaves, say what the run says, and the state is good again.
pub record Takes (es : List Event) (s s' : State) (says : List Said) : Type 0 where
  pub leaves : seen s' ≡ after es (seen s)
  pub answers : says ≡ sayings es (seen s)
  pub good : Good s'

pub record TakesBefore (hs : List Earlier) (s s' : State) : Type 0 where
  pub leaves : seen s' ≡ since hs (seen s)
  pub good : Good s'

pub record TheCallsTakeTheSteps : Type 0 where
  -- a power-on card with any words and any memory, and a driver never opened
  pub at_power_on_is : (words ram dir : List ℕ) (c : Card) → length ram ≡ 8192 → length dir ≡ 1110 → contract.PowerOn words c
      → (seen (left c ram dir never_opened) ≡ record { adapter = power_on words 0; driver = never_opened }) × Good (left c ram dir never_opened)
  pub any_calls : (es : List Event) (s s' : State) (says : List Said) → Good s → Calls s es s' says → Takes es s s' says
  pub any_calls_before : (hs : List Earlier) (s s' : State) → Good s → CallsBefore s hs s' → TakesBefore hs s s'
