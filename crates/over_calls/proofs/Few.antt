-- With less than three accesses a service discards nothing: it reads Status and RX Status, and then it is short. Assumes nothing.
use mathlib.Core.Path.{◌≡◌, refl}
use mathlib.Core.Bool.{Bool, false, not}
use Prim.Native.Nat.{ℕ, zero, suc, ◌+◌, ◌<◌}
use native.Mathlib.Omega.{arith}
use borrow.Author.Tests.{lt-ltb}
use Rattle.bits.proofs.Tests.{of_cond}
use Rattle.card_rules.specs.Adapter.{Adapter}
use Rattle.card_rules.specs.Access.{Access, access}
use Rattle.driver_rules.specs.declared.Driver.{Driver}
use Rattle.driver_rules.specs.Registers.{unfit, tx_complete, rx_complete, bad, length_in}
use Rattle.driver_rules.specs.Talk.{Talk, done, ask, run}
use Rattle.driver_rules.specs.Items.{Serving, short, report_talk, idle_talk, fetch_talk, words_in}
use Rattle.driver_rules.specs.Service.{look_talk, receive_talk}
use Rattle.driver_rules.specs.Serves.{is_discard, discarded}
use Rattle.driver_rules.specs.Calls.{service_call}

-- no discard, whatever is read
abbrev None : Talk Serving → Type 0
None t = (a : Adapter) → discarded (run t a).made ≡ false

ends : (x : Serving) → None (done x)
unfolding run discarded
ends x a = refl

asks : (x : Access) (next : ℕ → Talk Serving) → is_discard x ≡ false → ((v : ℕ) → None (next v)) → None (ask x next)
unfolding run discarded
asks x next e h a = rw e (h (access x a).value (access x a).adapter)

fetch_none : (d : Driver) (n : ℕ) → None (fetch_talk 0 d n)
unfolding fetch_talk
fetch_none d n = rw (lt-ltb 0 (words_in n + 1) (omega arith)) (ends (short d))

receive_one : (d : Driver) → None (receive_talk 1 d)
unfolding look_talk
receive_one d = asks _ _ refl (λ rx. of_cond None (bad rx) (ends _) (fetch_none d (length_in rx)))

look-few : (budget : ℕ) (d : Driver) → budget < 3 → None (look_talk budget d)
unfolding look_talk report_talk idle_talk
look-few zero d h = ends _
look-few (suc zero) d h =
    asks _ _ refl (λ s. of_cond None (unfit s) (ends _) (of_cond None (tx_complete s) (ends _) (of_cond None (rx_complete s) (ends _) (ends _))))
look-few (suc (suc zero)) d h =
    asks _ _ refl (λ s. of_cond None (unfit s) (ends _) (of_cond None (tx_complete s) (ends _) (of_cond None (rx_complete s) (receive_one d) (asks _ _ refl (λ _. ends _)))))
look-few (suc (suc (suc k))) d h = absurd (omega arith)

pub few : (sound areas : Bool) (d : Driver) (budget : ℕ) → budget < 3 → None (service_call sound areas d budget)
unfolding service_call
few sound areas d budget h =
    of_cond None (not sound) (ends _) (of_cond None (not d.opened) (ends _) (of_cond None (not areas) (ends _) (look-few budget d h)))
