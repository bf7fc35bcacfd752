-- Every call leaves a sound driver sound: an invariant of the trees, whatever the card answers. `access` stays shut. Assumes nothing.
use mathlib.Core.Path.{◌≡◌}
use mathlib.Core.Bool.{true, false, not, ◌||◌, ◌&&◌}
use mathlib.Core.List.{List, [], ◌∷◌}
use Prim.Native.Nat.{ℕ, zero, suc, ◌+◌, ◌-◌, ◌/◌, ◌%◌}
use native.Mathlib.Omega.{arith}
use lib.ListN.{length}
use lib.Dec.{ltb, eqb}
use borrow.Author.Tests.{leb-true, le-leb, ltb-false}
use Rattle.bits.proofs.Tests.{of_cond, of_test}
use Rattle.store.specs.Store.{round4}
use Rattle.card_rules.specs.Adapter.{Adapter}
use Rattle.card_rules.specs.Access.{Access, access}
use Rattle.driver_rules.specs.declared.Driver.{Driver}
use Rattle.driver_rules.specs.Registers.{unfit, tx_complete, rx_complete, bad, length_in}
use Rattle.driver_rules.specs.Talk.{Talk, done, ask, run, read_words, write_words}
use Rattle.driver_rules.specs.Driver.{driver_sound, with_error}
use Rattle.driver_rules.specs.Items.{Serving, is_error, seen, reports, report_talk, idle_talk, fetch_talk, words_in}
use Rattle.driver_rules.specs.Service.{look_talk, receive_talk, drop_talk}
use Rattle.driver_rules.specs.Packet.{outside, packet_words}
use Rattle.driver_rules.specs.Send.{Sending, send_talk}

-- every run of a tree ends with an answer of which P holds
abbrev Always : {A : Type 0} → (A → Type 0) → Talk A → Type 0
Always P t = (a : Adapter) → P (run t a).answer

always_ask : {A : Type 0} (P : A → Type 0) (x : Access) (next : ℕ → Talk A) → ((v : ℕ) → Always P (next v)) → Always P (ask x next)
unfolding run
always_ask P x next h a = h (access x a).value (access x a).adapter

always_done : {A : Type 0} (P : A → Type 0) (x : A) → P x → Always P (done x)
unfolding run
always_done P x p a = p

always_reads : {A : Type 0} (P : A → Type 0) (w : ℕ) (next : List ℕ → Talk A) → ((bytes : List ℕ) → Always P (next bytes)) → Always P (read_words w next)
unfolding read_words
always_reads P zero next h = h []
always_reads P (suc w) next h = always_ask P _ _ (λ v. always_reads P w (λ bytes. next (v % 256 ∷ (v / 256 ∷ bytes))) (λ bytes. h (v % 256 ∷ (v / 256 ∷ bytes))))

always_writes : {A : Type 0} (P : A → Type 0) (vs : List ℕ) (next : Talk A) → Always P next → Always P (write_words vs next)
unfolding write_words
always_writes P [] next h = h
always_writes P (v ∷ vs) next h = always_ask P _ _ (λ _. always_writes P vs next h)

-- ---- send

module _ (d : Driver) (s : driver_sound d ≡ true) (packet : List ℕ) where
  abbrev Sent : Sending → Type 0
  Sent x = driver_sound x.driver ≡ true

  pub send-keeps : (a : Adapter) → driver_sound (run (send_talk d packet) a).answer.driver ≡ true
  unfolding send_talk
  send-keeps =
      of_cond (Always Sent) (not d.opened) (always_done Sent _ s)
      (of_cond (Always Sent) (outside (length packet)) (always_done Sent _ s)
      (of_test (Always Sent) (ltb 15 d.unreported) (λ _. always_done Sent _ s)
      (λ few. always_ask Sent _ _ (λ status. of_cond (Always Sent) (unfit status) (always_done Sent _ s)
      (always_ask Sent _ _ (λ free. of_cond (Always Sent) (ltb free (4 + round4 (length packet))) (always_done Sent _ s)
      (always_writes Sent (packet_words packet) _ (always_done Sent _ (le-leb (d.unreported + 1) 16 (omega (arith, ltb-false 15 d.unreported few)))))))))))

-- ---- service

abbrev Served : Serving → Type 0
Served x = driver_sound x.driver ≡ true

reports_keep : (status : ℕ) (d : Driver) → driver_sound d ≡ true → Served (reports status d)
unfolding reports
reports_keep status d s = of_cond Served (ltb 0 d.unreported) (le-leb (d.unreported - 1) 16 (omega (arith, leb-true d.unreported 16 s))) s

report-keeps : (left : ℕ) (d : Driver) → driver_sound d ≡ true → Always Served (report_talk left d)
unfolding report_talk
report-keeps left d s =
    of_cond (Always Served) (ltb left 4) (always_done Served _ s)
    (always_ask Served _ _ (λ status. always_ask Served _ _ (λ _. always_ask Served _ _ (λ next.
    of_cond (Always Served) ((d.error || is_error status) && eqb next 0)
    (always_ask Served _ _ (λ _. always_done Served _ (reports_keep status (with_error false d) s)))
    (always_done Served _ (reports_keep status (seen d status) s))))))

idle-keeps : (left : ℕ) (d : Driver) → driver_sound d ≡ true → Always Served (idle_talk left d)
unfolding idle_talk
idle-keeps zero d s = always_done Served _ s
idle-keeps (suc left) d s = always_ask Served _ _ (λ _. always_done Served _ s)

fetch_keeps : (left : ℕ) (d : Driver) (n : ℕ) → driver_sound d ≡ true → Always Served (fetch_talk left d n)
unfolding fetch_talk
fetch_keeps left d n s =
    of_cond (Always Served) (ltb left (words_in n + 1)) (always_done Served _ s)
    (always_reads Served (words_in n) _ (λ bytes. always_ask Served _ _ (λ _. always_done Served _ s)))

mutual
  unfolding look_talk

  look-keeps : (left : ℕ) (d : Driver) → driver_sound d ≡ true → Always Served (look_talk left d)
  look-keeps zero d s = always_done Served _ s
  look-keeps (suc left) d s =
      always_ask Served _ _ (λ status. of_cond (Always Served) (unfit status) (always_done Served _ s)
      (of_cond (Always Served) (tx_complete status) (report-keeps left d s)
      (of_cond (Always Served) (rx_complete status) (receive_keeps left d s) (idle-keeps left d s))))

  receive_keeps : (left : ℕ) (d : Driver) → driver_sound d ≡ true → Always Served (receive_talk left d)
  receive_keeps zero d s = always_done Served _ s
  receive_keeps (suc left) d s =
      always_ask Served _ _ (λ rx. of_cond (Always Served) (bad rx) (drop_keeps left d s) (fetch_keeps left d (length_in rx) s))

  drop_keeps : (left : ℕ) (d : Driver) → driver_sound d ≡ true → Always Served (drop_talk left d)
  drop_keeps zero d s = always_done Served _ s
  drop_keeps (suc left) d s = always_ask Served _ _ (λ _. look-keeps left d s)

pub service-keeps : (left : ℕ) (d : Driver) (a : Adapter) → driver_sound d ≡ true → driver_sound (run (look_talk left d) a).answer.driver ≡ true
service-keeps left d a s = look-keeps left d s a
