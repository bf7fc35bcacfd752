-- No access of an open or a service changes the transmit FIFO; nor do the wire's events. Assumes nothing.
use mathlib.Core.Path.{◌≡◌, refl, ap, ◌∙◌}
use mathlib.Core.Bool.{Bool, true, not, ◌&&◌, ◌||◌}
use mathlib.Core.List.{List, [], ◌∷◌}
use Prim.Native.Nat.{ℕ, zero, suc, ◌+◌, ◌/◌, ◌%◌}
use lib.Dec.{ltb, eqb}
use Rattle.bits.proofs.Tests.{of_cond, by_test}
use Rattle.card_rules.specs.Adapter.{Adapter}
use Rattle.card_rules.specs.Settle.{settle}
use Rattle.card_rules.specs.Command.{acknowledge, act, command, commanded}
use Rattle.card_rules.specs.Read.{after_word}
use Rattle.card_rules.specs.Write.{covers_low, covers_high, write, write0, write1, write2, write3, write_word, write_byte}
use Rattle.card_rules.specs.Access.{Access, ReadWord, ReadByte, WriteWord, WriteByte, Step, effect, access}
use Rattle.card_rules.proofs.Active.{woken}
use Rattle.driver_rules.specs.declared.Driver.{Driver}
use Rattle.driver_rules.proofs.Runs.{asleep_run}
use Rattle.driver_rules.specs.Registers.{unfit, tx_complete, rx_complete, bad, length_in}
use Rattle.driver_rules.specs.Talk.{Talk, done, ask, run, read_words}
use Rattle.driver_rules.specs.Open.{open_talk}
use Rattle.driver_rules.specs.Items.{is_error, report_talk, idle_talk, fetch_talk, words_in}
use Rattle.driver_rules.specs.Service.{look_talk, receive_talk, drop_talk}
use Rattle.driver_rules.specs.Calls.{open_call, service_call}

-- b has the FIFO of a
abbrev pub Same : Adapter → Adapter → Type 0
Same a b = b.tx.queue ≡ a.tx.queue

pub access-same : (x : Access) (a : Adapter) → Same a (effect x a).adapter → Same a (access x a).adapter
unfolding access settle
access-same x a h = of_cond (λ (t : Step). Same a t.adapter) a.id.active h refl

-- ---- the accesses of a service

abbrev Leaves : Access → Type 0
Leaves x = (a : Adapter) → Same a (effect x a).adapter

pub word_read : (o : ℕ) → Leaves (ReadWord o)
unfolding effect after_word
word_read o a = of_cond (Same a) (ltb o 4 && eqb a.select.window 1) refl refl

byte-read : (o : ℕ) → Leaves (ReadByte o)
unfolding effect
byte-read o a = refl

-- a pop, in any window
popped : Leaves (WriteByte 11 0)
unfolding effect write_byte write write0 write1 write2 write3 covers_low covers_high
popped a =
    of_cond (Same a) (eqb a.select.window 0) refl
    (of_cond (Same a) (eqb a.select.window 1) refl
    (of_cond (Same a) (eqb a.select.window 2) refl
    (of_cond (Same a) (eqb a.select.window 3) refl refl)))

discarded : Leaves (WriteWord 14 16384)
unfolding effect write_word commanded command
discarded a = of_cond (Same a) (eqb a.select.window 0) refl refl

enabled : Leaves (WriteWord 14 18432)
unfolding effect write_word commanded command act
enabled a = of_cond (Same a) (eqb a.select.window 0) refl refl

acknowledged : Leaves (WriteWord 14 26729)
unfolding effect write_word commanded command act acknowledge
acknowledged a = of_cond (Same a) (eqb a.select.window 0) refl refl

-- ---- trees of such accesses, whatever the card answers

abbrev Quiet : {A : Type 0} → Talk A → Type 0
Quiet t = (a : Adapter) → Same a (run t a).adapter

quiet-done : {A : Type 0} (x : A) → Quiet (done x)
unfolding run
quiet-done x a = refl

quiet-ask : {A : Type 0} (x : Access) (next : ℕ → Talk A) → Leaves x → ((v : ℕ) → Quiet (next v)) → Quiet (ask x next)
unfolding run
quiet-ask x next l h a = h (access x a).value (access x a).adapter ∙ access-same x a (l a)

quiet-reads : {A : Type 0} (w : ℕ) (next : List ℕ → Talk A) → ((bytes : List ℕ) → Quiet (next bytes)) → Quiet (read_words w next)
unfolding read_words
quiet-reads zero next h = h []
quiet-reads (suc w) next h = quiet-ask (ReadWord 0) _ (word_read 0) (λ v. quiet-reads w (λ bytes. next (v % 256 ∷ (v / 256 ∷ bytes))) (λ bytes. h (v % 256 ∷ (v / 256 ∷ bytes))))

report-quiet : (left : ℕ) (d : Driver) → Quiet (report_talk left d)
unfolding report_talk
report-quiet left d =
    of_cond Quiet (ltb left 4) (quiet-done _)
    (quiet-ask (ReadByte 11) _ (byte-read 11) (λ status. quiet-ask (WriteByte 11 0) _ popped (λ _. quiet-ask (ReadByte 11) _ (byte-read 11) (λ next.
    of_cond Quiet ((d.error || is_error status) && eqb next 0) (quiet-ask (WriteWord 14 18432) _ enabled (λ _. quiet-done _)) (quiet-done _)))))

idle-quiet : (left : ℕ) (d : Driver) → Quiet (idle_talk left d)
unfolding idle_talk
idle-quiet zero d = quiet-done _
idle-quiet (suc left) d = quiet-ask (WriteWord 14 26729) _ acknowledged (λ _. quiet-done _)

fetch_quiet : (left : ℕ) (d : Driver) (n : ℕ) → Quiet (fetch_talk left d n)
unfolding fetch_talk
fetch_quiet left d n =
    of_cond Quiet (ltb left (words_in n + 1)) (quiet-done _)
    (quiet-reads (words_in n) _ (λ bytes. quiet-ask (WriteWord 14 16384) _ discarded (λ _. quiet-done _)))

mutual
  unfolding look_talk

  look-quiet : (left : ℕ) (d : Driver) → Quiet (look_talk left d)
  look-quiet zero d = quiet-done _
  look-quiet (suc left) d =
      quiet-ask (ReadWord 14) _ (word_read 14) (λ status. of_cond Quiet (unfit status) (quiet-done _)
      (of_cond Quiet (tx_complete status) (report-quiet left d)
      (of_cond Quiet (rx_complete status) (receive_quiet left d) (idle-quiet left d))))

  receive_quiet : (left : ℕ) (d : Driver) → Quiet (receive_talk left d)
  receive_quiet zero d = quiet-done _
  receive_quiet (suc left) d = quiet-ask (ReadWord 8) _ (word_read 8) (λ rx. of_cond Quiet (bad rx) (drop-quiet left d) (fetch_quiet left d (length_in rx)))

  drop-quiet : (left : ℕ) (d : Driver) → Quiet (drop_talk left d)
  drop-quiet zero d = quiet-done _
  drop-quiet (suc left) d = quiet-ask (WriteWord 14 16384) _ discarded (λ _. look-quiet left d)

pub service-quiet : (areas : Bool) (d : Driver) (budget : ℕ) → Quiet (service_call true areas d budget)
unfolding service_call
service-quiet areas d budget =
    of_cond Quiet (not d.opened) (quiet-done _) (of_cond Quiet (not areas) (quiet-done _) (look-quiet budget d))

-- ---- open: an inactive card ignores it, and an active one is in window 2 when the address is written

open_awake : (d : Driver) (w₀ w₁ w₂ : ℕ) (a : Adapter) → Same a (run (open_talk d w₀ w₁ w₂) (woken true a)).adapter
unfolding run open_talk access effect settle write_word write_byte write write2 covers_low covers_high commanded command act
open_awake d w₀ w₁ w₂ a = refl

pub open_quiet : (d : Driver) (w₀ w₁ w₂ : ℕ) → Quiet (open_call true d w₀ w₁ w₂)
unfolding open_call
open_quiet d w₀ w₁ w₂ a =
    by_test a.id.active
    (λ y. ap (λ (v : Bool). (run (open_talk d w₀ w₁ w₂) (woken v a)).adapter.tx.queue) y ∙ open_awake d w₀ w₁ w₂ a)
    (λ n. ap (λ (b : Adapter). b.tx.queue) (asleep_run (open_talk d w₀ w₁ w₂) a n))
