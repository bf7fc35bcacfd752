-- What holds of each access that send and service may make holds of every access of theirs; and neither opens nor closes the driver. Assumes nothing.
use mathlib.Core.Path.{◌≡◌, refl}
use mathlib.Core.Bool.{Bool, true, false, not, ◌&&◌, ◌||◌}
use mathlib.Core.List.{List, [], ◌∷◌}
use Prim.Native.Nat.{ℕ, zero, suc, ◌+◌, ◌/◌, ◌%◌}
use lib.ListN.{length}
use lib.Dec.{ltb, eqb}
use Rattle.bits.proofs.Tests.{of_cond}
use Rattle.store.specs.Store.{round4}
use Rattle.card_rules.specs.Access.{Access, ReadWord, ReadByte, WriteWord, WriteByte}
use Rattle.driver_rules.specs.declared.Driver.{Driver}
use Rattle.driver_rules.specs.Driver.{with_error}
use Rattle.driver_rules.specs.Registers.{unfit, tx_complete, rx_complete, bad, length_in}
use Rattle.driver_rules.specs.Talk.{Talk, done, ask, read_words, write_words}
use Rattle.driver_rules.specs.Packet.{outside, packet_words}
use Rattle.driver_rules.specs.Send.{Sending, send_talk}
use Rattle.driver_rules.specs.Items.{Serving, is_error, seen, reports, report_talk, idle_talk, fetch_talk, words_in}
use Rattle.driver_rules.specs.Service.{look_talk, receive_talk, drop_talk}
use Rattle.driver_rules.specs.Calls.{send_call, service_call}

-- F holds of every access of a talk, and its driver is open at the end if it `was`
pub data Each {A : Type 0} (F : Access → Type 0) (was : Bool) (driver_of : A → Driver) : Talk A → Type 0 where
  ends : {x : A} → (driver_of x).opened ≡ was → Each F was driver_of (done x)
  asks : {x : Access} {t : ℕ → Talk A} → F x → ((v : ℕ) → Each F was driver_of (t v)) → Each F was driver_of (ask x t)

-- F holds of the accesses of send and service
pub record Accesses (F : Access → Type 0) : Type 0 where
  pub status : F (ReadWord 14)
  pub free : F (ReadWord 12)
  pub oldest : F (ReadWord 8)
  pub word : F (ReadWord 0)
  pub told : F (ReadByte 11)
  pub write : (v : ℕ) → F (WriteWord 0 v)
  pub pop : F (WriteByte 11 0)
  pub discard : F (WriteWord 14 16384)
  pub enable : F (WriteWord 14 18432)
  pub acknowledge : F (WriteWord 14 26729)

module _ (F : Access → Type 0) (f : Accesses F) (d : Driver) where
  module _ {A : Type 0} (driver_of : A → Driver) where
    each_write : (vs : List ℕ) {t : Talk A} → Each F d.opened driver_of t → Each F d.opened driver_of (write_words vs t)
    unfolding write_words
    each_write [] k = k
    each_write (v ∷ vs) k = asks (f.write v) (λ _. each_write vs k)

    each_read : (w : ℕ) (t : List ℕ → Talk A) → ((bs : List ℕ) → Each F d.opened driver_of (t bs)) → Each F d.opened driver_of (read_words w t)
    unfolding read_words
    each_read zero t k = k []
    each_read (suc w) t k = asks f.word (λ v. each_read w (λ bs. t (v % 256 ∷ (v / 256 ∷ bs))) (λ bs. k (v % 256 ∷ (v / 256 ∷ bs))))

  abbrev Sends : Talk Sending → Type 0
  Sends = Each F d.opened (λ (x : Sending). x.driver)

  abbrev Serves : Talk Serving → Type 0
  Serves = Each F d.opened (λ (x : Serving). x.driver)

  pub each-send : (packet : List ℕ) → Sends (send_call true d packet)
  unfolding send_call send_talk
  each-send packet =
      of_cond Sends (not d.opened) (ends refl)
      (of_cond Sends (outside (length packet)) (ends refl)
      (of_cond Sends (ltb 15 d.unreported) (ends refl)
      (asks f.status (λ status. of_cond Sends (unfit status) (ends refl)
      (asks f.free (λ free. of_cond Sends (ltb free (4 + round4 (length packet))) (ends refl) (each_write (λ (x : Sending). x.driver) (packet_words packet) (ends refl))))))))

  -- a report leaves the driver open as it was
  reports_open : (status : ℕ) (e : Driver) → e.opened ≡ d.opened → (reports status e).driver.opened ≡ d.opened
  unfolding reports
  reports_open status e k = of_cond (λ (x : Serving). x.driver.opened ≡ d.opened) (ltb 0 e.unreported) k k

  each-report : (n : ℕ) → Serves (report_talk n d)
  unfolding report_talk
  each-report n =
      of_cond Serves (ltb n 4) (ends refl)
      (asks f.told (λ status. asks f.pop (λ _. asks f.told (λ more.
      of_cond Serves ((d.error || is_error status) && eqb more 0) (asks f.enable (λ _. ends (reports_open status (with_error false d) refl)))
      (ends (reports_open status (seen d status) refl))))))

  each-idle : (n : ℕ) → Serves (idle_talk n d)
  unfolding idle_talk
  each-idle zero = ends refl
  each-idle (suc n) = asks f.acknowledge (λ _. ends refl)

  each_fetch : (n m : ℕ) → Serves (fetch_talk n d m)
  unfolding fetch_talk
  each_fetch n m =
      of_cond Serves (ltb n (words_in m + 1)) (ends refl) (each_read (λ (x : Serving). x.driver) (words_in m) _ (λ bs. asks f.discard (λ _. ends refl)))

  mutual
    unfolding look_talk

    each-look : (n : ℕ) → Serves (look_talk n d)
    each-look zero = ends refl
    each-look (suc n) =
        asks f.status (λ status. of_cond Serves (unfit status) (ends refl)
        (of_cond Serves (tx_complete status) (each-report n) (of_cond Serves (rx_complete status) (each_receive n) (each-idle n))))

    each_receive : (n : ℕ) → Serves (receive_talk n d)
    each_receive zero = ends refl
    each_receive (suc n) = asks f.oldest (λ rx. of_cond Serves (bad rx) (each-drop n) (each_fetch n (length_in rx)))

    each-drop : (n : ℕ) → Serves (drop_talk n d)
    each-drop zero = ends refl
    each-drop (suc n) = asks f.discard (λ _. each-look n)

  pub each-service : (n : ℕ) (areas : Bool) → Serves (service_call true areas d n)
  unfolding service_call
  each-service n areas = of_cond Serves (not d.opened) (ends refl) (of_cond Serves (not areas) (ends refl) (each-look n))
