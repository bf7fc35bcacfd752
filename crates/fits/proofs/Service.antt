-- What holds of each way a service can end holds of every run of one, whatever the card answers. `access` stays shut. Assumes nothing.
use Rattle.std.specs.Prelude.{Ok, Err}
use mathlib.Core.Path.{◌≡◌}
use mathlib.Core.Bool.{false, ◌&&◌, ◌||◌}
use mathlib.Core.List.{List, [], ◌∷◌}
use Prim.Native.Nat.{ℕ, zero, suc, ◌+◌, ◌*◌, ◌/◌, ◌%◌}
use native.Mathlib.Omega.{arith}
use lib.Dec.{ltb, eqb}
use lib.ListN.{length, take, length-take}
use Rattle.refusal.specs.declared.Refusal.TheVariants.{CardUnfit}
use Rattle.bits.proofs.Tests.{of_cond}
use Rattle.card_rules.specs.Adapter.{Adapter}
use Rattle.card_rules.specs.Access.{Access, access}
use Rattle.driver_rules.specs.declared.Driver.{Driver}
use Rattle.driver_rules.specs.Registers.{unfit, tx_complete, rx_complete, bad, length_in}
use Rattle.driver_rules.specs.Talk.{Talk, done, ask, run, read_words}
use Rattle.driver_rules.specs.Driver.{with_error}
use Rattle.driver_rules.specs.declared.Item.TheVariants.{Reported, Status, Frame, Idle}
use Rattle.driver_rules.specs.Items.{Serving, plain, short, is_error, seen, reports, report_talk, idle_talk, fetch_talk, words_in}
use Rattle.driver_rules.specs.Service.{look_talk, receive_talk, drop_talk}

-- the ways that a service which is begun can end
pub record Ways (P : Serving → Type 0) : Type 0 where
  pub budget-short : (d : Driver) → P (short d)
  pub card-unfit : (d : Driver) → P (plain (Err CardUnfit) d)
  pub reported : (t s : ℕ) (d : Driver) → P (plain (Ok (Reported t s)) d)
  pub status : (s : ℕ) (d : Driver) → P (plain (Ok (Status s)) d)
  pub idle : (d : Driver) → P (plain (Ok Idle) d)
  pub frame : (n : ℕ) (d : Driver) (bytes : List ℕ) → length bytes ≡ n → P (record { answer = Ok (Frame n); driver = d; bytes = bytes })

module _ (P : Serving → Type 0) (w : Ways P) where
  abbrev Always : Talk Serving → Type 0
  Always t = (a : Adapter) → P (run t a).answer

  ends : (x : Serving) → P x → Always (done x)
  unfolding run
  ends x p a = p

  asks : (x : Access) (next : ℕ → Talk Serving) → ((v : ℕ) → Always (next v)) → Always (ask x next)
  unfolding run
  asks x next h a = h (access x a).value (access x a).adapter

  words : (m : ℕ) (next : List ℕ → Talk Serving) → ((bytes : List ℕ) → length bytes ≡ 2 * m → Always (next bytes)) → Always (read_words m next)
  unfolding read_words
  words zero next h = h [] (omega arith)
  words (suc m) next h = asks _ _ (λ v. words m (λ bytes. next (v % 256 ∷ (v / 256 ∷ bytes))) (λ bytes e. h (v % 256 ∷ (v / 256 ∷ bytes)) (omega arith)))

  of_reports : (s : ℕ) (d : Driver) → P (reports s d)
  unfolding reports
  of_reports s d = of_cond P (ltb 0 d.unreported) (w.reported _ s _) (w.status s d)

  of_report : (left : ℕ) (d : Driver) → Always (report_talk left d)
  unfolding report_talk
  of_report left d =
      of_cond Always (ltb left 4) (ends _ (w.budget-short d))
      (asks _ _ (λ s. asks _ _ (λ _. asks _ _ (λ next.
      of_cond Always ((d.error || is_error s) && eqb next 0)
      (asks _ _ (λ _. ends _ (of_reports s (with_error false d))))
      (ends _ (of_reports s (seen d s)))))))

  of_idle : (left : ℕ) (d : Driver) → Always (idle_talk left d)
  unfolding idle_talk
  of_idle zero d = ends _ (w.budget-short d)
  of_idle (suc left) d = asks _ _ (λ _. ends _ (w.idle d))

  cut : (n : ℕ) (bytes : List ℕ) → length bytes ≡ 2 * words_in n → length (take n bytes) ≡ n
  cut n bytes e = simp length-take (omega arith)

  of_fetch : (left : ℕ) (d : Driver) (n : ℕ) → Always (fetch_talk left d n)
  unfolding fetch_talk
  of_fetch left d n =
      of_cond Always (ltb left (words_in n + 1)) (ends _ (w.budget-short d))
      (words (words_in n) _ (λ bytes e. asks _ _ (λ _. ends _ (w.frame n d (take n bytes) (cut n bytes e)))))

  mutual
    unfolding look_talk

    pub of_look : (left : ℕ) (d : Driver) → Always (look_talk left d)
    of_look zero d = ends _ (w.budget-short d)
    of_look (suc left) d =
        asks _ _ (λ s. of_cond Always (unfit s) (ends _ (w.card-unfit d))
        (of_cond Always (tx_complete s) (of_report left d)
        (of_cond Always (rx_complete s) (of_receive left d) (of_idle left d))))

    of_receive : (left : ℕ) (d : Driver) → Always (receive_talk left d)
    of_receive zero d = ends _ (w.budget-short d)
    of_receive (suc left) d = asks _ _ (λ rx. of_cond Always (bad rx) (of_drop left d) (of_fetch left d (length_in rx)))

    of_drop : (left : ℕ) (d : Driver) → Always (drop_talk left d)
    of_drop zero d = ends _ (w.budget-short d)
    of_drop (suc left) d = asks _ _ (λ _. of_look left d)
