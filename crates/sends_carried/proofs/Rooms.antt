-- Each send that fits is taken, and TX Free falls by its room. Assumes nothing.
use Rattle.std.specs.Prelude.{Result, Ok, Err}
use mathlib.Core.Path.{◌≡◌, refl, ap, ◌∙◌}
use mathlib.Core.Bool.{Bool, true, false, cond}
use mathlib.Core.List.{List, [], ◌∷◌}
use Prim.Native.Nat.{ℕ, ◌+◌, ◌-◌, ◌%◌, ◌≤◌, ◌<◌}
use native.Mathlib.Omega.{arith}
use borrow.Author.Tests.{lt-ltb, le-ltb}
use lib.Dec.{ltb, lit≤}
use lib.ListN.{length, get_or}
use Rattle.refusal.specs.declared.Refusal.{Refusal}
use Rattle.refusal.specs.declared.Refusal.TheVariants.{NoRoom}
use Rattle.store.specs.Store.{round4}
use Rattle.transmit_rules.specs.Queue as queue
use Rattle.card_rules.specs.Room.{tx_size}
use Rattle.card_rules.specs.Settle.{settle}
use Rattle.card_rules.specs.Power.{power_on}
use Rattle.card_rules.specs.Command.{act, command, commanded}
use Rattle.card_rules.specs.Write.{covers_low, covers_high, write, write2, write_word, write_byte}
use Rattle.card_rules.specs.Access.{access, effect}
use Rattle.driver_rules.specs.declared.Driver.{Driver}
use Rattle.driver_rules.specs.Talk.{run}
use Rattle.driver_rules.specs.Open.{open_talk}
use Rattle.driver_rules.specs.Packet.{outside}
use Rattle.driver_rules.specs.Send.{refusing}
use Rattle.driver_rules.specs.Calls.{open_call}
use Rattle.driver_rules.specs.Paper.{send_paper}
use Rattle.runs.specs.Run.{Bench, Send, answered, opens, next, said, after}
use Rattle.sends_carried.specs.Packets.{Clear, fit, answer_to}
use Rattle.sends_carried.specs.Rooms.{active, ready, tx_free, Packet, Rows, BenchRowsOfTxFree}
use Rattle.sends_carried.proofs.Stored.{answers, stored-whole}

-- an opened bench that takes packets, with f bytes of TX Free, u packets unreported and t sent
record At (f u t : ℕ) (b : Bench) : Type 0 where
  clear : Clear b
  opened : b.driver.opened ≡ true
  unreported : b.driver.unreported ≡ u
  sent : b.driver.sent ≡ t
  fits : fit b.adapter ≡ true
  left : tx_free b ≡ f

module _ (f u t : ℕ) (b : Bench) (A : At f u t b) (n : ℕ) (p : List ℕ) (P : Packet n p) (long : 14 ≤ n) (short : n ≤ 1514) (few : u ≤ 15) where
  inside : outside (length p) ≡ false
  inside = rw (P.size, le-ltb n 14 long, le-ltb 1514 n short)

  answer_by : (c : Bool) → ltb f (4 + round4 n) ≡ c → answer_to p b ≡ cond c (Err NoRoom) (Ok t)
  unfolding answer_to
  answer_by c e =
      rw (A.opened, inside, A.fits, A.unreported, le-ltb 15 u few, A.left, P.size, e, A.sent)

  takes : 4 + round4 n ≤ f → answer_to p b ≡ Ok t
  takes s = answer_by false (le-ltb f (4 + round4 n) s)

  refuses : f < 4 + round4 n → answer_to p b ≡ Err NoRoom
  refuses s = answer_by true (lt-ltb f (4 + round4 n) s)

  says : (x : Result ℕ Refusal) → answer_to p b ≡ x → said (Send p) b ≡ answered (send_paper x) ∷ []
  unfolding said
  says x e = ap (λ (y : Result ℕ Refusal). answered (send_paper y) ∷ []) ((answers p b).answer ∙ e)

  goes_on_lem : 4 + round4 n ≤ f → At (f - (4 + round4 n)) (u + 1) ((t + 1) % 65536) (next (Send p) b)
  goes_on_lem s =
      let S = stored-whole p b P.bytes A.clear (ap refusing (takes s)) in
      let e : tx_free (next (Send p) b) + (4 + round4 (length p)) ≡ tx_free b = S.room in
      record {
        clear = S.clear;
        opened = ap (λ (d : Driver). d.opened) S.driver ∙ A.opened;
        unreported = ap (λ (d : Driver). d.unreported) S.driver ∙ ap (λ (i : ℕ). i + 1) A.unreported;
        sent = ap (λ (d : Driver). d.sent) S.driver ∙ ap (λ (i : ℕ). (i + 1) % 65536) A.sent;
        fits = S.stays_fit ∙ A.fits;
        left = omega (arith, e, A.left, P.size);
      }

-- ---- the opened card

at_first : (words : List ℕ) (at w₀ w₁ w₂ : ℕ) → tx_size (get_or words 0x13 0 % 4) ≡ 3072 → At 3072 0 0 (ready words at w₀ w₁ w₂)
unfolding active next opens run open_call open_talk access effect commanded command act settle power_on write_word write_byte write write2 covers_low covers_high queue.free queue.room
at_first words at w₀ w₁ w₂ e =
    record { clear = record { no_failure = refl; none_half_written = refl }; opened = refl; unreported = refl; sent = refl; fits = refl; left = ap (λ (n : ℕ). n - 0) e }

module _ (b : Bench) (A : At 3072 0 0 b) where
  at_two : (p q : List ℕ) → Packet 1514 p → Packet 1514 q → At 32 2 2 (after (Send p ∷ Send q ∷ []) b)
  unfolding after
  at_two p q P Q =
      goes_on_lem 1552 1 1 (next (Send p) b) (goes_on_lem 3072 0 0 b A 1514 p P (lit≤ tt) (lit≤ tt) (lit≤ tt) (lit≤ tt)) 1514 q Q (lit≤ tt) (lit≤ tt) (lit≤ tt) (lit≤ tt)

  rows_of : Rows b
  rows_of =
      record {
        at_first = A.left;
        fourteen = λ p P. (goes_on_lem 3072 0 0 b A 14 p P (lit≤ tt) (lit≤ tt) (lit≤ tt) (lit≤ tt)).left;
        two = λ p q P Q. (at_two p q P Q).left;
        then_28 = λ p q r P Q R.
            let B = at_two p q P Q in
            says 32 2 2 _ B 28 r R (lit≤ tt) (lit≤ tt) (lit≤ tt) (Ok 2) (takes 32 2 2 _ B 28 r R (lit≤ tt) (lit≤ tt) (lit≤ tt) (lit≤ tt));
        then_29 = λ p q r P Q R.
            let B = at_two p q P Q in
            says 32 2 2 _ B 29 r R (lit≤ tt) (lit≤ tt) (lit≤ tt) (Err NoRoom) (refuses 32 2 2 _ B 29 r R (lit≤ tt) (lit≤ tt) (lit≤ tt) (lit≤ tt));
      }

pub rows : BenchRowsOfTxFree
rows words at w₀ w₁ w₂ e = rows_of (ready words at w₀ w₁ w₂) (at_first words at w₀ w₁ w₂ e)
