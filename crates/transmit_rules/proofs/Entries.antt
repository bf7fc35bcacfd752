-- A push way by way, and the test of a call on the count. Assumes nothing.
use mathlib.Core.Path.{◌≡◌}
use mathlib.Core.Bool.{false, not, ◌&&◌, ◌||◌}
use mathlib.Core.List.{[], ◌∷◌, ◌++◌}
use Prim.Native.Nat.{ℕ, ◌+◌, ◌≤◌, ◌<◌}
use native.Mathlib.Omega.{arith}
use borrow.Author.Tests.{leb-true, lt-ltb, le-ltb}
use lib.Dec.{leb, ltb}
use lib.ListN.{length}
use Rattle.transmit_rules.proofs.StackEntries.{stack-length}
use Rattle.transmit_rules.specs.Reports.{Reports, with_statuses, with_on}
use Rattle.transmit_rules.specs.Outcome.{push}
use Rattle.transmit_rules.specs.OutcomesView.{sound_outcomes}
use Rattle.transmit_rules.specs.declared.Outcomes.{Outcomes}
use Rattle.bits.proofs.Tests.{by_test}

-- ---- a push, way by way

module _ (r : Reports) (v : ℕ) where
  pub push-room : length r.statuses < 30 → with_statuses (r.statuses ++ (v ∷ [])) r ≡ push v r
  unfolding push
  push-room h = rw (lt-ltb (length r.statuses) 30 h)

  pub push_fills : 30 ≤ length r.statuses → length r.statuses < 31 → record { sender = with_on false r.sender; statuses = r.statuses ++ ((v + 4) ∷ []) } ≡ push v r
  unfolding push
  push_fills h k = rw (le-ltb (length r.statuses) 30 h, lt-ltb (length r.statuses) 31 k)

  pub push-full : 31 ≤ length r.statuses → r ≡ push v r
  unfolding push
  push-full h =
      let k : 30 ≤ length r.statuses = omega arith in
      rw (le-ltb (length r.statuses) 30 k, le-ltb (length r.statuses) 31 h)

-- ---- the test of a call, on the count

pub sound-same : (o : Outcomes) → length o.statuses.entries ≡ 31
    → (leb o.statuses.count 31 && (ltb o.statuses.count 31 || not o.sender.on) && leb o.sender.level 2047 && leb o.sender.start 2047) ≡ sound_outcomes o
unfolding sound_outcomes
sound-same o len =
    let n : ℕ = o.statuses.count in
    by_test (leb n 31) (λ y. rw (stack-length o.statuses len (leb-true n 31 y), y)) (λ m. rw m)
