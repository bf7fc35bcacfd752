-- Every effect keeps `filled`, and TX Available is settled by its own step: over the definitions alone. Assumes nothing.
use mathlib.Core.Path.{◌≡◌, refl}
use mathlib.Core.Bool.{Bool, true, false, cond, not, ◌&&◌, ◌||◌, or-true}
use mathlib.Core.List.{List, [], ◌∷◌, ◌++◌}
use Prim.Native.Nat.{ℕ, ◌+◌, ◌≤◌, ◌<◌}
use native.Mathlib.Omega.{arith}
use borrow.Author.Tests.{leb-true, ltb-true, le-leb, lt-leb, lt-ltb}
use lib.Dec.{leb, ltb}
use lib.ListN.{length, length-append}
use Rattle.transmit_rules.specs.declared.Sender.{Sender}
use Rattle.transmit_rules.specs.Reports.{Reports, with_sender, with_statuses, with_on}
use Rattle.transmit_rules.specs.Outcome.{at_power_on, push, rest, pop, off, succeeded, collided, enable, reset, set_level, set_start, due, settle_available, acknowledge, filled, available_settled}
use Rattle.bits.proofs.Tests.{by_test, both}

-- ---- `filled`, as facts, both ways

pub record Filled (r : Reports) : Type 0 where
  pub few : length r.statuses ≤ 31
  pub quiet : (ltb (length r.statuses) 31 || not r.sender.on) ≡ true
  pub level : r.sender.level ≤ 2047
  pub start : r.sender.start ≤ 2047

told : (r : Reports) → filled r ≡ true → Filled r
told r h =
    let a : Bool = leb (length r.statuses) 31 in
    let b : Bool = ltb (length r.statuses) 31 || not r.sender.on in
    let c : Bool = leb r.sender.level 2047 in
    let p = both (a && b && c) (leb r.sender.start 2047) h in
    let q = both (a && b) c p.0 in
    let s = both a b q.0 in
    record { few = leb-true (length r.statuses) 31 s.0; quiet = s.1; level = leb-true r.sender.level 2047 q.1; start = leb-true r.sender.start 2047 p.1 }

shown : (r : Reports) → Filled r → filled r ≡ true
shown r F = rw (F.quiet, le-leb _ _ F.few, le-leb _ _ F.level, le-leb _ _ F.start)

-- fewer than 31 statuses, or the transmitter is off
fewer : (n : ℕ) (on : Bool) → n < 31 → (ltb n 31 || not on) ≡ true
fewer n on h = rw (lt-ltb n 31 h)

silent : (n : ℕ) → (ltb n 31 || not false) ≡ true
silent n = or-true (ltb n 31)

-- ---- every effect

pub push-keeps : (v : ℕ) (r : Reports) → filled r ≡ true → filled (push v r) ≡ true
unfolding push
push-keeps v r h =
    let n : ℕ = length r.statuses in
    let F = told r h in
    by_test (ltb n 30)
    (λ y.
    let l : length (r.statuses ++ (v ∷ [])) ≡ n + 1 = length-append r.statuses (v ∷ []) in
    let k : n < 30 = ltb-true n 30 y in
    rw y (shown (with_statuses (r.statuses ++ (v ∷ [])) r) (record { few = omega arith; quiet = fewer (length (r.statuses ++ (v ∷ []))) r.sender.on (omega arith); level = F.level; start = F.start })))
    (λ m. rw m (by_test (ltb n 31)
    (λ y.
    let l : length (r.statuses ++ ((v + 4) ∷ [])) ≡ n + 1 = length-append r.statuses ((v + 4) ∷ []) in
    let k : n < 31 = ltb-true n 31 y in
    rw y (shown (record { sender = with_on false r.sender; statuses = r.statuses ++ ((v + 4) ∷ []) }) (record { few = omega arith; quiet = silent (length (r.statuses ++ ((v + 4) ∷ []))); level = F.level; start = F.start })))
    (λ d. rw d h)))

pub off-keeps : (r : Reports) → filled r ≡ true → filled (off r) ≡ true
off-keeps r h = let F = told r h in shown (off r) (record { few = F.few; quiet = silent (length r.statuses); level = F.level; start = F.start })

rest_fewer : (l : List ℕ) → length l ≤ 31 → length (rest l) < 31
unfolding rest
rest_fewer [] h = omega arith
rest_fewer (x ∷ l) h = omega arith

pub pop-keeps : (r : Reports) → filled r ≡ true → filled (pop r) ≡ true
pop-keeps r h =
    let F = told r h in
    let k : length (rest r.statuses) < 31 = rest_fewer r.statuses F.few in
    shown (pop r) (record { few = omega arith; quiet = fewer _ r.sender.on k; level = F.level; start = F.start })

pub succeeded-keeps : (wanted : Bool) (r : Reports) → filled r ≡ true → filled (succeeded wanted r) ≡ true
unfolding succeeded
succeeded-keeps true r h = push-keeps 192 r h
succeeded-keeps false r h = h

pub collided-keeps : (wanted : Bool) (r : Reports) → filled r ≡ true → filled (collided wanted r) ≡ true
unfolding collided
collided-keeps wanted r h = off-keeps (push (cond wanted 200 136) r) (push-keeps (cond wanted 200 136) r h)

enabled_quiet : (few on : Bool) → (few || not on) ≡ true → (few || not (on || few)) ≡ true
enabled_quiet true on h = refl
enabled_quiet false true h = h
enabled_quiet false false h = refl

pub enable-keeps : (r : Reports) → filled r ≡ true → filled (enable r) ≡ true
unfolding enable
enable-keeps r h =
    let F = told r h in
    let few : Bool = ltb (length r.statuses) 31 in
    shown (with_sender (with_on (r.sender.on || few) r.sender) r) (record { few = F.few; quiet = enabled_quiet few r.sender.on F.quiet; level = F.level; start = F.start })

pub reset-keeps : (r : Reports) → filled r ≡ true → filled (reset r) ≡ true
reset-keeps r h = let F = told r h in shown (reset r) (record { few = F.few; quiet = silent (length r.statuses); level = omega arith; start = omega arith })

pub set_level_keeps : (n : ℕ) (r : Reports) → n ≤ 2047 → filled r ≡ true → filled (set_level n r) ≡ true
set_level_keeps n r k h = let F = told r h in shown (set_level n r) (record { few = F.few; quiet = F.quiet; level = omega arith; start = F.start })

pub set-start-keeps : (n : ℕ) (r : Reports) → n ≤ 2047 → filled r ≡ true → filled (set_start n r) ≡ true
set-start-keeps n r k h = let F = told r h in shown (set_start n r) (record { few = F.few; quiet = F.quiet; level = F.level; start = omega arith })

acknowledged_level : (t : Bool) (n : ℕ) → n ≤ 2047 → cond t 2044 n ≤ 2047
acknowledged_level true n h = omega arith
acknowledged_level false n h = h

pub acknowledge-keeps : (named : Bool) (r : Reports) → filled r ≡ true → filled (acknowledge named r) ≡ true
acknowledge-keeps named r h =
    let F = told r h in
    shown (acknowledge named r) (record { few = F.few; quiet = F.quiet; level = acknowledged_level (named && r.sender.available) r.sender.level F.level; start = F.start })

-- ---- TX Available

-- what is set where it is due, or stood, stands where it is due
pub settled : (due available : Bool) → (due || available || not due) ≡ true
settled true available = refl
settled false true = refl
settled false false = refl

pub settle_settles : (free : ℕ) (r : Reports) → available_settled free (settle_available free r).sender ≡ true
unfolding due
settle_settles free r = settled (leb r.sender.level 1792 && ltb r.sender.level free) r.sender.available

pub stays : (due available : Bool) → (available || not due) ≡ true → (due || available) ≡ available
stays true true h = refl
stays true false h = cc
stays false available h = refl

-- what is settled stays as it is
pub settle-stays : (free : ℕ) (r : Reports) → available_settled free r.sender ≡ true → settle_available free r ≡ r
settle-stays free r h = rw (stays (due free r.sender) r.sender.available h)

-- a threshold above 1,792 is disabled; and TX Available that stands is settled
pub known_settled : (free : ℕ) (s : Sender) → (ltb 1792 s.level || s.available) ≡ true → available_settled free s ≡ true
unfolding due
known_settled free s h =
    by_test s.available (λ y. rw y)
    (λ n. by_test (ltb 1792 s.level) (λ y. rw (n, lt-leb s.level 1792 (ltb-true 1792 s.level y))) (λ m. absurd (let z : ◌≡◌ {A = ℕ} 0 1 = cc in omega arith)))

-- a threshold that is disabled is settled whatever is free
pub power_on_settled : (free : ℕ) → available_settled free at_power_on.sender ≡ true
unfolding due
power_on_settled free = refl
