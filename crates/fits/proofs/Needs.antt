-- A look is short exactly where its budget is less than what is needed: access by access, over the tree. `access` stays shut. Assumes nothing.
use Rattle.std.specs.Prelude.{Result, Ok, Err}
use mathlib.Core.Path.{◌≡◌, refl, sym, ap, ◌∙◌}
use mathlib.Core.Logic.{◌↔◌}
use mathlib.Core.Bool.{Bool, true, false, cond, ◌&&◌, ◌||◌}
use mathlib.Core.List.{List}
use Prim.Native.Nat.{ℕ, zero, suc, ◌+◌, ◌<◌, ◌≤◌}
use native.Mathlib.Omega.{arith}
use borrow.Author.Tests.{lt-ltb, le-ltb, ltb-true, ltb-false}
use lib.Dec.{ltb, eqb}
use Rattle.refusal.specs.declared.Refusal.{Refusal}
use Rattle.refusal.specs.Number.{number_of}
use Rattle.bits.proofs.Tests.{of_cond, by_test, never}
use Rattle.card_rules.specs.Adapter.{Adapter}
use Rattle.card_rules.specs.Access.{Access, ReadWord, access}
use Rattle.driver_rules.specs.declared.Driver.{Driver}
use Rattle.driver_rules.specs.Driver.{never_opened, with_error}
use Rattle.driver_rules.specs.Registers.{rx_status, unfit, tx_complete, rx_complete, bad, length_in}
use Rattle.driver_rules.specs.Talk.{Talk, done, ask, Ran, run, read_words, bytes_read, after_reads}
use Rattle.driver_rules.proofs.Runs.{reads_law}
use Rattle.driver_rules.specs.declared.Item.{Item}
use Rattle.driver_rules.specs.Items.{Serving, short, is_error, seen, reports, report_talk, idle_talk, fetch_talk, words_in}
use Rattle.driver_rules.specs.Service.{look_talk, receive_talk, drop_talk}
use Rattle.fits.specs.Order.{status_read}
use Rattle.fits.specs.When.{looked, rx_read, discarded, Needs, unfit_card, report, good_frame_is, damaged_frame, idle, Short, Enough}

-- the answer is 6
abbrev pub six : Result Item Refusal → Bool
six (Ok item) = false
six (Err why) = eqb (number_of why) 6

-- .. at the end of a talk
abbrev pub ends-short : Talk Serving → Adapter → Bool
ends-short t a = six (run t a).answer.answer

-- ---- what is begun with its accesses left is never short

abbrev Never : Talk Serving → Type 0
Never t = (a : Adapter) → ends-short t a ≡ false

ends : (x : Serving) → six x.answer ≡ false → Never (done x)
unfolding run
ends x e a = e

asks : (x : Access) (next : ℕ → Talk Serving) → ((v : ℕ) → Never (next v)) → Never (ask x next)
unfolding run
asks x next h a = h (access x a).value (access x a).adapter

words : (w : ℕ) (next : List ℕ → Talk Serving) → ((bytes : List ℕ) → Never (next bytes)) → Never (read_words w next)
words w next h a = ap (λ (R : Ran Serving). six R.answer.answer) (reads_law w next a) ∙ h (bytes_read w a) (after_reads w a)

guarded : (b : Bool) (d : Driver) (t : Talk Serving) → Never t → (a : Adapter) → ends-short (cond b (done (short d)) t) a ≡ b
unfolding run
guarded true d t h a = refl
guarded false d t h a = h a

reports_never : (s : ℕ) (d : Driver) → Never (done (reports s d))
unfolding reports
reports_never s d = of_cond (λ (x : Serving). Never (done x)) (ltb 0 d.unreported) (ends _ refl) (ends _ refl)

report_short : (left : ℕ) (d : Driver) (a : Adapter) → ends-short (report_talk left d) a ≡ ltb left 4
unfolding report_talk
report_short left d =
    guarded (ltb left 4) d _
    (asks _ _ (λ s. asks _ _ (λ _. asks _ _ (λ next.
    of_cond Never ((d.error || is_error s) && eqb next 0) (asks _ _ (λ _. reports_never s (with_error false d))) (reports_never s (seen d s))))))

fetch_short : (left : ℕ) (d : Driver) (n : ℕ) (a : Adapter) → ends-short (fetch_talk left d n) a ≡ ltb left (words_in n + 1)
unfolding fetch_talk
fetch_short left d n = guarded (ltb left (words_in n + 1)) d _ (words (words_in n) _ (λ bytes. asks _ _ (λ _. ends _ refl)))

idle-short : (left : ℕ) (d : Driver) (a : Adapter) → ends-short (idle_talk left d) a ≡ ltb left 1
unfolding idle_talk run
idle-short zero d a = refl
idle-short (suc left) d a = sym (le-ltb (suc left) 1 (omega arith))

-- ---- the tree, as tests

choice : (b : Bool) (t u : Talk Serving) (a : Adapter) → ends-short (cond b t u) a ≡ cond b (ends-short t a) (ends-short u a)
choice true t u a = refl
choice false t u a = refl

looks : (left : ℕ) (d : Driver) (a : Adapter) → ends-short (look_talk (suc left) d) a
    ≡ cond (unfit (status_read a)) false (cond (tx_complete (status_read a)) (ltb left 4) (cond (rx_complete (status_read a)) (ends-short (receive_talk left d) (looked a)) (ltb left 1)))
unfolding look_talk run
looks left d a =
    let s : ℕ = status_read a in
    let rest : ends-short (cond (rx_complete s) (receive_talk left d) (idle_talk left d)) (looked a) ≡ cond (rx_complete s) (ends-short (receive_talk left d) (looked a)) (ltb left 1) =
    choice (rx_complete s) (receive_talk left d) (idle_talk left d) (looked a) ∙ ap (cond (rx_complete s) (ends-short (receive_talk left d) (looked a))) (idle-short left d (looked a)) in
    choice (unfit s) _ _ (looked a) ∙ ap (cond (unfit s) false)
    (choice (tx_complete s) _ _ (looked a) ∙ (λ i. cond (tx_complete s) (report_short left d (looked a) i) (rest i)))

receives : (left : ℕ) (d : Driver) (a : Adapter) → ends-short (receive_talk (suc left) d) (looked a)
    ≡ cond (bad (rx_read a)) (ends-short (drop_talk left d) (access (ReadWord rx_status) (looked a)).adapter) (ltb left (words_in (length_in (rx_read a)) + 1))
unfolding receive_talk run
receives left d a = choice (bad (rx_read a)) _ _ _ ∙ ap (cond (bad (rx_read a)) _) (fetch_short left d (length_in (rx_read a)) _)

-- ---- what a service needs tells where it is short

same : (i j k l : ℕ) → (i < j → k < l) → (k < l → i < j) → ltb i j ≡ ltb k l
same i j k l f g =
    by_test (ltb i j) (λ y. y ∙ sym (lt-ltb k l (f (ltb-true i j y))))
    (λ n. n ∙ sym (le-ltb k l (let m : j ≤ i = ltb-false i j n in by_test (ltb k l) (λ z. let c : i < j = g (ltb-true k l z) in absurd (omega arith)) (λ z. ltb-false k l z))))

pub needs-short : (a : Adapter) (n : ℕ) → Needs a n → (budget : ℕ) (d : Driver) → ends-short (look_talk budget d) a ≡ ltb budget n
unfolding look_talk run
needs-short a n (unfit_card b u) zero d = refl
needs-short a n (unfit_card b u) (suc left) d = looks left d a ∙ rw u (sym (le-ltb (suc left) n (omega arith)))
needs-short a n (report b u t) zero d = refl
needs-short a n (report b u t) (suc left) d = looks left d a ∙ rw (u, t) (same left 4 (suc left) 5 (λ h. omega arith) (λ h. omega arith))
needs-short a n (idle b u t x) zero d = refl
needs-short a n (idle b u t x) (suc left) d = looks left d a ∙ rw (u, t, x) (same left 1 (suc left) 2 (λ h. omega arith) (λ h. omega arith))
needs-short a n (good_frame_is b u t x g) zero d = sym (lt-ltb 0 n (omega arith))
needs-short a n (good_frame_is b u t x g) (suc zero) d = looks 0 d a ∙ rw (u, t, x) (sym (lt-ltb 1 n (omega arith)))
needs-short a n (good_frame_is b u t x g) (suc (suc left)) d =
    looks (suc left) d a ∙ rw (u, t, x) (receives left d a ∙ rw g (same left (words_in (length_in (rx_read a)) + 1) (suc (suc left)) n (λ h. omega arith) (λ h. omega arith)))
needs-short a n (damaged_frame b m u t x g k) zero d = sym (lt-ltb 0 n (omega arith))
needs-short a n (damaged_frame b m u t x g k) (suc zero) d = looks 0 d a ∙ rw (u, t, x) (sym (lt-ltb 1 n (omega arith)))
needs-short a n (damaged_frame b m u t x g k) (suc (suc zero)) d = looks 1 d a ∙ rw (u, t, x) (receives 0 d a ∙ rw g (sym (lt-ltb 2 n (omega arith))))
needs-short a n (damaged_frame b m u t x g k) (suc (suc (suc left))) d =
    looks (suc (suc left)) d a ∙ rw (u, t, x) (receives (suc left) d a ∙ rw g (needs-short (discarded a) m k left d ∙ same left m (suc (suc (suc left))) n (λ h. omega arith) (λ h. omega arith)))

-- two needs of one adapter are equal: at the budget of one of them, neither is less
least : (a : Adapter) (n m : ℕ) → Needs a n → Needs a m → m ≤ n
least a n m h k = ltb-false n m (sym (needs-short a m k n never_opened) ∙ needs-short a n h n never_opened ∙ le-ltb n n (omega arith))

pub one_need : (a : Adapter) (n m : ℕ) → Needs a n → Needs a m → n ≡ m
one_need a n m h k = omega (arith, least a n m h k, least a m n k h)

-- ---- and where it is not short, it has what it needs

then_of : (b x y : Bool) {z : Bool} → b ≡ true → cond b x y ≡ z → x ≡ z
then_of true x y e k = k
then_of false x y e k = never e

else_of : (b x y : Bool) {z : Bool} → b ≡ false → cond b x y ≡ z → y ≡ z
else_of true x y e k = never (sym e)
else_of false x y e k = k

mutual
  unfolding look_talk receive_talk drop_talk run

  pub spared : (budget : ℕ) (d : Driver) (a : Adapter) → ends-short (look_talk budget d) a ≡ false → Enough budget a
  spared zero d a e = never (sym e)
  spared (suc left) d a e =
      let s : ℕ = status_read a in
      let e₁ = sym (looks left d a) ∙ e in
      by_test (unfit s) (λ u. record { need = _; needed = unfit_card a u; within = omega arith })
      (λ u. by_test (tx_complete s) (λ t. let f : 4 ≤ left = ltb-false left 4 (then_of (tx_complete s) _ _ t (else_of (unfit s) _ _ u e₁)) in record { need = _; needed = report a u t; within = omega arith })
      (λ t. by_test (rx_complete s) (λ x. received left d a u t x (then_of (rx_complete s) _ _ x (else_of (tx_complete s) _ _ t (else_of (unfit s) _ _ u e₁))))
      (λ x. let f : 1 ≤ left = ltb-false left 1 (else_of (rx_complete s) _ _ x (else_of (tx_complete s) _ _ t (else_of (unfit s) _ _ u e₁))) in record { need = _; needed = idle a u t x; within = omega arith })))

  received : (left : ℕ) (d : Driver) (a : Adapter) → unfit (status_read a) ≡ false → tx_complete (status_read a) ≡ false → rx_complete (status_read a) ≡ true
      → ends-short (receive_talk left d) (looked a) ≡ false → Enough (suc left) a
  received zero d a u t x e = never (sym e)
  received (suc left) d a u t x e =
      let e₁ = sym (receives left d a) ∙ e in
      by_test (bad (rx_read a)) (λ g. dropped left d a u t x g (then_of (bad (rx_read a)) _ _ g e₁))
      (λ g. let f : words_in (length_in (rx_read a)) + 1 ≤ left = ltb-false left (words_in (length_in (rx_read a)) + 1) (else_of (bad (rx_read a)) _ _ g e₁) in record { need = _; needed = good_frame_is a u t x g; within = omega arith })

  dropped : (left : ℕ) (d : Driver) (a : Adapter) → unfit (status_read a) ≡ false → tx_complete (status_read a) ≡ false → rx_complete (status_read a) ≡ true → bad (rx_read a) ≡ true
      → ends-short (drop_talk left d) (access (ReadWord rx_status) (looked a)).adapter ≡ false → Enough (suc (suc left)) a
  dropped zero d a u t x g e = never (sym e)
  dropped (suc left) d a u t x g e =
      let q : Enough left (discarded a) = spared left d (discarded a) e in
      let f : q.need ≤ left = q.within in
      record { need = _; needed = damaged_frame a q.need u t x g q.needed; within = omega arith }

-- ---- both ways

pub short_when : (budget : ℕ) (d : Driver) (a : Adapter) → ends-short (look_talk budget d) a ≡ true ↔ Short budget a
short_when budget d a = (
  λ e n h. ltb-true budget n (sym (needs-short a n h budget d) ∙ e),
  λ k. by_test (ends-short (look_talk budget d) a) (λ y. y)
      (λ n. let q : Enough budget a = spared budget d a n in let f : budget < q.need = k q.need q.needed in let g : q.need ≤ budget = q.within in absurd (omega arith)),
)
