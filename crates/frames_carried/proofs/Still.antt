-- Accesses that leave the stored frames, what was read of the oldest, a failure and the wire as they were: all of an open, of a send, of a report and of idle.
-- Assumes nothing.
use Rattle.std.specs.Prelude.{Result, Ok, Err}
use mathlib.Core.Path.{◌≡◌, refl, ◌∙◌, ap, subst⁻¹}
use mathlib.Core.Bool.{Bool, true, false, cond, not, ◌&&◌, ◌||◌}
use mathlib.Core.List.{List, [], ◌∷◌}
use Prim.Native.Nat.{ℕ, zero, suc, ◌+◌, ◌-◌, ◌/◌, ◌%◌}
use lib.ListN.{length}
use lib.Dec.{eqb, ltb}
use Rattle.refusal.specs.declared.Refusal.{Refusal}
use Rattle.refusal.specs.declared.Refusal.TheVariants.{BudgetShort}
use Rattle.bits.proofs.Tests.{of_cond, by_test}
use Rattle.store.specs.Store.{round4}
use Rattle.card_rules.specs.Adapter.{Adapter}
use Rattle.card_rules.specs.Settle.{settle}
use Rattle.card_rules.specs.Command.{act, command, commanded, acknowledge}
use Rattle.card_rules.specs.Read.{after_word}
use Rattle.port_rules.specs.declared.IdState.{IdState}
use Rattle.card_rules.specs.declared.Lanes.{Lanes}
use Rattle.card_rules.specs.declared.Lanes.TheVariants.{Low, High}
use Rattle.card_rules.specs.Write.{covers_low, covers_high, write0, write1, write2, write3, write, write_word, write_byte}
use Rattle.card_rules.specs.Access.{Access, ReadWord, ReadByte, WriteWord, WriteByte, Step, effect, access}
use Rattle.card_rules.proofs.StepEnds.{awake}
use Rattle.driver_rules.specs.declared.Driver.{Driver}
use Rattle.driver_rules.proofs.Runs.{asleep_run}
use Rattle.driver_rules.specs.Registers.{unfit}
use Rattle.driver_rules.specs.Talk.{Talk, done, ask, run, write_words}
use Rattle.driver_rules.specs.Driver.{with_error}
use Rattle.driver_rules.specs.declared.Item.{Item}
use Rattle.driver_rules.specs.declared.Item.TheVariants as answer
use Rattle.driver_rules.specs.Items.{Serving, plain, is_error, seen, reports, report_talk, idle_talk}
use Rattle.driver_rules.specs.Open.{open_talk}
use Rattle.driver_rules.specs.Packet.{outside, packet_words}
use Rattle.driver_rules.specs.Send.{Sending, send_talk}

pub record Still (a b : Adapter) : Type 0 where
  pub frames : b.rx.frames ≡ a.rx.frames
  pub read : b.rx.receiver.read ≡ a.rx.receiver.read
  pub failed : b.rx.receiver.failed ≡ a.rx.receiver.failed
  pub wire : b.rx.receiver.wire ≡ a.rx.receiver.wire
  pub split : b.config.second ≡ a.config.second

pub still_same : (a : Adapter) → Still a a
still_same a = record { frames = refl; read = refl; failed = refl; wire = refl; split = refl }

pub still_then : {a b c : Adapter} → Still a b → Still b c → Still a c
still_then p q = record { frames = q.frames ∙ p.frames; read = q.read ∙ p.read; failed = q.failed ∙ p.failed; wire = q.wire ∙ p.wire; split = q.split ∙ p.split }

pub still_settled : (a b : Adapter) → Still a b → Still a (settle b)
unfolding settle
still_settled a b s = record { frames = s.frames; read = s.read; failed = s.failed; wire = s.wire; split = s.split }

pub still_access : (x : Access) (a : Adapter) → Still a (effect x a).adapter → Still a (access x a).adapter
unfolding access
still_access x a s = of_cond (λ (t : Step). Still a t.adapter) a.id.active (still_settled a (effect x a).adapter s) (still_same a)

-- ---- accesses that are so on any card

abbrev Fine : Access → Type 0
Fine x = (a : Adapter) → Still a (effect x a).adapter

pub fine-status : Fine (ReadWord 14)
unfolding effect after_word
fine-status a = still_same a

fine-free : Fine (ReadWord 12)
unfolding effect after_word
fine-free a = still_same a

fine-told : Fine (ReadByte 11)
unfolding effect
fine-told a = still_same a

fine-write : (v : ℕ) → Fine (WriteWord 0 v)
unfolding effect write_word write write0 write1 write2 write3
fine-write v a =
    of_cond (Still a) (eqb a.select.window 0) (still_same a)
    (of_cond (Still a) (eqb a.select.window 1) (record { frames = refl; read = refl; failed = refl; wire = refl; split = refl })
    (of_cond (Still a) (eqb a.select.window 2) (record { frames = refl; read = refl; failed = refl; wire = refl; split = refl })
    (of_cond (Still a) (eqb a.select.window 3) (record { frames = refl; read = refl; failed = refl; wire = refl; split = refl }) (still_same a))))

fine-pop : Fine (WriteByte 11 0)
unfolding effect write_byte write write0 write1 write2 write3 covers_low covers_high
fine-pop a =
    of_cond (Still a) (eqb a.select.window 0) (still_same a)
    (of_cond (Still a) (eqb a.select.window 1) (record { frames = refl; read = refl; failed = refl; wire = refl; split = refl })
    (of_cond (Still a) (eqb a.select.window 2) (still_same a)
    (of_cond (Still a) (eqb a.select.window 3) (still_same a) (still_same a))))

fine-enable : Fine (WriteWord 14 18432)
unfolding effect write_word commanded command act
fine-enable a = of_cond (Still a) (eqb a.select.window 0) (still_same a) (record { frames = refl; read = refl; failed = refl; wire = refl; split = refl })

fine_ack : Fine (WriteWord 14 26729)
unfolding effect write_word commanded command act acknowledge
fine_ack a = of_cond (Still a) (eqb a.select.window 0) (still_same a) (record { frames = refl; read = refl; failed = refl; wire = refl; split = refl })

-- ---- talks of such accesses, with answers of which P holds

pub data Quiet {A : Type 0} (P : A → Type 0) : Talk A → Type 0 where
  ends : {x : A} → P x → Quiet P (done x)
  asks : {x : Access} {k : ℕ → Talk A} → ((a : Adapter) → Still a (effect x a).adapter) → ((v : ℕ) → Quiet P (k v)) → Quiet P (ask x k)

pub still_run : {A : Type 0} (P : A → Type 0) (t : Talk A) → Quiet P t → (a : Adapter) → Still a (run t a).adapter × P (run t a).answer
unfolding run
still_run P (done x) (ends p) a = (still_same a, p)
still_run P (ask x k) (asks f q) a =
    let r = still_run P (k (access x a).value) (q (access x a).value) (access x a).adapter in
    (still_then (still_access x a (f a)) r.0, r.1)

-- ---- a report, idle and a refusal hand up nothing

unfoldable pub is_frame : Result Item Refusal → Bool
is_frame (Ok (answer.Reported t s)) = false
is_frame (Ok (answer.Status s)) = false
is_frame (Ok (answer.Frame n)) = true
is_frame (Ok answer.Idle) = false
is_frame (Err why) = false

-- nothing is handed up, and the answer is no frame
pub record Nothing (x : Serving) : Type 0 where
  pub none : x.bytes ≡ []
  pub other : is_frame x.answer ≡ false

pub quiet-refused : (why : Refusal) (d : Driver) → Quiet Nothing (done (plain (Err why) d))
unfolding is_frame
quiet-refused why d = ends (record { none = refl; other = refl })

quiet-reports : (status : ℕ) (d : Driver) → Quiet Nothing (done (reports status d))
unfolding reports is_frame
quiet-reports status d = of_cond (λ (x : Serving). Quiet Nothing (done x)) (ltb 0 d.unreported) (ends (record { none = refl; other = refl })) (ends (record { none = refl; other = refl }))

pub quiet-report : (left : ℕ) (d : Driver) → Quiet Nothing (report_talk left d)
unfolding report_talk
quiet-report left d =
    of_cond (Quiet Nothing) (ltb left 4) (quiet-refused BudgetShort d)
    (asks fine-told (λ status. asks fine-pop (λ _. asks fine-told (λ next.
    of_cond (Quiet Nothing) ((d.error || is_error status) && eqb next 0) (asks fine-enable (λ _. quiet-reports status (with_error false d))) (quiet-reports status (seen d status))))))

pub quiet-idle : (left : ℕ) (d : Driver) → Quiet Nothing (idle_talk left d)
unfolding idle_talk is_frame
quiet-idle zero d = quiet-refused BudgetShort d
quiet-idle (suc left) d = asks fine_ack (λ _. ends (record { none = refl; other = refl }))

-- ---- send

abbrev Any : Sending → Type 0
Any x = x ≡ x

quiet-writes : (vs : List ℕ) (t : Talk Sending) → Quiet Any t → Quiet Any (write_words vs t)
unfolding write_words
quiet-writes [] t q = q
quiet-writes (v ∷ vs) t q = asks (fine-write v) (λ _. quiet-writes vs t q)

quiet-send : (d : Driver) (packet : List ℕ) → Quiet Any (send_talk d packet)
unfolding send_talk
quiet-send d packet =
    of_cond (Quiet Any) (not d.opened) (ends refl)
    (of_cond (Quiet Any) (outside (length packet)) (ends refl)
    (of_cond (Quiet Any) (ltb 15 d.unreported) (ends refl)
    (asks fine-status (λ status. of_cond (Quiet Any) (unfit status) (ends refl)
    (asks fine-free (λ free. of_cond (Quiet Any) (ltb free (4 + round4 (length packet))) (ends refl)
    (quiet-writes (packet_words packet) _ (ends refl))))))))

pub still_send : (d : Driver) (packet : List ℕ) (a : Adapter) → Still a (run (send_talk d packet) a).adapter
still_send d packet a = (still_run Any (send_talk d packet) (quiet-send d packet) a).0

-- ---- open: on an active card it selects window 2 first, where the address is written

-- an active card in a window, whose store is that of a
record In (w : ℕ) (a b : Adapter) : Type 0 where
  active : b.id.active ≡ true
  window : b.select.window ≡ w
  still : Still a b

in_settled : (w : ℕ) (a b : Adapter) → In w a b → In w a (settle b)
unfolding settle
in_settled w a b s = record { active = s.active; window = s.window; still = still_settled a b s.still }

in_access : (x : Access) (v w : ℕ) (a b : Adapter) → In v a b → In w a (effect x b).adapter → In w a (access x b).adapter
in_access x v w a b s t = subst⁻¹ (λ (u : Step). In w a u.adapter) (awake x b s.active) (in_settled w a (effect x b).adapter t)

-- Select Window 2, and 1
in_two : (v : ℕ) (a b : Adapter) → In v a b → In 2 a (access (WriteWord 14 2050) b).adapter
unfolding effect write_word commanded command act
in_two v a b s = in_access (WriteWord 14 2050) v 2 a b s (record { active = s.active; window = refl; still = record { frames = s.still.frames; read = s.still.read; failed = s.still.failed; wire = s.still.wire; split = s.still.split } })

in_one : (v : ℕ) (a b : Adapter) → In v a b → In 1 a (access (WriteWord 14 2049) b).adapter
unfolding effect write_word commanded command act
in_one v a b s = in_access (WriteWord 14 2049) v 1 a b s (record { active = s.active; window = refl; still = record { frames = s.still.frames; read = s.still.read; failed = s.still.failed; wire = s.still.wire; split = s.still.split } })

in_write : (l : Lanes) (o v : ℕ) (a b : Adapter) → In 2 a b → In 2 a (write l o v b)
unfolding write write2
in_write l o v a b s =
    let e : write l o v b ≡ write2 l o v b =
    ap (λ (n : ℕ). cond (eqb n 0) (write0 l o v b) (cond (eqb n 1) (write1 l o v b) (cond (eqb n 2) (write2 l o v b) (cond (eqb n 3) (write3 l o v b) b)))) s.window in
    subst⁻¹ (In 2 a) e (of_cond (In 2 a) (ltb o 6) (record { active = s.active; window = s.window; still = record { frames = s.still.frames; read = s.still.read; failed = s.still.failed; wire = s.still.wire; split = s.still.split } }) s)

in_byte : (o v : ℕ) (a b : Adapter) → eqb o 14 ≡ false → eqb o 15 ≡ false → In 2 a b → In 2 a (access (WriteByte o v) b).adapter
unfolding effect write_byte
in_byte o v a b p q s =
    in_access (WriteByte o v) 2 2 a b s
    (rw (p, q) (of_cond (In 2 a) (eqb (o % 2) 0) (in_write Low o v a b s) (in_write High (o - 1) v a b s)))

-- the commands of window 1
module _ (a b : Adapter) (s : In 1 a b) where
  again : (y : Adapter) → y.id ≡ b.id → y.select.window ≡ b.select.window → Still b y → In 1 a y
  again y i w t = record { active = ap (λ (k : IdState). k.active) i ∙ s.active; window = w ∙ s.window; still = still_then s.still t }

  in_filter : In 1 a (access (WriteWord 14 32773) b).adapter
  unfolding effect write_word commanded command act
  in_filter = in_access (WriteWord 14 32773) 1 1 a b s (of_cond (In 1 a) (eqb b.select.window 0) s (again _ refl refl (record { frames = refl; read = refl; failed = refl; wire = refl; split = refl })))

  in_zero : In 1 a (access (WriteWord 14 30975) b).adapter
  unfolding effect write_word commanded command act
  in_zero = in_access (WriteWord 14 30975) 1 1 a b s (of_cond (In 1 a) (eqb b.select.window 0) s (again _ refl refl (record { frames = refl; read = refl; failed = refl; wire = refl; split = refl })))

  in_mask : In 1 a (access (WriteWord 14 28672) b).adapter
  unfolding effect write_word commanded command act
  in_mask = in_access (WriteWord 14 28672) 1 1 a b s (of_cond (In 1 a) (eqb b.select.window 0) s (again _ refl refl (record { frames = refl; read = refl; failed = refl; wire = refl; split = refl })))

  in_receiving : In 1 a (access (WriteWord 14 8192) b).adapter
  unfolding effect write_word commanded command act
  in_receiving = in_access (WriteWord 14 8192) 1 1 a b s (of_cond (In 1 a) (eqb b.select.window 0) s (again _ refl refl (record { frames = refl; read = refl; failed = refl; wire = refl; split = refl })))

  in_sending : In 1 a (access (WriteWord 14 18432) b).adapter
  unfolding effect write_word commanded command act
  in_sending = in_access (WriteWord 14 18432) 1 1 a b s (of_cond (In 1 a) (eqb b.select.window 0) s (again _ refl refl (record { frames = refl; read = refl; failed = refl; wire = refl; split = refl })))

still_awake : (d : Driver) (w₀ w₁ w₂ : ℕ) (a : Adapter) → a.id.active ≡ true → Still a (run (open_talk d w₀ w₁ w₂) a).adapter
unfolding run open_talk
still_awake d w₀ w₁ w₂ a y =
    let two = in_two a.select.window a a (record { active = y; window = refl; still = still_same a }) in
    let b₀ = in_byte 0 (w₀ / 256) a _ refl refl two in
    let b₁ = in_byte 1 (w₀ % 256) a _ refl refl b₀ in
    let b₂ = in_byte 2 (w₁ / 256) a _ refl refl b₁ in
    let b₃ = in_byte 3 (w₁ % 256) a _ refl refl b₂ in
    let b₄ = in_byte 4 (w₂ / 256) a _ refl refl b₃ in
    let b₅ = in_byte 5 (w₂ % 256) a _ refl refl b₄ in
    (in_sending a _ (in_receiving a _ (in_mask a _ (in_zero a _ (in_filter a _ (in_one 2 a _ b₅)))))).still

pub still_open : (d : Driver) (w₀ w₁ w₂ : ℕ) (a : Adapter) → Still a (run (open_talk d w₀ w₁ w₂) a).adapter
still_open d w₀ w₁ w₂ a =
    by_test a.id.active (still_awake d w₀ w₁ w₂ a) (λ n. subst⁻¹ (Still a) (asleep_run (open_talk d w₀ w₁ w₂) a n) (still_same a))
