-- Each way through a report and a fetch is the run of its tree. `access` stays shut. Assumes nothing.
use Rattle.std.specs.Prelude.{Result, Ok, Err, Some}
use mathlib.Core.Path.{◌≡◌, refl}
use mathlib.Core.Bool.{Bool, true, false, cond, ◌||◌, ◌&&◌}
use mathlib.Core.List.{List, [], ◌∷◌, ◌++◌}
use Prim.Native.Nat.{ℕ, ◌+◌, ◌-◌, ◌/◌, ◌<◌, ◌≤◌}
use native.Mathlib.Omega.{arith}
use lib.ListN.{length, take, drop, replicate, length-append, length-replicate}
use lib.Seq.{length-take-le}
use lib.Dec.{ltb, eqb}
use borrow.Author.Tests.{lt-ltb, le-ltb, le-leb, lt-leb}
use Rattle.refusal.specs.declared.Refusal.{Refusal}
use Rattle.refusal.specs.declared.Refusal.TheVariants.{BudgetShort}
use Rattle.card_rules.specs.declared.Card.{Card}
use Rattle.card_rules.specs.Adapter.{Adapter}
use Rattle.card_rules.specs.Access.{Access, ReadWord, ReadByte, WriteWord, WriteByte, step, access}
use Rattle.driver_rules.specs.declared.Driver.{Driver}
use Rattle.driver_rules.specs.Driver.{with_error}
use Rattle.driver_rules.specs.Talk.{Ran, run, bytes_read, after_reads}
use Rattle.driver_rules.proofs.Runs.{reads_law, read_length}
use Rattle.driver_rules.specs.declared.Item.{Item}
use Rattle.driver_rules.specs.declared.Item.TheVariants.{Frame}
use Rattle.driver_rules.specs.declared.Served.{Served}
use Rattle.driver_rules.specs.Items.{Serving, plain, is_error, seen, reports, report_talk, fetch_talk}
use Rattle.driver_rules.specs.Areas.{in_look, in_frame}
use Rattle.driver_rules.specs.Meets.{Ended, Tells}

abbrev pub ran : Serving → List Access → Adapter → Ran Serving
ran x m s = record { answer = x; made = m; adapter = s }

-- an answer of the code
abbrev pub answered : Driver → Card → Result Item Refusal → ℕ → Served
answered d c x left = record { driver = d; card = c; answer = Some x; left = left }

-- a run that hands nothing up is at its end
pub stops : (left : ℕ) (R : Ran Serving) (x : Result Item Refusal) (d : Driver) (m : List Access) (s : Adapter) (c : Card) (more : ℕ)
    → R ≡ ran (plain x d) m s → length m + more ≡ left → Tells left R (answered d c x more) s
unfolding in_look in_frame
stops left R x d m s c more e n l f = rw e (record { answer = refl; driver = refl; count = n; adapter = refl; look = refl; frame = refl })

-- ---- report

pub report_short : (left : ℕ) (d : Driver) (c : Card) (s : Adapter) → left < 4 → Tells left (run (report_talk left d) s) (answered d c (Err BudgetShort) left) s
unfolding run report_talk
report_short left d c s h = stops left _ (Err BudgetShort) d [] s c left (rw (lt-ltb left 4 h)) (omega arith)

module _ (left : ℕ) (d : Driver) (s s₁ s₂ s₃ : Adapter) (v₁ v₂ v₃ : ℕ) (some : 4 ≤ left)
    (e₁ : access (ReadByte 11) s ≡ step v₁ s₁) (e₂ : access (WriteByte 11 0) s₁ ≡ step v₂ s₂) (e₃ : access (ReadByte 11) s₂ ≡ step v₃ s₃) where
  pub report-on : ((d.error || is_error v₁) && eqb v₃ 0) ≡ true → (s₄ : Adapter) (v₄ : ℕ) → access (WriteWord 14 18432) s₃ ≡ step v₄ s₄
      → run (report_talk left d) s ≡ ran (reports v₁ (with_error false d)) (ReadByte 11 ∷ (WriteByte 11 0 ∷ (ReadByte 11 ∷ (WriteWord 14 18432 ∷ [])))) s₄
  unfolding run report_talk
  report-on w s₄ v₄ e₄ = rw (le-ltb left 4 some, e₁, e₂, e₃, w, e₄)

  pub report-off : ((d.error || is_error v₁) && eqb v₃ 0) ≡ false
      → run (report_talk left d) s ≡ ran (reports v₁ (seen d v₁)) (ReadByte 11 ∷ (WriteByte 11 0 ∷ (ReadByte 11 ∷ []))) s₃
  unfolding run report_talk
  report-off w = rw (le-ltb left 4 some, e₁, e₂, e₃, w)

plains : (b : Bool) (x y : Serving) → x.bytes ≡ [] → y.bytes ≡ [] → (cond b x y).bytes ≡ []
plains true x y p q = p
plains false x y p q = q

no_bytes : (v : ℕ) (d : Driver) → (reports v d).bytes ≡ []
unfolding reports
no_bytes v d = plains (ltb 0 d.unreported) _ _ refl refl

-- what a report tells
pub told : (left : ℕ) (R : Ran Serving) (v : ℕ) (d : Driver) (m : List Access) (s : Adapter) (c : Card) (more : ℕ)
    → R ≡ ran (reports v d) m s → length m + more ≡ left
    → Tells left R (answered (reports v d).driver c (reports v d).answer more) s
unfolding in_look in_frame
told left R v d m s c more e n l f =
    rw e (record { answer = refl; driver = refl; count = n; adapter = refl; look = rw (no_bytes v d); frame = rw (no_bytes v d) })

-- ---- fetch

module _ (left : ℕ) (d : Driver) (n : ℕ) (s : Adapter) where
  pub fetch_short : (c : Card) (l f : List ℕ) → left < (n + 1) / 2 + 1 → Ended left (run (fetch_talk left d n) s) (answered d c (Err BudgetShort) left) s l f l f
  unfolding run fetch_talk
  fetch_short c l f h = stops left _ (Err BudgetShort) d [] s c left (rw (lt-ltb left ((n + 1) / 2 + 1) h)) (omega arith) l f

  module _ (l f : List ℕ) (fits : (n + 1) / 2 + 1 ≤ left) (s₂ s₃ : Adapter) (v : ℕ) (e₂ : s₂ ≡ after_reads ((n + 1) / 2) s) (e₃ : access (WriteWord 14 16384) s₂ ≡ step v s₃) where
    abbrev body : List ℕ
    body = take n (bytes_read ((n + 1) / 2) s)

    body_size : length body ≡ n
    body_size = length-take-le n (bytes_read ((n + 1) / 2) s) (omega (arith, read_length ((n + 1) / 2) s))

    fetches : access (WriteWord 14 16384) (after_reads ((n + 1) / 2) s) ≡ step v s₃
        → run (fetch_talk left d n) s ≡ ran (record { answer = Ok (Frame n); driver = d; bytes = body }) (replicate ((n + 1) / 2) (ReadWord 0) ++ (WriteWord 14 16384 ∷ [])) s₃
    unfolding run fetch_talk
    fetches e = rw (le-ltb left ((n + 1) / 2 + 1) fits, reads_law, e)

    fetched : run (fetch_talk left d n) s ≡ ran (record { answer = Ok (Frame n); driver = d; bytes = body }) (replicate ((n + 1) / 2) (ReadWord 0) ++ (WriteWord 14 16384 ∷ [])) s₃
    fetched = fetches (rw e₂ at e₃)

    made-size : length (replicate ((n + 1) / 2) (ReadWord 0) ++ (WriteWord 14 16384 ∷ [])) ≡ (n + 1) / 2 + 1
    made-size = simp (length-append, length-replicate) (omega arith)

    pub fetch_look : (c : Card) (l' : List ℕ) → n ≤ 256 → l' ≡ body ++ drop n l
        → Ended left (run (fetch_talk left d n) s) (answered d c (Ok (Frame n)) (left - ((n + 1) / 2 + 1))) s₃ l f l' f
    unfolding in_look in_frame
    fetch_look c l' h e =
        rw fetched
        (record { answer = refl; driver = refl; count = omega (arith, made-size); adapter = refl; look = rw (body_size, le-leb n 256 h) e; frame = rw (body_size, le-leb n 256 h) })

    pub fetch_frame : (c : Card) (f' : List ℕ) → 256 < n → f' ≡ body ++ drop n f
        → Ended left (run (fetch_talk left d n) s) (answered d c (Ok (Frame n)) (left - ((n + 1) / 2 + 1))) s₃ l f l f'
    unfolding in_look in_frame
    fetch_frame c f' h e =
        rw fetched
        (record { answer = refl; driver = refl; count = omega (arith, made-size); adapter = refl; look = rw (body_size, lt-leb n 256 h); frame = rw (body_size, lt-leb n 256 h) e })
