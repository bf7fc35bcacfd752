-- Laws of runs: a step function's contract is an equation of `access`, and a loop of accesses is one extension of the run.
-- `access` stays shut: the laws hold for any card. Assumes nothing.
use mathlib.Core.Path.{◌≡◌, refl, ap, sym, ◌∙◌}
use mathlib.Core.Bool.{false}
use mathlib.Core.List.{List, [], ◌∷◌, ◌++◌, map}
use Prim.Native.Nat.{ℕ, zero, suc, ◌+◌, ◌-◌, ◌*◌, ◌/◌, ◌%◌, ◌<◌, ◌≤◌}
use native.Mathlib.Nat.{add-zero}
use native.Mathlib.Omega.{arith}
use lib.ListN.{length, get_or, drop, replicate}
use lib.Seq.{get_or-drop, drop-drop}
use Rattle.card_rules.specs.declared.Card.{Card}
use Rattle.card_rules.specs.Adapter.{Adapter}
use Rattle.card_rules.specs.View.{view, Sound, Stands}
use Rattle.card_rules.specs.Access.{Access, ReadWord, WriteWord, Step, step, ones, access}
use Rattle.card_rules.specs.Gives.{Gives}
use Rattle.card_rules.proofs.StepEnds.{asleep}
use Rattle.driver_rules.specs.Talk.{Talk, done, ask, extended, run, read_words, write_words, words_of, after, after_reads, after_writes, bytes_read}

-- what a step function gives, as an equation
pub gave : {r : Card} {v : ℕ} {ram dir : List ℕ} {s : Step} → Gives r v ram dir s → s ≡ step v (view r ram dir)
gave g = λ i. record { value = sym g.value i; adapter = sym g.stands.shows i }

pub wrote : {r : Card} {ram dir : List ℕ} (s : Step) → Stands r ram dir s.adapter → s ≡ step s.value (view r ram dir)
wrote s w = λ i. record { value = s.value; adapter = sym w.shows i }

-- an inactive card stays as it is
pub asleep_run : {A : Type 0} (t : Talk A) (a : Adapter) → a.id.active ≡ false → (run t a).adapter ≡ a
unfolding run
asleep_run (done x) a n = refl
asleep_run (ask x k) a n =
    ap (λ (t : Step). (run (k t.value) t.adapter).adapter) (asleep x a n) ∙ asleep_run (k (ones x)) a n

-- ---- loops of accesses

pub writes_law : {A : Type 0} (vs : List ℕ) (next : Talk A) (a : Adapter) → run (write_words vs next) a ≡ extended (map (WriteWord 0) vs) (run next (after_writes vs a))
unfolding run write_words after
writes_law [] next a = refl
writes_law (v ∷ vs) next a = ap (extended (WriteWord 0 v ∷ [])) (writes_law vs next (access (WriteWord 0 v) a).adapter)

pub reads_law : {A : Type 0} (w : ℕ) (next : List ℕ → Talk A) (a : Adapter) → run (read_words w next) a ≡ extended (replicate w (ReadWord 0)) (run (next (bytes_read w a)) (after_reads w a))
unfolding run read_words bytes_read after
reads_law zero next a = refl
reads_law (suc w) next a =
    ap (extended (ReadWord 0 ∷ [])) (reads_law w (λ bytes. next ((access (ReadWord 0) a).value % 256 ∷ ((access (ReadWord 0) a).value / 256 ∷ bytes))) (access (ReadWord 0) a).adapter)

pub read_length : (w : ℕ) (a : Adapter) → length (bytes_read w a) ≡ 2 * w
unfolding bytes_read
read_length zero a = refl
read_length (suc w) a = ap (λ n. suc (suc n)) (read_length w (access (ReadWord 0) a).adapter) ∙ omega arith

-- ---- a turn of the loop that writes: word i of m, of the bytes p

write-one : (k : ℕ) (p : List ℕ) (s s' : Adapter) (v x : ℕ) → get_or p 0 0 + 256 * get_or p 1 0 ≡ v → access (WriteWord 0 v) s ≡ step x s'
    → after_writes (words_of (suc k) p) s ≡ after_writes (words_of k (drop 2 p)) s'
unfolding words_of after
write-one k p s s' v x e a = rw (e, a)

pub write_turn : (m i : ℕ) (p : List ℕ) (s s' : Adapter) (v x : ℕ) → i < m → v ≡ get_or p (2 * i) 0 + 256 * get_or p (2 * i + 1) 0 → access (WriteWord 0 v) s ≡ step x s'
    → after_writes (words_of (m - i) (drop (2 * i) p)) s ≡ after_writes (words_of (m - (i + 1)) (drop (2 * (i + 1)) p)) s'
write_turn m i p s s' v x h e a =
    let more : m - i ≡ suc (m - (i + 1)) = omega arith in
    let at : 2 * i + 2 ≡ 2 * (i + 1) = omega arith in
    let word : get_or (drop (2 * i) p) 0 0 + 256 * get_or (drop (2 * i) p) 1 0 ≡ v = rw (get_or-drop (2 * i) p 0 0, get_or-drop (2 * i) p 1 0, add-zero (2 * i)) (sym e) in
    rw (more, write-one (m - (i + 1)) (drop (2 * i) p) s s' v x word a, drop-drop 2 (2 * i) p, at)

-- ---- what the requirements of the step functions want

pub past_data : 4 ≤ 11
past_data = omega arith

-- memory keeps its length where the card is sound before and after
pub ram_kept : {c r : Card} {ram dir ram' dir' : List ℕ} → Sound r ram' dir' → Sound c ram dir → length ram' ≡ length ram
ram_kept s t = s.held.ram_long ∙ sym t.held.ram_long

pub dir_kept : {c r : Card} {ram dir ram' dir' : List ℕ} → Sound r ram' dir' → Sound c ram dir → length dir' ≡ length dir
dir_kept s t = s.held.dir_long ∙ sym t.held.dir_long

-- ---- accesses one after the other

pub after-append : (xs ys : List Access) (a : Adapter) → after (xs ++ ys) a ≡ after ys (after xs a)
unfolding after
after-append [] ys a = refl
after-append (x ∷ xs) ys a = after-append xs ys (access x a).adapter

-- the card after the accesses xs, and after ys from there
pub stands-then : {r r' : Card} {ram dir ram' dir' : List ℕ} (xs ys : List Access) (a : Adapter)
    → Stands r ram dir (after xs a) → Stands r' ram' dir' (after ys (view r ram dir)) → Stands r' ram' dir' (after (xs ++ ys) a)
stands-then xs ys a s t =
    record { shows = t.shows ∙ ap (after ys) s.shows ∙ sym (after-append xs ys a); sound = t.sound }

-- one access
pub stands_one : {r : Card} {ram dir : List ℕ} (x : Access) (a : Adapter) → Stands r ram dir (access x a).adapter → Stands r ram dir (after (x ∷ []) a)
unfolding after
stands_one x a s = s
