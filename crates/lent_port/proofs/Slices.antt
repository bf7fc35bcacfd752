-- The slice as a bus: what the definitions of the calls by value come to there.
-- Assumes nothing.
use Prim.Native.Nat.{ℕ, ◌/◌, ◌%◌, ◌≤◌}
use mathlib.Core.Path.{◌≡◌, refl, sym, ap, ◌∙◌}
use mathlib.Core.Bool.{Bool, true, false, ◌&&◌}
use mathlib.Core.List.{List, [], ◌∷◌, ◌++◌, append-nil}
use lib.Dec.{leb, eqb}
use lib.ListN.{length, length-map}
use lib.Seq.{take-length, drop-length}
use borrow.Author.Tests.{leb-true}
use Rattle.bits.proofs.Tests.{both}
use Rattle.port_rules.specs.declared.IdState.{IdState}
use Rattle.port_rules.specs.declared.Bus.{Bus}
use Rattle.port_rules.specs.Port.{held, rest, seated, Access, write, read, Talk, done, ask, run, value, after, port_write, port_bit, port_read}
use Rattle.port_rules.specs.Search.{search, activate}
use Rattle.port_rules.specs.Calls.{told, Outcome, padded, all_sound, allowed, refusing, judged, ended}
use Rattle.port_rules.specs.Lent.{lent}

-- all the slice's cards are there
pub held-lent : (xs : List IdState) → held (lent xs) ≡ xs
held-lent xs = take-length xs

-- as many cards in their places
pub seated-lent : (xs zs : List IdState) → length zs ≡ length xs → lent zs ≡ seated zs (lent xs)
seated-lent xs zs l =
    let e : zs ≡ zs ++ rest (lent xs) = sym (append-nil zs) ∙ ap (λ (t : List IdState). zs ++ t) (sym (drop-length xs)) in
    λ i. record { cards = e i; count = l i }

-- Every access keeps the number of cards, and so does every talk.
pub write-length : (p x : ℕ) (xs : List IdState) → length (port_write p x xs) ≡ length xs
unfolding port_write
write-length p x xs = length-map xs _

pub read_length : (p : ℕ) (xs : List IdState) → length (port_read p xs) ≡ length xs
unfolding port_read
read_length p xs = length-map xs _

after-length : (p : ℕ) (a : Access) (xs : List IdState) → length (after p a xs) ≡ length xs
unfolding after
after-length p (write x) xs = write-length p x xs
after-length p read xs = read_length p xs

pub run_length : {A : Type 0} (p : ℕ) (t : Talk A) (xs : List IdState) → length (run p t xs).cards ≡ length xs
unfolding run
run_length p (done a) xs = refl
run_length p (ask a k) xs = run_length p (k (value p a xs)) (after p a xs) ∙ after-length p a xs

-- The refusals and the outcome, one below the other: refusal 1, refusal 12, none; and over the slice.
module _ (b : Bus) (ok : Bool) (o : Outcome) where
  pub unsound : all_sound (held b) ≡ false → refusing 1 b ≡ judged b ok o
  unfolding judged
  unsound e = rw e

  pub outside : all_sound (held b) ≡ true → ok ≡ false → refusing 12 b ≡ judged b ok o
  unfolding judged
  outside e f = rw (e, f)

  pub goes : all_sound (held b) ≡ true → ok ≡ true → o ≡ judged b ok o
  unfolding judged
  goes e f = rw (e, f)

module _ (xs : List IdState) (ok : Bool) (o : Outcome) where
  pub unsound-lent : all_sound xs ≡ false → refusing 1 (lent xs) ≡ judged (lent xs) ok o
  unsound-lent e = unsound (lent xs) ok o (ap all_sound (held-lent xs) ∙ e)

  pub outside-lent : all_sound xs ≡ true → ok ≡ false → refusing 12 (lent xs) ≡ judged (lent xs) ok o
  outside-lent e f = outside (lent xs) ok o (ap all_sound (held-lent xs) ∙ e) f

  pub goes_lent : all_sound xs ≡ true → ok ≡ true → o ≡ judged (lent xs) ok o
  goes_lent e f = goes (lent xs) ok o (ap all_sound (held-lent xs) ∙ e) f

-- an allowed call has at most eight cards
pub few : (b : Bus) (port : ℕ) → allowed b port ≡ true → b.count ≤ 8
unfolding allowed
few b port e = leb-true b.count 8 (both (eqb (port % 16) 0 && eqb (port / 256) 1) (leb b.count 8) e).1

-- What a call comes to where nothing is refused, as functions of the cards that are there.
pub record Talked : Type 0 where
  pub values : List IdState → List ℕ
  pub found : List IdState → List ℕ
  pub cards : List IdState → List IdState
  pub keeps : (xs : List IdState) → length (cards xs) ≡ length xs

abbrev pub over : Talked → Bus → Outcome
over t b = ended b (t.values (held b)) (t.found (held b)) (t.cards (held b))

pub over_lent : (t : Talked) (xs : List IdState) → record { reply = told (t.values xs); places = padded (t.found xs); bus = lent (t.cards xs) } ≡ over t (lent xs)
over_lent t xs =
    (λ i. record { reply = told (t.values xs); places = padded (t.found xs); bus = seated-lent xs (t.cards xs) (t.keeps xs) i })
    ∙ ap (λ (l : List IdState). ended (lent xs) (t.values l) (t.found l) (t.cards l)) (sym (held-lent xs))

abbrev pub writing : ℕ → ℕ → Talked
writing p x = record { values = λ xs. []; found = λ xs. []; cards = port_write p x; keeps = write-length p x }

abbrev pub reading : ℕ → Talked
reading p = record { values = λ xs. port_bit p xs ∷ []; found = λ xs. []; cards = port_read p; keeps = read_length p }

abbrev pub searching : ℕ → Talked
searching p = record { values = λ xs. length (run p search xs).answer ∷ length (run p search xs).accesses ∷ []; found = λ xs. (run p search xs).answer; cards = λ xs. (run p search xs).cards; keeps = run_length p search }

abbrev pub activating : ℕ → ℕ → ℕ → Talked
activating p tag base = record { values = λ xs. length (run p (activate tag base) xs).accesses ∷ []; found = λ xs. []; cards = λ xs. (run p (activate tag base) xs).cards; keeps = run_length p (activate tag base) }
