-- The calls over the slice: a refusal changes nothing, and a call that passes the tests comes to the definition by value.
-- Assumes nothing.
use Rattle.std.proofs.Common.{◌≡◌, refl, sym, ap, ◌∙◌, arith, ℕ, ◌+◌, ◌<◌, Bool, true, false, cond, ◌&&◌, List, [], ◌∷◌, map, length, take, leb, Result, Ok, Err}
use Rattle.std.specs.Prelude.{⊤}
use mathlib.Core.Bool.{false≢true}
use Rattle.bits.proofs.Tests.{never, both, join}
use borrow.Author.Tests.{leb-true}
use Rattle.refusal.specs.declared.Refusal.{Refusal}
use Rattle.refusal.specs.declared.Refusal.TheVariants.{StateUnsound, ArgumentOutside}
use Rattle.refusal.specs.Number.{number_of}
use Rattle.port_rules.specs.declared.IdState.{IdState}
use Rattle.port_rules.specs.Card.{id_write, id_after_read}
use Rattle.port_rules.specs.Port.{port_bit, port_write, port_read, run}
use Rattle.port_rules.specs.Calls.{refused, told, padded, Outcome, all_sound, allowed, naming, digit_of, judged, port_writes, port_reads, finds_cards, activates_card}
use Rattle.port_rules.specs.Lent.{lent, wrote_over, read_over, found_over, activated_over}
use Rattle.lent_port.specs.declared.roll.Progress.{Progress}
use Rattle.lent_port.specs.Roll.{searched_by, activated_by}
use Rattle.lent_port.specs.Steps.{tested, Finds}
use Rattle.lent_port.proofs.CardByCard.{activates, searches}
use Rattle.lent_port.proofs.Slices.{unsound-lent, outside-lent, goes_lent, over_lent, Talked, over, writing, reading, searching, activating}

-- what the tests answer, by their two outcomes
abbrev answered : Bool → Bool → Result ⊤ Refusal
answered sound fit = cond sound (cond fit (Ok tt) (Err ArgumentOutside)) (Err StateUnsound)

-- the number of a refusal, 0 for none
abbrev number : Result ⊤ Refusal → ℕ
number (Ok done) = 0
number (Err why) = number_of why

module _ (ys : List IdState) (port : ℕ) where
  -- a call is refused with the number that the tests answer
  pub refuses : (ok : Bool) → (ok ≡ true → allowed (lent ys) port ≡ true) → (o : Outcome) (why : Refusal) → Err why ≡ tested ys port → record { reply = refused (number_of why); places = padded []; bus = lent ys } ≡ judged (lent ys) ok o
  unfolding tested
  refuses ok f o why e = go (all_sound ys) (allowed (lent ys) port) refl refl ok f e
    where
      go : (s a : Bool) → all_sound ys ≡ s → allowed (lent ys) port ≡ a → (ok : Bool) → (ok ≡ true → a ≡ true) → Err why ≡ answered s a → record { reply = refused (number_of why); places = padded []; bus = lent ys } ≡ judged (lent ys) ok o
      go false a s h ok f e = ap (λ (n : ℕ). record { reply = refused n; places = padded []; bus = lent ys }) (ap number e) ∙ unsound-lent ys ok o s
      go true false s h true f e = never (f refl)
      go true false s h false f e = ap (λ (n : ℕ). record { reply = refused n; places = padded []; bus = lent ys }) (ap number e) ∙ outside-lent ys false o s refl
      go true true s h ok f e = absurd (let z : ◌≡◌ {A = Bool} false true = cc in false≢true z)

  -- or passes them
  pub passes : (r : Result ⊤ Refusal) (t : ⊤) → r ≡ Ok t → r ≡ tested ys port → (all_sound ys ≡ true) × (allowed (lent ys) port ≡ true)
  unfolding tested
  passes r t q e = go (all_sound ys) (allowed (lent ys) port) (sym q ∙ e)
    where
      go : (s a : Bool) → Ok t ≡ answered s a → (s ≡ true) × (a ≡ true)
      go false a e = absurd (let z : ◌≡◌ {A = Bool} false true = cc in false≢true z)
      go true false e = absurd (let z : ◌≡◌ {A = Bool} false true = cc in false≢true z)
      go true true e = (refl, refl)

  -- and may be refused for its tag and base number then
  pub misnamed : (r : Result ⊤ Refusal) (t : ⊤) → r ≡ Ok t → r ≡ tested ys port → (tag base : ℕ) → naming tag base ≡ false → activated_over (Err ArgumentOutside) ys ≡ activates_card (lent ys) port tag base
  misnamed r t q e tag base n =
      let ok : allowed (lent ys) port && naming tag base ≡ false = ap (λ (b : Bool). allowed (lent ys) port && b) n ∙ no (allowed (lent ys) port) in
      outside-lent ys (allowed (lent ys) port && naming tag base) (over (activating (digit_of port) tag base) (lent ys)) (passes r t q e).0 ok
    where
      no : (b : Bool) → b && false ≡ false
      no true = refl
      no false = refl

-- a call that is not refused
pub comes : (t : Talked) (ys zs : List IdState) (ok : Bool) → all_sound ys ≡ true → ok ≡ true → zs ≡ t.cards ys →
    record { reply = told (t.values ys); places = padded (t.found ys); bus = lent zs } ≡ judged (lent ys) ok (over t (lent ys))
comes t ys zs ok s o z = ap (λ (l : List IdState). record { reply = told (t.values ys); places = padded (t.found ys); bus = lent l }) z ∙ over_lent t ys ∙ goes_lent ys ok (over t (lent ys)) s o

-- what naming arguments are
pub named : (tag base : ℕ) → naming tag base ≡ true → (tag < 8) × (base < 32)
unfolding naming
named tag base e =
    let (t, u) = both (leb 1 tag && leb tag 7) (leb base 31) e in
    (omega (arith, leb-true tag 7 (both (leb 1 tag) (leb tag 7) t).1), omega (arith, leb-true base 31 u))

-- The four calls over ys, which the tests let pass, at x of the port 1x0h; zs is what the slice holds after.
module _ (ys zs : List IdState) (port x : ℕ) (d : x ≡ digit_of port) (r : Result ⊤ Refusal) (t : ⊤) (q : r ≡ Ok t) (e : r ≡ tested ys port) where
  comes-to : (k : ℕ → Talked) (ok : Bool) → (allowed (lent ys) port ≡ true → ok ≡ true) → zs ≡ (k x).cards ys →
      record { reply = told ((k x).values ys); places = padded ((k x).found ys); bus = lent zs } ≡ judged (lent ys) ok (over (k (digit_of port)) (lent ys))
  comes-to k ok f z = let (s, a) = passes ys port r t q e in comes (k x) ys zs ok s (f a) z ∙ ap (λ (p : ℕ). judged (lent ys) ok (over (k p) (lent ys))) d

  pub wrote-comes : (byte : ℕ) → zs ≡ map (λ s. id_write s x byte) ys → wrote_over (Ok tt) zs ≡ port_writes (lent ys) port byte
  unfolding port_write
  wrote-comes byte z = comes-to (λ p. writing p byte) (allowed (lent ys) port) (λ a. a) z

  pub read-comes : (bit : ℕ) → bit ≡ port_bit x ys → zs ≡ map (λ s. id_after_read s x bit) ys → read_over (Ok bit) zs ≡ port_reads (lent ys) port
  unfolding port_read
  read-comes bit b z =
      (λ i. record { reply = told (b i ∷ []); places = padded []; bus = lent zs })
      ∙ comes-to reading (allowed (lent ys) port) (λ a. a) (z ∙ ap (λ (c : ℕ). map (λ s. id_after_read s x c) ys) b)

  pub activated-comes : (tag base : ℕ) → naming tag base ≡ true → zs ≡ map (activated_by x (216 + tag) (224 + base)) ys → activated_over (Ok 259) zs ≡ activates_card (lent ys) port tag base
  unfolding run
  activated-comes tag base n z =
      let l = activates x tag base ys in
      (λ i. record { reply = told (sym l.counted i ∷ []); places = padded []; bus = lent zs })
      ∙ comes-to (λ p. activating p tag base) (allowed (lent ys) port && naming tag base) (λ a. join _ _ a n) (z ∙ sym l.left)

  pub found-comes : (f : Progress) → Finds x ys f → zs ≡ map (searched_by x (take f.count f.addresses)) ys →
      found_over (record { answer = Ok (record { count = f.count; accesses = f.accesses }); addresses = f.addresses }) zs ≡ finds_cards (lent ys) port
  found-comes f g z =
      let x< : x < 16 = omega arith in
      let l = searches x ys x< g.worded in
      (λ i. record { reply = told ((g.many ∙ ap length (sym l.answered)) i ∷ (g.cost ∙ sym l.cost) i ∷ []); places = (g.places ∙ ap padded (sym l.answered)) i; bus = lent zs })
      ∙ comes-to searching (allowed (lent ys) port) (λ a. a) (z ∙ ap (λ (l : List ℕ). map (searched_by x l) ys) g.listed ∙ sym l.left)
