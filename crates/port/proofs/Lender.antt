-- A call over the cards that are there, joined to the places past them, is the call by value; and a bus of too many cards is refused as it is by value.
-- Assumes nothing.
use Prim.Native.Nat.{ℕ, ◌<◌, ◌≤◌}
use mathlib.Core.Path.{◌≡◌, refl, sym, ap, ◌∙◌}
use mathlib.Core.Bool.{Bool, true, false, cond}
use mathlib.Core.List.{List, [], ◌++◌}
use native.Mathlib.Omega.{arith}
use lib.Dec.{leb}
use lib.ListN.{length, take-append-drop}
use borrow.Author.Tests.{leb-true, leb-false}
use Rattle.bits.proofs.Tests.{by_test}
use Rattle.refusal.specs.Number.{number_of}
use Rattle.port_rules.specs.declared.IdState.{IdState}
use Rattle.port_rules.specs.declared.Bus.{Bus}
use Rattle.port_rules.specs.Port.{held, rest}
use Rattle.port_rules.specs.Calls.{Reply, refused, padded, Outcome, all_sound, allowed, refusing, judged}
use Rattle.port_rules.specs.Lent.{lent}
use Rattle.lent_port.proofs.Slices.{unsound, outside, goes, few, unsound-lent, outside-lent, goes_lent, over_lent, Talked, over}
use Rattle.lent_port.proofs.Alikes.{allowed_same}
use Rattle.port.specs.Lent.{Called}

-- an outcome over the cards that are there, with the places past them behind
abbrev behind : Bus → Outcome → Outcome
behind b o = record { reply = o.reply; places = o.places; bus = record { cards = o.bus.cards ++ rest b; count = b.count } }

module _ (t : Talked) (b : Bus) where
  refuses : (n : ℕ) → behind b (refusing n (lent (held b))) ≡ refusing n b
  refuses n = ap (λ (xs : List IdState). record { reply = (refusing n b).reply; places = padded []; bus = record { cards = xs; count = b.count } }) (take-append-drop b.count b.cards)

  by_tests : (sound ok : Bool) → all_sound (held b) ≡ sound → behind b (judged (lent (held b)) ok (over t (lent (held b)))) ≡ judged b ok (over t b)
  by_tests false ok s = ap (behind b) (sym (unsound-lent (held b) ok (over t (lent (held b))) s)) ∙ refuses 1 ∙ unsound b ok (over t b) s
  by_tests true false s = ap (behind b) (sym (outside-lent (held b) false (over t (lent (held b))) s refl)) ∙ refuses 12 ∙ outside b false (over t b) s refl
  by_tests true true s = ap (behind b) (sym (goes_lent (held b) true (over t (lent (held b))) s refl) ∙ sym (over_lent t (held b))) ∙ goes b true (over t b) s refl

  joins : (ok k : Bool) → k ≡ ok → behind b (judged (lent (held b)) k (over t (lent (held b)))) ≡ judged b ok (over t b)
  joins ok k e = ap (λ (x : Bool). behind b (judged (lent (held b)) x (over t (lent (held b))))) e ∙ by_tests (all_sound (held b)) ok refl

-- with eight places or fewer counted, the slice's tests are the bus's
pub fits : (b : Bus) (port : ℕ) → b.count ≤ 8 → length b.cards ≡ 8 → allowed (lent (held b)) port ≡ allowed b port
fits b port few l = sym (allowed_same b port (omega arith))

-- more cards than places
crowded : (b : Bus) (port : ℕ) → 8 < b.count → (ok : Bool) → (ok ≡ true → allowed b port ≡ true) → (o : Outcome) (n : ℕ) → n ≡ cond (all_sound (held b)) 12 1 → refusing n b ≡ judged b ok o
crowded b port h true f o n e = let no : b.count ≤ 8 = few b port (f refl) in absurd (omega arith)
crowded b port h false f o n e = go (all_sound (held b)) refl
  where
    go : (sound : Bool) → all_sound (held b) ≡ sound → refusing n b ≡ judged b false o
    go true s = ap (λ (m : ℕ). refusing m b) (e ∙ ap (λ (k : Bool). cond k 12 1) s) ∙ outside b false o s refl
    go false s = ap (λ (m : ℕ). refusing m b) (e ∙ ap (λ (k : Bool). cond k 12 1) s) ∙ unsound b false o s

-- A call by value that answers u: t is what it comes to where nothing is refused, `fit` tests a bus and the call's arguments, and an answer shows as a reply and the seven places.
module _ {A : Type 0} (reply : A → Reply) (places : A → List ℕ) (t : Talked) (fit : Bus → Bool) (b after : Bus) (port : ℕ) (u : A) where
  pub called : length b.cards ≡ 8 → (b.count ≤ 8 → fit (lent (held b)) ≡ fit b) → (fit b ≡ true → allowed b port ≡ true) →
      Called (λ ys v zs. record { reply = reply v; places = places v; bus = lent zs } ≡ judged (lent ys) (fit (lent ys)) (over t (lent ys)))
      (λ why v. (reply v ≡ refused (number_of why)) × (places v ≡ padded [])) b after u →
      record { reply = reply u; places = places u; bus = after } ≡ judged b (fit b) (over t b)
  called l same inside g = by_test (leb b.count 8) within past
    where
      within : leb b.count 8 ≡ true → record { reply = reply u; places = places u; bus = after } ≡ judged b (fit b) (over t b)
      within h =
          let few : b.count ≤ 8 = leb-true _ _ h in
          let (zs, p, q) = g.lent few in
          ap (λ (d : Bus). record { reply = reply u; places = places u; bus = d }) q ∙ ap (behind b) p ∙ joins t b (fit b) (fit (lent (held b))) (same few)

      past : leb b.count 8 ≡ false → record { reply = reply u; places = places u; bus = after } ≡ judged b (fit b) (over t b)
      past h =
          let many : 8 < b.count = leb-false _ _ h in
          let (why, p, n, q) = g.crowded many in
          (λ i. record { reply = p.0 i; places = p.1 i; bus = q i }) ∙ crowded b port many (fit b) inside (over t b) (number_of why) n
