-- A bus by value and the slice of its cards come to the same: the refusals go by the same tests, and a talk is over the same cards.
-- Assumes nothing.
use Prim.Native.Nat.{ℕ, ◌/◌, ◌%◌, ◌≤◌}
use mathlib.Core.Path.{◌≡◌, refl, sym, ap, ◌∙◌}
use mathlib.Core.Bool.{Bool, true, false, ◌&&◌}
use mathlib.Core.List.{List}
use native.Mathlib.Omega.{arith}
use lib.Dec.{leb, eqb}
use lib.ListN.{length, length-take}
use lib.Seq.{take_at}
use Rattle.port_rules.specs.declared.IdState.{IdState}
use Rattle.port_rules.specs.declared.Bus.{Bus}
use Rattle.port_rules.specs.Port.{held, rest}
use Rattle.port_rules.specs.Calls.{told, padded, Outcome, all_sound, allowed, naming, digit_of, refusing, judged}
use Rattle.port_rules.specs.Lent.{lent, Alike, TheSameAsByValue}
use Rattle.lent_port.proofs.Slices.{held-lent, unsound, outside, goes, unsound-lent, outside-lent, goes_lent, Talked, over, writing, reading, searching, activating}

-- equal outcomes on both sides
alike_at : {o p u v : Outcome} → p ≡ o → v ≡ u → Alike p v → Alike o u
alike_at e f a = record { answers = ap (λ (x : Outcome). x.reply) (sym e) ∙ a.answers ∙ ap (λ (x : Outcome). x.reply) f; listed = ap (λ (x : Outcome). x.places) (sym e) ∙ a.listed ∙ ap (λ (x : Outcome). x.places) f; cards = ap (λ (x : Outcome). held x.bus) (sym e) ∙ a.cards ∙ ap (λ (x : Outcome). held x.bus) f }

-- with a place for each, as many cards are there as are counted
many : (b : Bus) → b.count ≤ length b.cards → length (held b) ≡ b.count
many b room = length-take b.count b.cards ∙ omega arith

module _ (t : Talked) (b : Bus) (room : b.count ≤ length b.cards) where
  refused_alike : (n : ℕ) → Alike (refusing n b) (refusing n (lent (held b)))
  refused_alike n = record { answers = refl; listed = refl; cards = sym (held-lent (held b)) }

  talked_alike : Alike (over t b) (over t (lent (held b)))
  talked_alike =
      let h : held b ≡ held (lent (held b)) = sym (held-lent (held b)) in
      record {
        answers = ap (λ (xs : List IdState). told (t.values xs)) h;
        listed = ap (λ (xs : List IdState). padded (t.found xs)) h;
        cards =
            take_at (t.cards (held b)) (rest b) b.count (t.keeps (held b) ∙ many b room)
            ∙ ap t.cards h
            ∙ sym (take_at (t.cards (held (lent (held b)))) (rest (lent (held b))) (length (held b)) (t.keeps (held (lent (held b))) ∙ ap length (sym h)));
      }

  by_tests : (sound ok : Bool) → all_sound (held b) ≡ sound → Alike (judged b ok (over t b)) (judged (lent (held b)) ok (over t (lent (held b))))
  by_tests false ok s = alike_at (unsound b ok (over t b) s) (unsound-lent (held b) ok (over t (lent (held b))) s) (refused_alike 1)
  by_tests true false s = alike_at (outside b false (over t b) s refl) (outside-lent (held b) false (over t (lent (held b))) s refl) (refused_alike 12)
  by_tests true true s = alike_at (goes b true (over t b) s refl) (goes_lent (held b) true (over t (lent (held b))) s refl) talked_alike

  alike : (ok k : Bool) → ok ≡ k → Alike (judged b ok (over t b)) (judged (lent (held b)) k (over t (lent (held b))))
  alike ok k e = alike_at refl (ap (λ (x : Bool). judged (lent (held b)) x (over t (lent (held b)))) e) (by_tests (all_sound (held b)) ok refl)

pub allowed_same : (b : Bus) (port : ℕ) → b.count ≤ length b.cards → allowed b port ≡ allowed (lent (held b)) port
unfolding allowed
allowed_same b port room = ap (λ (n : ℕ). eqb (port % 16) 0 && eqb (port / 256) 1 && leb n 8) (sym (many b room))

pub the_same : TheSameAsByValue
the_same = record {
  writes = λ b port byte room. alike (writing (digit_of port) byte) b room (allowed b port) (allowed (lent (held b)) port) (allowed_same b port room);
  reads = λ b port room. alike (reading (digit_of port)) b room (allowed b port) (allowed (lent (held b)) port) (allowed_same b port room);
  finds = λ b port room. alike (searching (digit_of port)) b room (allowed b port) (allowed (lent (held b)) port) (allowed_same b port room);
  activates = λ b port tag base room. alike (activating (digit_of port) tag base) b room (allowed b port && naming tag base) (allowed (lent (held b)) port && naming tag base) (ap (λ (k : Bool). k && naming tag base) (allowed_same b port room));
}
