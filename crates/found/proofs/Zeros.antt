-- One zero in place of two: the card in ID_CMD takes it as a command and is out; without a port it hears none of the 255 bytes, of which none is zero.
-- Assumes nothing.
use Prim.Native.Nat.{ℕ, zero, suc, ◌+◌, ◌<◌}
use mathlib.Core.Path.{◌≡◌, refl, ◌∙◌, ap}
use mathlib.Core.Bool.{true}
use mathlib.Core.List.{List, [], ◌∷◌, map}
use native.Mathlib.Omega.{arith}
use lib.ListN.{length}
use Rattle.port_rules.specs.declared.IdState.{IdState}
use Rattle.port_rules.specs.Card.{waiting}
use Rattle.port_rules.specs.Port.{port_write, value, after, Talk, done, run}
use Rattle.port_rules.specs.Search.{puts, id_bytes, call_up}
use Rattle.found.specs.Theorems.{Here, one_zero, two_zeros, obedient, OneZeroMissesACard}
use Rattle.found.proofs.Run.{writes_all}
use Rattle.found.specs.OneCard.{wrote}
use Rattle.found.proofs.Called.{nonzero, roused, calls}
use Rattle.found.proofs.Round.{deaf}

-- bytes of the sequence to a card that is out
missed : (p n i : ℕ) (s : IdState) → p < 16 → i + n ≡ 255 → wrote p (id_bytes i n) (waiting s) ≡ waiting s
unfolding wrote id_bytes
missed p zero i s h e = refl
missed p (suc n) i s h e = ap (wrote p (id_bytes (suc i) n)) (deaf p s.shift _ s h (nonzero i (omega arith))) ∙ missed p n (suc i) s h (omega arith)

silent : Talk (List ℕ)
silent = done []

one : (p : ℕ) (s : IdState) → p < 16 → s.command ≡ true → s.port ≡ p → (run p one_zero (s ∷ [])).cards ≡ waiting s ∷ []
unfolding run puts wrote silent
one p s h c q =
    let l = writes_all p (0 ∷ id_bytes 0 255) silent (s ∷ []) in
    l.left ∙ ap (λ (t : IdState). t ∷ []) (ap (wrote p (id_bytes 0 255)) (roused p s c q) ∙ missed p 255 0 s h refl)

-- two zeros and 255 bytes
calls_up : length (run 1 two_zeros []).accesses ≡ 257
unfolding run value after port_write puts id_bytes call_up
calls_up = refl

pub one_zero_misses : OneZeroMissesACard
unfolding run silent
one_zero_misses = record {
  one = one;
  two = λ p s h.
      let l = calls {P = Here p} p silent (λ _ q. q) (s ∷ []) (h, tt) in
      ap (map (λ (c : IdState). c.command)) l.left;
  example = one 1 obedient (omega arith) refl refl;
}
