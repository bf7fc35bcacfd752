-- Talks step by step: `Leads p t cards n u cards'` says that t at cards comes, by n accesses, to u at cards'.
-- Assumes nothing.
use Rattle.std.specs.Prelude.{ℕ, ◌+◌, ◌≡◌, refl, List, length}
use Rattle.std.proofs.Common.{◌∙◌, arith}
use Rattle.port_rules.specs.declared.IdState.{IdState}
use Rattle.port_rules.specs.Port.{Talk, ask, Access, run, value, after}

pub record Leads {A : Type 0} (p : ℕ) (t : Talk A) (cs : List IdState) (n : ℕ) (u : Talk A) (ds : List IdState) : Type 0 where
  pub answered : (run p t cs).answer ≡ (run p u ds).answer
  pub left : (run p t cs).cards ≡ (run p u ds).cards
  pub counted : length (run p t cs).accesses ≡ n + length (run p u ds).accesses

pub stay : {A : Type 0} (p : ℕ) (t : Talk A) (cs : List IdState) → Leads p t cs 0 t cs
stay p t cs = record { answered = refl; left = refl; counted = omega arith }

pub step : {A : Type 0} (p : ℕ) (a : Access) (k : ℕ → Talk A) (cs : List IdState) → Leads p (ask a k) cs 1 (k (value p a cs)) (after p a cs)
unfolding run
step p a k cs = record { answered = refl; left = refl; counted = omega arith }

pub on : {A : Type 0} {p n m : ℕ} {t u v : Talk A} {cs ds es : List IdState} → Leads p t cs n u ds → Leads p u ds m v es → Leads p t cs (n + m) v es
on a b = record { answered = a.answered ∙ b.answered; left = a.left ∙ b.left; counted = omega arith }
