-- `statuses::take_oldest` meets its contract: the entries behind the oldest move up by one. Assumes nothing.
use native.Mathlib.Omega.{arith}
use mathlib.Core.Path.{ap, ◌∙◌}
use mathlib.Core.List.{List}
use Prim.Native.Nat.{ℕ, ◌-◌}
use lib.ListN.{take}
use Rattle.transmit_rules.proofs.StackEntries.{shifted_rest, rest-none}
use Rattle.transmit.proofs.statuses.take_oldest.Goals as goal

pub returns-then-n-eq0 : goal.returns-then-n-eq0
returns-then-n-eq0 c = let a = c.args in record { lists = rest-none a.entries.now a.count.now c.if-n-eq0.true; few = c.requires.1 }

pub returns : goal.returns
returns c =
    let a = c.args in
    let n = a.count.now in
    record {
      lists = ap (λ (l : List ℕ). take (n - 1) l) c.copy_within.ensures.after ∙ shifted_rest a.entries.now n (omega arith) (omega arith);
      few = omega arith;
    }
