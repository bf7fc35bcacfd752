-- `rounds` meets its contract: what follows a round is one of the three ways on.
-- Assumes nothing.
use mathlib.Core.Path.{◌≡◌}
use Prim.Native.Nat.{◌<◌}
use native.Mathlib.Omega.{arith}
use lib.ListN.{length}
use borrow.Author.Rules.{rules}
use Rattle.lent_port.proofs.Loops.{finish_none, finish_ones, finish_more, blank_joined}
use Rattle.lent_port.proofs.roll.Progress.+rounds.Goals as goal

pub returns-then-free-eq0 : goal.returns-then-free-eq0
returns-then-free-eq0 t c = finish_none _ _ c.if-free-eq0.true c.requires.blank

pub returns-then-address-eq-ALL_ONES : goal.returns-then-address-eq-ALL_ONES
returns-then-address-eq-ALL_ONES t c = finish_ones _ _ _ c.if-free-eq0.false c.least-address.ensures c.if-address-eq-ALL_ONES.true c.requires.blank

pub rounds-requires : goal.rounds-requires
rounds-requires t c =
    let f = c.args.self in
    let h : f.count < 7 = omega arith in (
      omega arith,
      record { places = omega arith; counted = omega arith; blank = blank_joined f.addresses f.count c.least-address.result h c.requires.blank },
    )

pub returns : goal.returns
returns t c =
    let f = c.args.self in
    let l : length f.addresses ≡ 7 = search rules in
    finish_more _ _ _ _ _ c.if-free-eq0.false c.least-address.ensures c.if-address-eq-ALL_ONES.false c.struck-rest.ensures (omega arith) c.rounds.ensures
