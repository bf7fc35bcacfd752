-- `turns::walk` meets its contract. The invariant: what is left, read behind the fields and cards passed, reads as the whole file.
-- The measure is what is left of the file.
-- Assumes nothing.
use native.Mathlib.Omega.{arith}
use mathlib.Core.Path.{sym, ◌∙◌}
use lib.ListN.{drop}
use Rattle.catalogue_rules.proofs.At.{stood, stopped}
use Rattle.catalogue_rules.proofs.Walks.{at_start, step_law, damage_law, early_law, moved, end_law, one_byte, one_most}
use Rattle.catalogue_read.proofs.turns.walk.Goals as goal

pub loop-f-init : goal.loop-f-init
loop-f-init c = (omega arith, omega arith, omega arith, at_start _)

pub returns : goal.returns
returns c =
    early_law c.loop-f.turn c.loop-f.n c.loop-f.cards (drop c.loop-f.at c.args.file.now) _ c.loop-f.invariant.3 (stopped c.args.file.now c.loop-f.at c.in_default.is c.field_at.ensures).none

pub closing-requires : goal.closing-requires
closing-requires c =
    ((stood c.args.file.now c.loop-f.at c.in-Some.is c.field_at.ensures).fits, (stood c.args.file.now c.loop-f.at c.in-Some.is c.field_at.ensures).size)

pub returns-then-f-eq-COUNT : goal.returns-then-f-eq-COUNT
returns-then-f-eq-COUNT c =
    c.closing.ensures ∙ end_law _ _ _ _ _ _ _ c.if-f-eq-COUNT.true (moved c.loop-f.turn c.loop-f.n c.loop-f.cards (drop c.loop-f.at c.args.file.now) _ c.loop-f.invariant.3 _ _ (stood c.args.file.now c.loop-f.at c.in-Some.is c.field_at.ensures).is_first (stood c.args.file.now c.loop-f.at c.in-Some.is c.field_at.ensures).leaves)

pub next_turn-turn-requires : goal.next_turn-turn-requires
next_turn-turn-requires c =
    (stood c.args.file.now c.loop-f.at c.in-Some.is c.field_at.ensures).size

pub returns-then-is_damaged : goal.returns-then-is_damaged
returns-then-is_damaged c =
    damage_law _ _ _ _ _ _ _ _ c.if-f-eq-COUNT.false c.next_turn-turn.ensures (moved c.loop-f.turn c.loop-f.n c.loop-f.cards (drop c.loop-f.at c.args.file.now) _ c.loop-f.invariant.3 _ _ (stood c.args.file.now c.loop-f.at c.in-Some.is c.field_at.ensures).is_first (stood c.args.file.now c.loop-f.at c.in-Some.is c.field_at.ensures).leaves) (sym c.is_damaged.ensures ∙ c.if-is_damaged.true)

pub overflow_add-cards : goal.overflow_add-cards
overflow_add-cards c =
    omega (arith, (stood c.args.file.now c.loop-f.at c.in-Some.is c.field_at.ensures).fits, (stood c.args.file.now c.loop-f.at c.in-Some.is c.field_at.ensures).behind_head, one_most _ c.from-cards.ensures)

pub overflow_add-n : goal.overflow_add-n
overflow_add-n c =
    omega (arith, (stood c.args.file.now c.loop-f.at c.in-Some.is c.field_at.ensures).fits, (stood c.args.file.now c.loop-f.at c.in-Some.is c.field_at.ensures).behind_head)

pub overflow_add-at : goal.overflow_add-at
overflow_add-at c =
    omega (arith, (stood c.args.file.now c.loop-f.at c.in-Some.is c.field_at.ensures).fits)

pub loop-f-smaller : goal.loop-f-smaller
loop-f-smaller c =
    omega (arith, (stood c.args.file.now c.loop-f.at c.in-Some.is c.field_at.ensures).fits, (stood c.args.file.now c.loop-f.at c.in-Some.is c.field_at.ensures).behind_head)

pub loop-f-preserved : goal.loop-f-preserved
loop-f-preserved c =
    ((stood c.args.file.now c.loop-f.at c.in-Some.is c.field_at.ensures).fits, omega (arith, (stood c.args.file.now c.loop-f.at c.in-Some.is c.field_at.ensures).behind_head), omega (arith, one_most _ c.from-cards.ensures), step_law _ _ _ _ _ _ _ _ c.if-f-eq-COUNT.false c.next_turn-turn.ensures (moved c.loop-f.turn c.loop-f.n c.loop-f.cards (drop c.loop-f.at c.args.file.now) _ c.loop-f.invariant.3 _ _ (stood c.args.file.now c.loop-f.at c.in-Some.is c.field_at.ensures).is_first (stood c.args.file.now c.loop-f.at c.in-Some.is c.field_at.ensures).leaves) (sym c.is_damaged.ensures ∙ c.if-is_damaged.false) (one_byte _ c.from-cards.ensures))
