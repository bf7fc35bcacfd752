-- `operands::line` meets its contract: each kind has its own form. Assumes nothing.
use Rattle.std.proofs.Common.{rules, inl, inr}
use Rattle.bench_rules.proofs.Lines.{numbers_line_lem}
use Rattle.bench_rules.specs.Script.{operand_line}
use Rattle.script.proofs.operands.line.Goals as goal

pub returns-in-Power : goal.returns-in-Power
unfolding operand_line
returns-in-Power c = elim c.in-Power.is [ inl e ↦ rw e (rw e at c.byte_string.ensures) | inr e ↦ rw e (rw e at c.byte_string.ensures) ]

pub returns-in-Start : goal.returns-in-Start
unfolding operand_line
returns-in-Start c = rw c.in-Start.is (rw c.in-Start.is at c.byte_string-in-Start.ensures)

pub returns-in-Bytes : goal.returns-in-Bytes
unfolding operand_line
returns-in-Bytes c = elim c.in-Bytes.is [ inl e ↦ rw e (rw e at c.byte_string-in-Bytes.ensures) | inr e ↦ rw e (rw e at c.byte_string-in-Bytes.ensures) ]

-- these kinds have no byte string
pub returns-in-Nothing : goal.returns-in-Nothing
unfolding operand_line
returns-in-Nothing c =
    numbers_line_lem c.args.kind c.args.count c.args.one.now c.args.two.now c.args.three.now c.args.bytes.now (search rules) c.numbers.ensures
