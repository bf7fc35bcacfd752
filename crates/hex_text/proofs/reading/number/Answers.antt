-- `reading::number` meets its contract: what is read so far and what is still to come make the number. Assumes nothing.
use Rattle.std.proofs.Common.{◌≡◌, ℕ, List, ◌∙◌, refl, length, drop, ◌+◌, ◌≤◌, arith}
use Rattle.std.proofs.lemmas.Bool.Decides.{nat_tests}
use Rattle.bench_rules.specs.Text.{none, number_of, read_on}
use Rattle.bench_rules.proofs.Spelling.{read_more, read-end, read_over, over, under}
use Rattle.hex_text.proofs.reading.number.Goals as goal

-- a word that is not empty, in a base that there is
read_whole : (base n : ℕ) (s : List ℕ) → (length s ≡ 0 → ⊥) → base ≤ 16 → n ≡ read_on base 0 s → number_of base s ≡ n
unfolding number_of
read_whole base n s h g e = grind (arith, nat_tests)

pub returns-in_err-n : goal.returns-in_err-n
returns-in_err-n c =
    let w = c.args.word.now in
    let i = c.loop-b.b-index in
    let h = read_over c.args.base _ (drop (i + 1) w) (over none _ c.in_err-n.ensures) in
    let e = read_more c.args.base c.loop-b.n w i c.loop-b-test.true ∙ c.loop-b.invariant.1 in
    let g : none ≤ read_on c.args.base 0 w = rw e at h in
    let f = read_whole c.args.base (read_on c.args.base 0 w) w (λ z. omega arith) c.if-base-gt16.false refl in
    rw f (grind (arith, nat_tests, c.from_residual.ensures))

pub loop-b-preserved : goal.loop-b-preserved
loop-b-preserved c =
    let u = under none _ _ c.in_ok-n.ensures in
    (u.1, rw u.0 (read_more c.args.base c.loop-b.n c.args.word.now c.loop-b.b-index c.loop-b-test.true ∙ c.loop-b.invariant.1))

pub loop-b-init : goal.loop-b-init
loop-b-init c = (omega arith, refl)

pub returns : goal.returns
returns c =
    let w = c.args.word.now in
    let f = read_whole c.args.base c.loop-b.n w (λ z. grind (arith, z, c.if-is_empty.ensures)) c.if-base-gt16.false (read-end c.args.base c.loop-b.n w c.loop-b.b-index c.loop-b-test.false ∙ c.loop-b.invariant.1) in
    rw f (grind (arith, nat_tests))
