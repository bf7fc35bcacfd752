-- `reading::read_data` meets its contract: its tests are the definition's, and where both fail there is a frame that has the two bytes. Assumes nothing.
use borrow.Author.Tests.{ltb-false}
use mathlib.Core.Path.{sym, ap, ◌∙◌}
use native.Mathlib.Omega.{arith}
use lib.IntN.{ℤ, pos}
use lib.Signed.{lt_z}
use Rattle.receive_rules.specs.Reading.{data_word, after_read}
use Rattle.receive_rules.specs.View.{rx_of}
use Rattle.receive_rules.proofs.Count.{back, beyond_is}
use Rattle.receive_rules.proofs.Steps.{step_same}
use Rattle.receive.proofs.Word.{readable-small, readable_there}
use Rattle.receive.proofs.reading.read_data.Goals as goal

pub returns-then-r : goal.returns-then-r
unfolding data_word after_read
returns-then-r c =
    let s = c.args in
    (rw c.if-r.true, step_same s.size _ s.ram.now s.dir.now _ c.requires.packed (rw c.if-r.true))

pub returns-then-beyond : goal.returns-then-beyond
unfolding data_word after_read
returns-then-beyond c =
    let s = c.args in
    let l = c.left-beyond in
    let t = (sym (ap (λ (v : ℤ). lt_z v (pos 2)) (back l.result l.type_inv ∙ l.ensures)) ∙ c.if-beyond.true) in
    (rw (c.if-r.false, t), step_same s.size _ s.ram.now s.dir.now _ c.requires.packed (rw (c.if-r.false, t)))

pub overflow_add-r : goal.overflow_add-r
overflow_add-r c =
    let s = c.args in
    let l = c.left-beyond in
    omega (arith, (ltb-false _ _ (sym (beyond_is ((rx_of c.args.size c.args.r c.args.ram.now c.args.dir.now))) ∙ ((sym (ap (λ (v : ℤ). lt_z v (pos 2)) (back l.result l.type_inv ∙ l.ensures)) ∙ c.if-beyond.false)))), readable-small s.size s.r.frames s.ram.now s.dir.now c.requires.packed)

pub oldest_byte-low-requires : goal.oldest_byte-low-requires
oldest_byte-low-requires c =
    let s = c.args in
    let l = c.left-beyond in
    (c.requires.packed, readable_there s.size s.r.frames s.r.receiver.read s.ram.now s.dir.now ((ltb-false _ _ (sym (beyond_is ((rx_of c.args.size c.args.r c.args.ram.now c.args.dir.now))) ∙ ((sym (ap (λ (v : ℤ). lt_z v (pos 2)) (back l.result l.type_inv ∙ l.ensures)) ∙ c.if-beyond.false))))))

pub oldest_byte-high-requires : goal.oldest_byte-high-requires
oldest_byte-high-requires c =
    let s = c.args in
    let l = c.left-beyond in
    (c.requires.packed, readable_there s.size s.r.frames s.r.receiver.read s.ram.now s.dir.now ((ltb-false _ _ (sym (beyond_is ((rx_of c.args.size c.args.r c.args.ram.now c.args.dir.now))) ∙ ((sym (ap (λ (v : ℤ). lt_z v (pos 2)) (back l.result l.type_inv ∙ l.ensures)) ∙ c.if-beyond.false))))))

pub returns : goal.returns
unfolding data_word after_read
returns c =
    let s = c.args in
    let l = c.left-beyond in
    let t = (sym (ap (λ (v : ℤ). lt_z v (pos 2)) (back l.result l.type_inv ∙ l.ensures)) ∙ c.if-beyond.false) in
    (rw (c.if-r.false, t) (omega (arith, c.oldest_byte-low.ensures.0, c.oldest_byte-high.ensures.0)), step_same s.size _ s.ram.now s.dir.now _ c.requires.packed (rw (c.if-r.false, t)))
