-- `Addition::card` meets its contract: its tests are the definition's, and the new file is the old one's fields, the card and the count.
-- Assumes nothing.
use mathlib.Core.Path.{◌≡◌, refl, sym, ◌∙◌}
use native.Mathlib.Omega.{arith}
use Rattle.std.proofs.Common.{rules, Err}
use Rattle.catalogue_add.proofs.Added.{card_added, holds_count, card_written}
use Rattle.catalogue_add.proofs.Choice.{was_parsed_lem, no_place_lem, is_twice, unsound, few_for_card}
use Rattle.catalogue_add.proofs.Addition.card.Goals as goal

pub returns-then-counts : goal.returns-then-counts
returns-then-counts c = no_place_lem (card_added (was_parsed_lem c.args.self.file.now c.args.self.told) c.args.self.image.now refl c.requires.file_value) c.args.out.now c.if-counts.true

pub returns-then-twice : goal.returns-then-twice
returns-then-twice c = is_twice (card_added (was_parsed_lem c.args.self.file.now c.args.self.told) c.args.self.image.now c.twice.ensures c.requires.file_value) c.args.out.now c.if-counts.false c.if-twice.true

pub returns-in_err-check : goal.returns-in_err-check
returns-in_err-check c =
    let told : c.from_residual.result ≡ Err c.in_err-check.field-0.0 = search rules in
    rw told (unsound (card_added (was_parsed_lem c.args.self.file.now c.args.self.told) c.args.self.image.now c.twice.ensures c.requires.file_value) c.args.out.now c.if-counts.false c.if-twice.false _ (sym c.in_err-check.was ∙ c.check.ensures))

pub with_card-requires : goal.with_card-requires
with_card-requires c = record {
  in_bounds = (holds_count (was_parsed_lem c.args.self.file.now c.args.self.told) c.args.self.image.now c.twice.ensures c.requires.file_value c.args.self.bytes (omega arith) c.if-counts.false c.if-twice.false, omega arith);
  counted = few_for_card c.args.self.counts.cards c.args.self.counts.fields c.if-counts.false;
}

pub returns : goal.returns
returns c =
    card_written (was_parsed_lem c.args.self.file.now c.args.self.told) c.args.self.image.now c.twice.ensures c.requires.file_value c.args.self.bytes (omega arith) c.if-counts.false c.if-twice.false
    (sym c.in_ok-check.was ∙ c.check.ensures) c.args.out.now c.with_card.ensures.0 c.with_card.ensures.1
