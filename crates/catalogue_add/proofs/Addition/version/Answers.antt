-- `Addition::version` meets its contract: its tests are the definition's, and the new file is the old one with the version's bytes
-- at the end of the card's fields.
-- Assumes nothing.
use mathlib.Core.Path.{◌≡◌, refl, sym, ◌∙◌}
use native.Mathlib.Omega.{arith}
use Rattle.std.proofs.Common.{rules, Err}
use Rattle.catalogue_add.proofs.Added.{version_added, place_within, version_written}
use Rattle.catalogue_add.proofs.Choice.{was_parsed_lem, no_place_lem, is_twice, unsound, few_for_version}
use Rattle.catalogue_add.proofs.Addition.version.Goals as goal

pub returns-then-counts-versions : goal.returns-then-counts-versions
returns-then-counts-versions c =
    no_place_lem (version_added (was_parsed_lem c.args.self.file.now c.args.self.told) c.args.self.image.now refl c.requires.file_value c.requires.at_value c.versions-versions.ensures c.last_number-last.ensures) c.args.out.now c.if-counts-versions.true

pub returns-then-twice : goal.returns-then-twice
returns-then-twice c =
    is_twice (version_added (was_parsed_lem c.args.self.file.now c.args.self.told) c.args.self.image.now c.twice.ensures c.requires.file_value c.requires.at_value c.versions-versions.ensures c.last_number-last.ensures) c.args.out.now c.if-counts-versions.false c.if-twice.true

pub returns-in_err-check : goal.returns-in_err-check
returns-in_err-check c =
    let told : c.from_residual.result ≡ Err c.in_err-check.field-0.0 = search rules in
    rw told (unsound (version_added (was_parsed_lem c.args.self.file.now c.args.self.told) c.args.self.image.now c.twice.ensures c.requires.file_value c.requires.at_value c.versions-versions.ensures c.last_number-last.ensures) c.args.out.now c.if-counts-versions.false c.if-twice.false _ (sym c.in_err-check.was ∙ c.check.ensures))

pub with_version-requires : goal.with_version-requires
with_version-requires c = record {
  place_in_bounds = (place_within (was_parsed_lem c.args.self.file.now c.args.self.told) c.args.self.image.now c.twice.ensures c.requires.file_value c.requires.at_value c.versions-versions.ensures c.last_number-last.ensures c.args.self.bytes (omega arith) c.if-counts-versions.false c.if-twice.false c.card_end-place.ensures, omega arith);
  counted = few_for_version c.args.self.counts.cards c.versions-versions.result c.last_number-last.result c.args.self.counts.fields c.if-counts-versions.false;
}

pub returns : goal.returns
returns c =
    version_written (was_parsed_lem c.args.self.file.now c.args.self.told) c.args.self.image.now c.twice.ensures c.requires.file_value c.requires.at_value c.versions-versions.ensures c.last_number-last.ensures c.args.self.bytes (omega arith) c.if-counts-versions.false c.if-twice.false c.card_end-place.ensures
    (sym c.in_ok-check.was ∙ c.check.ensures) c.args.out.now c.with_version.ensures.0 c.with_version.ensures.1
