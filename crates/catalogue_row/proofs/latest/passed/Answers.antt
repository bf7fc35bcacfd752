-- `latest::passed` meets its contract: the lookup's newest image is the card's latest.
-- Assumes nothing.
use mathlib.Core.Path.{sym, ap, ◌∙◌}
use lib.ListN.{drop}
use Rattle.catalogue_rules.specs.Field.{fields_of}
use Rattle.catalogue_rules.specs.Lookup.{shown_at}
use Rattle.catalogue_rules.proofs.Shows.{shows-newest}
use Rattle.catalogue_row.proofs.Outward.{no-card, no-version, image-fits, image-put}
use Rattle.catalogue_row.proofs.latest.passed.Goals as goal

pub returns-then-tag-ne-ADDRESS : goal.returns-then-tag-ne-ADDRESS
returns-then-tag-ne-ADDRESS c = no-card _ (fields_of (drop c.args.next c.args.file.now)) _ _ c.if-tag-ne-ADDRESS.true

pub returns-in_default : goal.returns-in_default
returns-in_default c =
    no-version _ (fields_of (drop c.args.next c.args.file.now)) _ _ c.if-tag-ne-ADDRESS.false _
    (ap (shown_at c.args.file.now) (sym c.in_default.is ∙ c.newest.ensures) ∙ shows-newest c.args.file.now c.args.next)

pub bytes-requires : goal.bytes-requires
bytes-requires c =
    image-fits _ (fields_of (drop c.args.next c.args.file.now)) _ c.args.out.now c.if-tag-ne-ADDRESS.false _ _
    (ap (shown_at c.args.file.now) (sym c.in-Ok.is ∙ c.newest.ensures) ∙ shows-newest c.args.file.now c.args.next) c.part.ensures
    c.requires.0 (c.requires.1 c.if-tag-ne-ADDRESS.false)

pub returns : goal.returns
returns c =
    image-put _ (fields_of (drop c.args.next c.args.file.now)) _ _ c.if-tag-ne-ADDRESS.false _ _
    (ap (shown_at c.args.file.now) (sym c.in-Ok.is ∙ c.newest.ensures) ∙ shows-newest c.args.file.now c.args.next) c.part.ensures
    _ _ c.bytes.ensures.0 c.bytes.ensures.1
