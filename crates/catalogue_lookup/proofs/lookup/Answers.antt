-- `catalogue_lookup::lookup` meets its contract: the override if it lists the card, else the main catalogue.
-- Assumes nothing.
use mathlib.Core.Path.{◌≡◌, sym, ap, ◌∙◌}
use Rattle.std.proofs.Common.{rules}
use Rattle.std.proofs.lemmas.Result.{err_from_is_err_and}
use Rattle.catalogue_rules.specs.Reading.{parsed}
use Rattle.catalogue_rules.specs.Lookup.{in_override}
use Rattle.catalogue_rules.specs.LookupWalk.{found_in}
use Rattle.catalogue_rules.proofs.Accepted.{override_has, main_is_refused}
use Rattle.catalogue_lookup.proofs.lookup.Goals as goal

pub returns-then-listed : goal.returns-then-listed
returns-then-listed c =
    let mapped : c.map.result ≡ in_override c.found_in.result = search rules in
    mapped ∙ ap in_override (c.found_in.ensures ∙ ap (found_in c.in_ok-cards.field-0.cards c.args.own.now) c.newest_at.ensures) ∙ override_has c.args.address c.args.own.now _ _ (sym c.in_ok-cards.was ∙ c.parse.ensures) (parsed c.args.main.now) _ c.listed.ensures c.if-listed.true

pub returns-in_err-others : goal.returns-in_err-others
returns-in_err-others c =
    let p = err_from_is_err_and c.from_residual-in_err-others.result c.from_residual-in_err-others.ensures.1 in
    rw (p.1, p.2) (main_is_refused c.args.address c.args.own.now _ _ (sym c.in_ok-cards.was ∙ c.parse.ensures) c.args.main.now _ c.listed.ensures c.if-listed.false _ (sym c.in_err-others.was ∙ c.parse-2.ensures))
