use Rattle.std.proofs.Common.{◌∙◌, ap, sym}
use Rattle.std.specs.Map.Iter.{deref_pair}
use Rattle.std.specs.Prelude.{option_map}
use Rattle.urlpattern_policy_differences.proofs.ComparingLemmas.{not_tested, tested}
use Rattle.urlpattern_policy_differences.proofs.comparing.compare_errors.lacks_parts_at.Goals as goal

pub returns-in-Some : goal.returns-in-Some
returns-in-Some g c =
    tested c.args.rules.now c.args.index c.in-Some.pattern.now _ c.is_none.result c.parts.result (sym c.get.ensures ∙ ap (option_map deref_pair) c.in-Some.is) c.parts.ensures.parts c.is_none.ensures

pub returns-in-None : goal.returns-in-None
returns-in-None g c = not_tested c.args.rules.now c.args.index (sym c.get.ensures ∙ ap (option_map deref_pair) c.in-None.is)
