use Rattle.std.proofs.Common.{◌∙◌, ℕ, ap}
use Rattle.std.specs.Prelude.{Option, unwrap_or}
use Rattle.urlpattern_compare.specs.declared.common_texts.Doubt.TheVariants.{NoneOf}
use Rattle.urlpattern_index.proofs.NumberLemmas.{copied_at}
use Rattle.urlpattern.proofs.router.check.route_doubt.Goals as goal

pub returns-in-NoneOf : goal.returns-in-NoneOf
returns-in-NoneOf c =
    let lack = c.in-NoneOf.lack in
    let there = c.copied.ensures ∙ copied_at c.args.earlier.now lack.pattern c.get.result c.get.ensures.lookup in
    rw c.in-NoneOf.is
    (ap (λ (index : ℕ). NoneOf (record lack { pattern = index })) (c.unwrap_or.ensures ∙ ap (λ (found : Option ℕ). unwrap_or found lack.pattern) there))
