use Rattle.std.proofs.Common.{List, ◌∙◌, ap, map, sym}
use Rattle.serde_json.specs.View.{items_view, view}
use Rattle.serde_json.specs.declared.value.Value.{Value}
use Rattle.urlpattern_routes.proofs.ConditionLemmas.{items-viewed, rules-of-array}
use Rattle.urlpattern_routes.proofs.reading.rules_in.Goals as goal

pub returns-in-Some : goal.returns-in-Some
returns-in-Some c =
    let values = c.in-Some.items.now.items in
    ap (λ (its : List Value). map view its) c.deref.ensures.value ∙ sym (items-viewed values) ∙ sym (rules-of-array (view c.args.json.now) (items_view values) (sym c.in-Some.ensures))
