use Rattle.std.proofs.Common.{List, ◌∙◌, ap, map, sym}
use Rattle.serde_json.specs.View.{items_view, view}
use Rattle.serde_json.specs.declared.value.Value.{Value}
use Rattle.urlpattern_policy_json.proofs.TreeLemmas.{items_again, items_are, no_items_there}
use Rattle.urlpattern_policy_json.proofs.reading.items_in.Goals as goal

pub returns-in-Some : goal.returns-in-Some
returns-in-Some c =
    let values = c.in-Some.items.now.items in
    ap (λ (its : List Value). map view its) c.deref.ensures.value ∙ sym (items_again (map view values)) ∙ sym (items_are (view c.args.tree.now) (items_view values) (sym c.in-Some.ensures))
