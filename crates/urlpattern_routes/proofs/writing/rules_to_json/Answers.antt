use Rattle.std.proofs.Common.{◌≤◌, ◌∙◌, List, ap, arith, length, map, take_all}
use Rattle.serde_json.proofs.Views.{view-Array}
use Rattle.serde_json.specs.Data.{Data, array}
use Rattle.serde_json.specs.View.{items_of}
use Rattle.urlpattern_routes.specs.Trees.{rule_tree}
use Rattle.urlpattern_routes.specs.Views.{rule_view}
use Rattle.urlpattern_routes.specs.declared.rule.RouterRule.{RouterRule}
use Rattle.urlpattern_routes.proofs.WritingLemmas.{map-twice}
use Rattle.urlpattern_routes.proofs.writing.rules_to_json.Goals as goal

pub returns : goal.returns
returns c =
    let its = c.args.rules.now in
    let all : length its ≤ c.loop-rule.rule-index = omega arith in
    view-Array c.loop-rule.items ∙ ap (λ (trees : List Data). array (items_of trees)) (c.loop-rule.invariant ∙ ap (λ (xs : List RouterRule). map (λ rule. rule_tree (rule_view rule)) xs) (take_all c.loop-rule.rule-index its all) ∙ map-twice rule_view rule_tree its)
