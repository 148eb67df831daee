use Rattle.std.proofs.Common.{◌≡◌, map, take}
use Rattle.serde_json.specs.View.{view}
use Rattle.urlpattern_policy_json.specs.PolicyTrees.{rule_tree}
use Rattle.urlpattern_policy_json.specs.PolicyViews.{rule_view}
use Rattle.urlpattern_policy_json.proofs.writing.rules_json.Given as goal

abbrev pub invariant-loop-rule : goal.invariant-loop-rule
invariant-loop-rule l = map view l.items.items ≡ map (λ rule. rule_tree (rule_view rule)) (take l.rule-index l.rules)
