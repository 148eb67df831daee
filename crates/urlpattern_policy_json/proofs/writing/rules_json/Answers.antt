use Rattle.std.proofs.Common.{◌≤◌, ◌∙◌, List, ap, arith, length, map, take_all}
use Rattle.serde_json.specs.Data.{Data}
use Rattle.serde_json.specs.View.{items_of}
use Rattle.urlpattern_policy_json.specs.PolicyTrees.{rule_tree}
use Rattle.urlpattern_policy_json.specs.PolicyViews.{rule_view}
use Rattle.urlpattern_policy_json.specs.declared.given.GivenRule.{GivenRule}
use Rattle.urlpattern_policy_json.proofs.TreeLemmas.{map_twice}
use Rattle.urlpattern_policy_json.proofs.writing.rules_json.Goals as goal

pub returns : goal.returns
returns c =
    let its = c.args.rules.now in
    let all : length its ≤ c.loop-rule.rule-index = omega arith in
    ap items_of (c.loop-rule.invariant ∙ ap (λ (xs : List GivenRule). map (λ rule. rule_tree (rule_view rule)) xs) (take_all c.loop-rule.rule-index its all) ∙ map_twice rule_view rule_tree its)
