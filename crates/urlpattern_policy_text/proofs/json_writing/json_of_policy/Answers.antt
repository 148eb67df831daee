use Rattle.std.proofs.Common.{◌∙◌, List, ap, arith, map}
use Rattle.urlpattern_policy_json.specs.PolicyTrees.{policy_tree}
use Rattle.urlpattern_policy_json.specs.PolicyViews.{SettingsView, rule_view}
use Rattle.urlpattern_policy_json.specs.declared.given.GivenRule.{GivenRule}
use Rattle.urlpattern_policy_text.proofs.JsonWritingLemmas.{all_given, none_given, one_given}
use Rattle.urlpattern_policy_text.proofs.WritingLemmas.{there_contained}
use Rattle.urlpattern_policy_text.specs.WrittenJson.{settings_of}
use Rattle.urlpattern_policy_text.proofs.json_writing.json_of_policy.Goals as goal

pub loop-index-init : goal.loop-index-init
loop-index-init g c = none_given g.R.RegExp c.args.policy.now.rules c.new-rules.result.items c.new-rules.ensures.items

pub loop-index-preserved : goal.loop-index-preserved
loop-index-preserved g c =
    one_given g.R.RegExp c.args.policy.now.rules c.loop-index.index c.loop-index.rules.items c.push.new.self.items c.in-Some.rule c.loop-index.invariant (rw c.in-Some.is at c.in_ok-found.ensures) c.in_ok-push-in-Some.ensures.items

pub returns-in-None : goal.returns-in-None
returns-in-None g c =
    let (rule, there, is) = rw c.in-None.is at c.in_ok-found.ensures in
    (rule, there_contained c.args.policy.now.rules c.loop-index.index rule there, is)

pub returns : goal.returns
returns g c = (
  map rule_view c.loop-index.rules.items,
  all_given g.R.RegExp c.args.policy.now.rules c.loop-index.index c.loop-index.rules.items (omega (arith, c.loop-index-test.false, c.len-index-end.ensures)) c.loop-index.invariant,
  c.in_ok-tree.ensures ∙ ap (λ (settings : SettingsView). policy_tree settings (map rule_view c.deref.result.now)) c.settings_of.ensures
      ∙ ap (λ (them : List GivenRule). policy_tree (settings_of c.args.policy.now.options) (map rule_view them)) c.deref.ensures.value,
)
