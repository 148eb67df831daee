use Rattle.std.proofs.Common.{◌≡◌, ◌∙◌, ◌≤◌, List, ap, arith, length, map, rules, subst, sym}
use Rattle.std.specs.Prelude.{option_copied, vec_len}
use Rattle.serde_json.specs.View.{view}
use Rattle.urlpattern_policy_json.specs.PolicyViews.{SettingsView, fault_view}
use Rattle.urlpattern_policy_json.specs.declared.fault.JsonFault.{JsonFault}
use Rattle.urlpattern_policy_json.specs.ReadPolicies.{rules_in}
use Rattle.urlpattern_policy_text.proofs.JsonLemmas.{none_before, one_more, read_from}
use Rattle.urlpattern_policy_text.proofs.ReadingLemmas.{no_items, some_items}
use Rattle.urlpattern_policy_text.specs.PolicyJson.{AreReadFrom, options_given}
use Rattle.urlpattern_policy_text.proofs.json_reading.policy_of_json.Goals as goal

pub loop-index-init : goal.loop-index-init
loop-index-init g c = none_before g.R.RegExp (option_copied c.in_ok-base.base) (rules_in (view c.args.json.now)) c.new-rules.result (map fault_view c.used_base.new.faults.items) c.new-rules.ensures

pub loop-index-preserved : goal.loop-index-preserved
loop-index-preserved g c =
    one_more g.R.RegExp (option_copied c.in_ok-base.base) c.rules_in-items.result.now (rules_in (view c.args.json.now)) c.loop-index.index c.index-items-index.result c.in_ok-reading.reading c.loop-index.rules c.add_reading.new.rules _
    (map fault_view c.loop-index.faults.items) (map fault_view c.add_reading.new.faults.items) c.rules_in-items.ensures c.loop-index-test.true c.index-items-index.is c.loop-index.invariant c.in_ok-reading.ensures c.in_ok-add_reading.ensures

pub returns-then-not-is_empty-clause-refused : goal.returns-then-not-is_empty-clause-refused
returns-then-not-is_empty-clause-refused g c =
    let faults = c.loop-index.faults in
    let count : length faults.items ≡ vec_len faults = search rules in
    let read = read_from g.R.RegExp (option_copied c.in_ok-base.base) (view c.args.json.now) (option_copied c.settings_in-settings.result.base) c.rules_in-items.result.now c.loop-index.index c.loop-index.rules
    (map fault_view c.in_ok-faults.faults.items) (map fault_view c.used_base.new.faults.items) (map fault_view faults.items)
    (ap (λ (settings : SettingsView). settings.base) c.settings_in-settings.ensures) c.in_ok-faults.ensures c.in_ok-base.ensures c.rules_in-items.ensures (omega (arith, c.loop-index-test.false)) c.loop-index.invariant in
    (some_items faults.items (vec_len faults) c.is_empty.result count c.is_empty.ensures c.if-not-is_empty.true, (c.loop-index.rules, read))

pub returns-clause-policy : goal.returns-clause-policy
returns-clause-policy g c =
    let faults = c.loop-index.faults in
    let count : length faults.items ≡ vec_len faults = search rules in
    let none = no_items faults.items (vec_len faults) c.is_empty.result count c.is_empty.ensures c.if-not-is_empty.false in (
      subst (λ (found : List JsonFault). AreReadFrom g.R.RegExp (view c.args.json.now) c.loop-index.rules (map fault_view found)) none
          (read_from g.R.RegExp (option_copied c.in_ok-base.base) (view c.args.json.now) (option_copied c.settings_in-settings.result.base) c.rules_in-items.result.now c.loop-index.index c.loop-index.rules
          (map fault_view c.in_ok-faults.faults.items) (map fault_view c.used_base.new.faults.items) (map fault_view faults.items)
          (ap (λ (settings : SettingsView). settings.base) c.settings_in-settings.ensures) c.in_ok-faults.ensures c.in_ok-base.ensures c.rules_in-items.ensures (omega (arith, c.loop-index-test.false)) c.loop-index.invariant),
      c.options_given.ensures ∙ ap options_given c.settings_in-settings.ensures,
    )
