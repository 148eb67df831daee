use Rattle.std.proofs.Common.{◌≡◌, ◌∙◌, Some, ap, option_map, string_bytes, sym}
use Rattle.serde_json.specs.Data.{object}
use Rattle.serde_json.specs.View.{view}
use Rattle.urlpattern_differences.specs.declared.rules.Effect.{Effect}
use Rattle.urlpattern_policy_json.specs.ReadPolicies.{effect_named, parts_of_rule}
use Rattle.urlpattern_policy_json.proofs.TreeLemmas.{no_rule, rule_alone}
use Rattle.urlpattern_policy_json.proofs.reading.parts_of_members.Goals as goal

pub returns-then-len-ne1 : goal.returns-then-len-ne1
returns-then-len-ne1 c = sym (no_rule c.args.members.now.entries (λ one. c.if-len-ne1.true (c.len.ensures.len ∙ one)))

pub returns-in-Some-effect_named : goal.returns-in-Some-effect_named
returns-in-Some-effect_named c =
    let name = c.in-Some.name.now in
    let pattern = c.in-Some.pattern.now in
    let alone = rule_alone c.args.members.now.entries name pattern (sym c.len.ensures.len ∙ c.if-len-ne1.false) c.in-Some.ensures.first in
    let named : effect_named (string_bytes name) ≡ Some c.in-Some-effect_named.effect = ap effect_named (sym c.deref.ensures) ∙ sym c.effect_named.ensures ∙ c.in-Some-effect_named.is in
    sym (ap (λ members. parts_of_rule (object members)) alone ∙ ap (option_map (λ (effect : Effect). (effect, view pattern))) named)

pub returns-in-None-effect_named : goal.returns-in-None-effect_named
returns-in-None-effect_named c =
    let name = c.in-Some.name.now in
    let pattern = c.in-Some.pattern.now in
    let alone = rule_alone c.args.members.now.entries name pattern (sym c.len.ensures.len ∙ c.if-len-ne1.false) c.in-Some.ensures.first in
    let named = ap effect_named (sym c.deref.ensures) ∙ sym c.effect_named.ensures ∙ c.in-None-effect_named.is in
    sym (ap (λ members. parts_of_rule (object members)) alone ∙ ap (option_map (λ (effect : Effect). (effect, view pattern))) named)
