use Rattle.std.proofs.Common.{sym, ap, rules, Some, ◌∙◌}
use Rattle.serde_json.specs.View.{view}
use Rattle.urlpattern_inputs.specs.Trees.{member_read}
use Rattle.urlpattern_inputs.proofs.EachLemmas.{passed_on, read_each-fails, read_each-seen}
use Rattle.urlpattern_plain.specs.PatternJson.{component_read, pattern_read}
use Rattle.urlpattern_plain.specs.Values.{plain_component_view, plain_pattern_view}
use Rattle.urlpattern_plain.proofs.PatternLemmas.{pattern_fails, pattern_from}
use Rattle.urlpattern_components.specs.Eight.{at, each, name_text}
use Rattle.urlpattern_components.specs.declared.eight.ComponentName.{ComponentName}
use Rattle.urlpattern_plain.proofs.pattern.UrlPattern.read.Goals as goal

pub returns-in_err-components : goal.returns-in_err-components
returns-in_err-components c =
    let component_of = λ (name : ComponentName). member_read component_read (name_text name) (view c.args.value.now) in
    let reason = c.in_err-components.field-0.0 in
    let (before, after, name, same, earlier, answers) = c.in_err-components.ensures.err in
    passed_on plain_pattern_view c.from_residual-in_err-components.result reason (pattern_read (view c.args.value.now)) c.from_residual-in_err-components.ensures.1
    (pattern_fails (view c.args.value.now) reason (read_each-fails component_of reason name (search rules)))

pub returns : goal.returns
returns c =
    let component_of = λ (name : ComponentName). member_read component_read (name_text name) (view c.args.value.now) in
    pattern_from (view c.args.value.now) (plain_pattern_view c.from_eight.result)
    (read_each-seen plain_component_view component_of c.in_ok-components.components (λ name. let read = c.in_ok-components.ensures.ok name in search rules)
    ∙ ap (λ components. Some (each (λ name. plain_component_view (at components name)))) (sym c.from_eight.ensures.components))
    (c.in_ok-has_regexp_groups.ensures ∙ ap (λ flag. Some flag) (sym c.from_eight.ensures.groups))
