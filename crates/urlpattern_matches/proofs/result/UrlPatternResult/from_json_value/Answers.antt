use Rattle.std.proofs.Common.{sym, ap, rules, subst, Some, ◌∙◌}
use Rattle.serde_json.specs.View.{view}
use Rattle.urlpattern_inputs.specs.ReadResults.{IsUnread}
use Rattle.urlpattern_inputs.specs.Trees.{member_read}
use Rattle.urlpattern_inputs.specs.declared.json_reading.Unread.{Unread}
use Rattle.urlpattern_inputs.proofs.EachLemmas.{read_each-none, read_each-seen}
use Rattle.urlpattern_matches.specs.ResultJson.{component_result_read, plain_result_view}
use Rattle.urlpattern_components.specs.Eight.{at, each, name_text}
use Rattle.urlpattern_components.specs.declared.eight.ComponentName.{ComponentName}
use Rattle.urlpattern_matches.proofs.result.UrlPatternResult.from_json_value.Goals as goal

pub returns-in-Ok-clause-read : goal.returns-in-Ok-clause-read
returns-in-Ok-clause-read c =
    sym (read_each-seen plain_result_view (λ name. member_read component_result_read (name_text name) (view c.args.value.now)) c.in-Ok.components
    (λ name. let read = c.in-Ok.ensures.ok name in search rules)
    ∙ ap (λ components. Some (each (λ name. plain_result_view (at components name)))) (sym c.from_eight.ensures))

pub returns-in-Err-Shape-clause-read : goal.returns-in-Err-Shape-clause-read
returns-in-Err-Shape-clause-read c =
    let component_of = λ (name : ComponentName). member_read component_result_read (name_text name) (view c.args.value.now) in
    let (before, after, name, same, earlier, failed) = c.in-Err-Shape.ensures.err in
    let unread : IsUnread c.in-Err-Shape.field-0 (component_of name) = search rules in
    sym (read_each-none component_of name (subst (λ (reason : Unread). IsUnread reason (component_of name)) c.in-Err-Shape.field-0-is unread))
