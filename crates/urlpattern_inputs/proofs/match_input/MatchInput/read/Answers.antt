use Rattle.std.proofs.Common.{sym, ap, rules, Some, string_bytes, ◌∙◌}
use Rattle.serde_json.specs.View.{view}
use Rattle.urlpattern_inputs.specs.InputValues.{match_input_view}
use Rattle.urlpattern_inputs.specs.Trees.{read_each, text_read}
use Rattle.urlpattern_inputs.proofs.EachLemmas.{passed_on, read_each-fails, read_each-seen}
use Rattle.urlpattern_components.specs.Eight.{at, each, name_text}
use Rattle.urlpattern_components.specs.declared.eight.ComponentName.{ComponentName}
use Rattle.urlpattern_inputs.proofs.match_input.MatchInput.read.Goals as goal

pub returns-in_err-texts : goal.returns-in_err-texts
returns-in_err-texts c =
    let text_of = λ (name : ComponentName). text_read (name_text name) (view c.args.value.now) in
    let reason = c.in_err-texts.field-0.0 in
    let (before, after, name, same, earlier, answers) = c.in_err-texts.ensures.err in
    passed_on match_input_view c.from_residual.result reason (read_each text_of) c.from_residual.ensures.1 (read_each-fails text_of reason name (search rules))

pub returns : goal.returns
returns c =
    read_each-seen string_bytes (λ name. text_read (name_text name) (view c.args.value.now)) c.in_ok-texts.texts (λ name. let read = c.in_ok-texts.ensures.ok name in search rules)
    ∙ ap (λ texts. Some (each (λ name. string_bytes (at texts name)))) (sym c.from_eight.ensures)
