use Rattle.std.proofs.Common.{ap, sym, subst, ◌∙◌, length, map}
use Rattle.std.proofs.lemmas.List.{length-map}
use Rattle.urlpattern_meaning.specs.Dialect.{HasMeaningOf}
use Rattle.urlpattern_meaning.proofs.CaptureCount.{captures_counted}
use Rattle.urlpattern_meaning.proofs.OneMeaning.{one_meaning}
use Rattle.urlpattern_syntax.specs.Options.{options_view}
use Rattle.urlpattern_syntax.specs.Parts.{part_view}
use Rattle.urlpattern_syntax.specs.Text.{text_of}
use Rattle.urlpattern_printing.proofs.names.generate_regular_expression_and_name_list.Goals as goal

pub returns-clause-meaning : goal.returns-clause-meaning
returns-clause-meaning c = λ h.
    let options = options_view c.args.options.now in
    let parts = map part_view c.args.part_list.now in
    subst (λ t. HasMeaningOf t options parts) (sym c.in_ok-text.ensures) (one_meaning options parts h)

pub returns-clause-captures : goal.returns-clause-captures
returns-clause-captures c = λ text captures means.
    captures_counted (options_view c.args.options.now) (map part_view c.args.part_list.now) text captures means
    ∙ sym (ap (λ xs. length xs) c.in_ok-names.ensures) ∙ length-map c.in_ok-names.names.items (λ name. text_of name)
