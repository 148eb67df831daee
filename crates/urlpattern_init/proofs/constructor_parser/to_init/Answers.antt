use Rattle.std.proofs.Common.{◌∙◌, option_map}
use Rattle.std.proofs.lemmas.Result.{err_from_is_err_and}
use Rattle.urlpattern_components.proofs.EightLemmas.{at-each, same_values}
use Rattle.urlpattern_components.specs.Eight.{at}
use Rattle.urlpattern_syntax.specs.Text.{text_of}
use Rattle.urlpattern_constructor.specs.Splitting.{split_texts, values_of_split}
use Rattle.urlpattern_init.proofs.constructor_parser.to_init.Goals as goal

pub returns-in_err-values-clause-memory : goal.returns-in_err-values-clause-memory
returns-in_err-values-clause-memory c =
    let p = err_from_is_err_and c.from_residual.result c.from_residual.ensures.1 in
    rw (p.1, p.2) c.in_err-values.ensures.err.5.1.memory

pub returns-clause-components : goal.returns-clause-components
returns-clause-components c =
    c.from_eight.ensures.texts
    ∙ same_values _ (values_of_split (split_texts c.args.split.now)) (λ name.
    at-each (λ other. option_map text_of (at c.in_ok-values.values other)) name ∙ (c.in_ok-values.ensures.ok name).1.ok)
