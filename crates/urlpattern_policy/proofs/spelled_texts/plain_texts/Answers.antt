use Rattle.std.proofs.Common.{◌∙◌, ap, sym}
use Rattle.urlpattern_matches.specs.GroupTexts.{borrowed_texts}
use Rattle.urlpattern_components.proofs.EightLemmas.{at-each, same_values}
use Rattle.urlpattern_components.specs.Eight.{at, each}
use Rattle.urlpattern_policy.specs.Spellings.{plain_of, plain_texts}
use Rattle.urlpattern_syntax.specs.Text.{text_of}
use Rattle.urlpattern_policy.proofs.spelled_texts.plain_texts.Goals as goal

pub returns : goal.returns
returns c =
    let texts = borrowed_texts c.args.texts.now in
    ap (λ texts. each (λ name. text_of (at texts name))) c.from_eight.ensures
    ∙ same_values _ (plain_texts texts) (λ name.
    at-each (λ other. text_of (at c.in_ok-try_from_fn.field-0 other)) name
    ∙ (c.in_ok-try_from_fn.ensures.ok name).1
    ∙ sym (at-each (λ other. plain_of other (at texts other)) name))
