use Rattle.std.proofs.Common.{◌++◌, sym, ap, ◌∙◌, rules}
use Rattle.std.specs.Char.{IsScalar, encode_utf8}
use Rattle.urlpattern_steps.proofs.text_cuts.without_last.Goals as goal

pub returns-clause-cut : goal.returns-clause-cut
returns-clause-cut c =
    let scalar : IsScalar c.in-Some.field-0 = search rules in
    (c.in-Some.field-0, scalar, sym c.chars-characters.ensures.rest ∙ c.in-Some.ensures.steps ∙ ap (λ t. t ++ encode_utf8 c.in-Some.field-0) (sym c.as_str.ensures))
