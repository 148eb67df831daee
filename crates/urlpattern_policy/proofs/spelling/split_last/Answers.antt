use Rattle.std.proofs.Common.{◌≡◌, ◌++◌, ◌∙◌, ap, encode_utf8, length, rules, sym}
use Rattle.urlpattern_syntax.proofs.TextLemmas.{chars-empty}
use Rattle.urlpattern_policy.proofs.SpellingLemmas.{chars-last, if_none}
use Rattle.urlpattern_policy.proofs.spelling.split_last.Goals as goal

pub returns-in_err-last-clause-empty : goal.returns-in_err-last-clause-empty
returns-in_err-last-clause-empty c =
    if_none c.from_residual.result (chars-empty c.args.text.now (ap length (sym c.chars-characters.ensures.rest) ∙ c.in_err-last.ensures.steps.0))

pub returns-clause-cut : goal.returns-clause-cut
returns-clause-cut c =
    let cut : c.args.text.now ≡ c.as_str.result.now ++ encode_utf8 c.in_ok-last.last =
    sym c.chars-characters.ensures.rest ∙ c.in_ok-last.ensures.steps ∙ ap (λ it. it ++ encode_utf8 c.in_ok-last.last) (sym c.as_str.ensures)
    in
    chars-last c.args.text.now c.as_str.result.now c.in_ok-last.last c.as_str.utf8 (search rules) cut
