use Rattle.std.proofs.Common.{◌∙◌, ◌∷◌, ap, sym}
use Rattle.std.specs.Str.{chars}
use Rattle.urlpattern_policy.proofs.SpellingLemmas.{has_capital, has_decoded, no_plainer}
use Rattle.urlpattern_policy.proofs.spelling.has_plainer.Goals as goal

pub returns-then-not-is_mark : goal.returns-then-not-is_mark
returns-then-not-is_mark c = sym (no_plainer c.args.joins c.args.first (chars c.args.rest.now) (sym c.is_mark.ensures ∙ c.if-not-is_mark.true))

pub returns-then-is_some : goal.returns-then-is_some
returns-then-is_some c =
    c.if-is_some.true
    ∙ sym (has_decoded c.args.joins c.args.first c.in-Some.second c.in-Some-split_first.third _ (chars c.args.rest.now) c.decoded.result
    (sym c.are_joined.ensures ∙ c.if-are_joined.false)
    (c.in-Some.ensures.cut ∙ ap (λ it. c.in-Some.second ∷ it) c.in-Some-split_first.ensures.cut)
    c.decoded.ensures
    (sym c.is_some.ensures ∙ c.if-is_some.true))

pub returns-else-is_some : goal.returns-else-is_some
returns-else-is_some c =
    c.has_small_digit.ensures
    ∙ sym (has_capital c.args.joins c.args.first c.in-Some.second c.in-Some-split_first.third _ (chars c.args.rest.now) c.decoded.result
    (sym c.are_joined.ensures ∙ c.if-are_joined.false)
    (c.in-Some.ensures.cut ∙ ap (λ it. c.in-Some.second ∷ it) c.in-Some-split_first.ensures.cut)
    c.decoded.ensures
    (sym c.is_some.ensures ∙ c.if-is_some.false))
