use Rattle.urlpattern_pattern.specs.Patterns.{pattern_view}
use Rattle.urlpattern_printing.proofs.OutcomeLemmas.{if_ok-map}
use Rattle.urlpattern_quirks.proofs.parsing.parse_pattern.Goals as goal

-- The plain value of the compiled pattern.
pub returns-clause-parsed : goal.returns-clause-parsed
returns-clause-parsed g c =
    if_ok-map _ _ c.plain_pattern.result
    (λ plain is_plain. (pattern_view c.in_ok-pattern.pattern, c.in_ok-pattern.ensures.compiled, is_plain))
    c.plain_pattern.ensures.plain
