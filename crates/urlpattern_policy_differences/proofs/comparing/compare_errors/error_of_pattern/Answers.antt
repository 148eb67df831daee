use Rattle.std.proofs.Common.{[]}
use Rattle.std.proofs.lemmas.List.Elements.{All-cons, All-nil}
use Rattle.urlpattern.proofs.ListedParts.{HasParts, has_parts, lacks_parts}
use Rattle.urlpattern_policy_differences.proofs.ComparingLemmas.{alone_lacks}
use Rattle.urlpattern_pattern.specs.UrlPatterns.{UrlPattern}
use Rattle.urlpattern_policy_differences.proofs.comparing.compare_errors.error_of_pattern.Goals as goal

pub returns-then-is_none : goal.returns-then-is_none
returns-then-is_none g c = alone_lacks c.args.pattern.now (lacks_parts c.parts.result c.is_none.result _ c.parts.ensures.parts c.is_none.ensures c.if-is_none.true)

pub returns-else-is_none : goal.returns-else-is_none
returns-else-is_none g c =
    All-cons (λ (pattern : UrlPattern g.row.R.Denot). HasParts pattern) c.args.pattern.now [] (has_parts c.parts.result c.is_none.result _ c.parts.ensures.parts c.is_none.ensures c.if-is_none.false)
    (All-nil (λ (pattern : UrlPattern g.row.R.Denot). HasParts pattern))
