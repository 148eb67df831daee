use Rattle.std.proofs.Common.{List, subst, take_all}
use Rattle.std.proofs.lemmas.List.Elements.{All-nil}
use Rattle.std.specs.Prelude.{All}
use Rattle.urlpattern.proofs.ListedParts.{HasParts, has_none, has_parts, have_more, lacks_parts}
use Rattle.urlpattern_pattern.specs.UrlPatterns.{UrlPattern}
use Rattle.urlpattern.proofs.list.unreached.error_without_memory.Goals as goal

pub loop-pattern-init : goal.loop-pattern-init
loop-pattern-init g c = All-nil (λ (pattern : UrlPattern g.row.R.Denot). HasParts pattern)

pub loop-pattern-preserved : goal.loop-pattern-preserved
loop-pattern-preserved g c =
    have_more g.R.RegExp c.args.patterns.now c.loop-pattern.pattern-index c.pattern-item.result c.loop-pattern-test.true c.pattern-item.is c.loop-pattern.invariant
    (has_parts c.parts.result c.is_none.result _ c.parts.ensures.parts c.is_none.ensures c.if-is_none.false)

pub returns-then-is_none : goal.returns-then-is_none
returns-then-is_none g c =
    has_none g.R.RegExp c.args.patterns.now c.loop-pattern.pattern-index c.pattern-item.result c.loop-pattern-test.true c.pattern-item.is
    (lacks_parts c.parts.result c.is_none.result _ c.parts.ensures.parts c.is_none.ensures c.if-is_none.true)

pub returns : goal.returns
returns g c =
    subst (λ (patterns : List (UrlPattern g.row.R.Denot)). All HasParts patterns)
    (take_all c.loop-pattern.pattern-index c.args.patterns.now c.loop-pattern-test.false) c.loop-pattern.invariant
