use Rattle.std.proofs.Common.{List, subst, sym, take, take_all, ◌+◌}
use Rattle.std.proofs.lemmas.List.Elements.{all_zip_more}
use Rattle.std.specs.List.{AllZip}
use Rattle.urlpattern_pattern.specs.PatternCopies.{IsPatternCopy}
use Rattle.urlpattern_pattern.specs.UrlPatterns.{UrlPattern}
use Rattle.urlpattern.proofs.list.copy.copies_of.Goals as goal

pub loop-pattern-preserved : goal.loop-pattern-preserved
loop-pattern-preserved g c =
    let patterns = c.args.patterns.now in
    let i = c.loop-pattern.pattern-index in
    subst (λ (copies : List (UrlPattern g.row.R.Denot)). AllZip IsPatternCopy (take (i + 1) patterns) copies) (sym c.in-Ok.ensures.appended)
    (all_zip_more IsPatternCopy patterns c.loop-pattern.copies i c.pattern-item.result c.in_ok-clone.field-0 c.loop-pattern-test.true c.pattern-item.is c.loop-pattern.invariant c.in_ok-clone.ensures.cases)

pub returns : goal.returns
returns g c =
    subst (λ (patterns : List (UrlPattern g.row.R.Denot)). AllZip IsPatternCopy patterns c.loop-pattern.copies)
    (take_all c.loop-pattern.pattern-index c.args.patterns.now c.loop-pattern-test.false) c.loop-pattern.invariant
