use Rattle.std.proofs.Common.{subst, sym, zip, ◌∙◌}
use Rattle.std.proofs.lemmas.List.Elements.{length_all_zip}
use Rattle.std.specs.List.{AllZip}
use Rattle.urlpattern.proofs.PatternMapLemmas.{pairs-both}
use Rattle.urlpattern.specs.Copies.{IsEntryCopy}
use Rattle.urlpattern_pattern.specs.PatternCopies.{IsPatternCopy}
use Rattle.urlpattern.proofs.map.copy.UrlPatternMapClone.clone.Goals as goal

pub invariant_of-result : goal.invariant_of-result
invariant_of-result g c =
    sym (length_all_zip g.T.Clone.is_clone c.self.inside.values.items c.in_ok-values.values.items c.in_ok-values.ensures.cases.0) ∙ c.self.invariant
    ∙ length_all_zip IsPatternCopy c.self.inside.patterns c.in_ok-patterns.patterns c.in_ok-patterns.ensures.cases

pub returns : goal.returns
returns g c = record {
  cases = subst (λ entries. AllZip (IsEntryCopy g.T.Clone.is_clone) entries (zip c.in_ok-patterns.patterns c.in_ok-values.values.items)) c.self.view_is
      (pairs-both IsPatternCopy g.T.Clone.is_clone c.self.inside.patterns c.in_ok-patterns.patterns c.self.inside.values.items c.in_ok-values.values.items
      c.in_ok-patterns.ensures.cases c.in_ok-values.ensures.cases.0);
}
