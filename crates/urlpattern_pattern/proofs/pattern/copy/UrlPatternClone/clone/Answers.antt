use Rattle.std.proofs.Common.{◌∙◌, ◌≡◌, ap, subst, sym}
use Rattle.std.specs.Prelude.{IfSome, IsSomeAnd, MatchOption, None, Option}
use Rattle.urlpattern_compare.specs.EqualParts.{AreEqualParts}
use Rattle.urlpattern_compare.specs.declared.pattern_parts.PatternParts.{PatternParts}
use Rattle.urlpattern_compile.specs.PatternViews.{eight_view}
use Rattle.urlpattern_components.specs.declared.eight.Eight.{Eight}
use Rattle.urlpattern_matcher.specs.declared.component.Component.{Component}
use Rattle.urlpattern_pattern.proofs.CopyLemmas.{copy_made}
use Rattle.urlpattern_pattern.specs.Patterns.{pattern_view}
use Rattle.urlpattern_pattern.specs.ReadBack.{HasEqualParts}
use Rattle.urlpattern_pattern.specs.UrlPatterns.{AreMadeOfParts}
use Rattle.urlpattern_pattern.proofs.pattern.copy.UrlPatternClone.clone.Goals as goal

pub with_parts-requires : goal.with_parts-requires
with_parts-requires g c =
    let own = pattern_view c.args.self.now in
    copy_made g.R.RegExp c.in-Some.parts.now c.in_ok-copy-in-Some.copy own (eight_view c.in_ok-components.components) c.in_ok-copy-in-Some.ensures
    (λ name. (c.in_ok-components.ensures.ok name).1)
    (subst (λ (found : Option PatternParts). IfSome found (λ parts. AreMadeOfParts g.R.RegExp parts own)) (sym c.in-Some.ensures.parts) c.in-Some.ensures.made)

pub returns-in_ok-copy-in-Some : goal.returns-in_ok-copy-in-Some
returns-in_ok-copy-in-Some g c =
    let copy = c.with_parts.result in
    let equal : HasEqualParts c.in-Some.parts.now copy =
    subst (λ (found : Option PatternParts). IsSomeAnd found (AreEqualParts c.in-Some.parts.now)) (sym c.with_parts.ensures.parts) c.in_ok-copy-in-Some.ensures in
    record {
      cases = record {
        components = λ name.
            ap (λ (components : Eight (Component g.row.R.Denot)). eight_view components name) c.with_parts.ensures.components
            ∙ (c.in_ok-components.ensures.ok name).1;
        parts = subst (λ (found : Option PatternParts). MatchOption found (copy.parts ≡ None) (λ parts. HasEqualParts parts copy)) c.in-Some.ensures.parts equal;
      };
    }

pub returns-in-None : goal.returns-in-None
returns-in-None g c =
    let copy = c.from_eight.result in
    record {
      cases = record {
        components = λ name.
            ap (λ (components : Eight (Component g.row.R.Denot)). eight_view components name) c.from_eight.ensures.components
            ∙ (c.in_ok-components.ensures.ok name).1;
        parts = subst (λ (found : Option PatternParts). MatchOption found (copy.parts ≡ None) (λ parts. HasEqualParts parts copy)) c.in-None.ensures.parts c.from_eight.ensures.parts;
      };
    }
