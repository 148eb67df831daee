use Rattle.std.proofs.Common.{List, ap, subst, sym, ℕ, ◌∙◌}
use Rattle.std.proofs.lemmas.Result.{IfOk-weaker}
use Rattle.std.specs.Borrow.{Bor}
use Rattle.std.specs.Str.{chars}
use Rattle.urlpattern_components.proofs.EightLemmas.{at-each}
use Rattle.urlpattern_components.specs.Eight.{at}
use Rattle.urlpattern_engine.specs.PatternRegexps.{pattern_result}
use Rattle.urlpattern_engine.specs.declared.pattern_regexp.PatternRegexp.{PatternRegexp}
use Rattle.urlpattern_matcher.specs.Components.{component_view}
use Rattle.urlpattern_matcher.specs.declared.component.Component.{Component}
use Rattle.urlpattern_meaning.specs.CaptureTexts.{captures_view}
use Rattle.urlpattern_meaning.specs.Matching.{Returns}
use Rattle.urlpattern_pattern.specs.Patterns.{pattern_view}
use Rattle.urlpat_explain.proofs.outcome.component_captures.Goals as goal

pub returns : goal.returns
returns c =
    let pattern = pattern_view c.args.pattern.now in
    let lent = c.args.texts.now in
    let name = c.args.name in
    IfOk-weaker c.matches.result _ _ (λ captures is.
    let by_component = subst (λ (component : Component PatternRegexp). Returns pattern_result (component_view component).matcher (chars c.get-2.result.now.now) (captures_view captures)) c.get.ensures is in
    subst (λ (text : List ℕ). Returns pattern_result (pattern name).matcher text (captures_view captures))
    (ap (λ (text : Bor (List ℕ)). chars text.now) c.get-2.ensures ∙ sym (at-each (λ other. chars (at lent other).now) name)) by_component)
    c.matches.ensures.answer
