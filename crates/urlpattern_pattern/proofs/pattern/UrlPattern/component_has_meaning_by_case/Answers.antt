use Rattle.std.proofs.Common.{◌↔◌, Option, IfOk, IsTrue, subst}
use Rattle.std.specs.Prelude.{IsSomeAnd}
use Rattle.urlpattern_compare.specs.declared.pattern_parts.PatternParts.{PatternParts}
use Rattle.urlpattern_components.specs.Eight.{at}
use Rattle.urlpattern_expressions.specs.SimpleExpressions.{KeepsMeaningByCase}
use Rattle.urlpattern_pattern.proofs.pattern.UrlPattern.component_has_meaning_by_case.Goals as goal
use Rattle.urlpattern_syntax.specs.declared.parts.ComponentParts.{ComponentParts}

pub returns-in-Some : goal.returns-in-Some
returns-in-Some g c =
    subst (λ (kept : Option PatternParts). IfOk c.has_meaning_by_case.result (λ has. IsTrue has ↔ IsSomeAnd kept (λ parts. KeepsMeaningByCase (at parts.components c.args.component)))) c.in-Some.ensures.parts
    (subst (λ (component : ComponentParts). IfOk c.has_meaning_by_case.result (λ has. IsTrue has ↔ KeepsMeaningByCase component)) c.get.ensures c.has_meaning_by_case.ensures)
