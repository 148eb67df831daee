use Rattle.std.proofs.Common.{◌≡◌, subst}
use Rattle.std.specs.List.{list_any}
use Rattle.urlpattern_expressions.specs.SimpleExpressions.{is_custom_part}
use Rattle.urlpattern_compare.proofs.SameParts.{settled_by}
use Rattle.urlpattern_compare.proofs.component_coverage.is_case_kept_or_generated.Goals as goal

pub returns-else-not-component : goal.returns-else-not-component
returns-else-not-component c =
    settled_by c.args.component.now c.has_custom.result c.if-not-component.false
    (subst (λ parts. c.has_custom.result ≡ list_any is_custom_part parts) c.deref.ensures.value c.has_custom.ensures)
