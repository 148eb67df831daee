use Rattle.std.proofs.Common.{◌∙◌, refl, sym}
use Rattle.urlpattern_expressions.proofs.SimpleLemmas.{none_custom, some_custom}
use Rattle.urlpattern_compare.proofs.known_parts.reason_of_ignored_case.Goals as goal

pub returns-then-has_custom-clause-custom : goal.returns-then-has_custom-clause-custom
returns-then-has_custom-clause-custom c = (some_custom c.args.parts.now (sym c.has_custom.ensures ∙ c.if-has_custom.true), refl)

pub returns-else-has_custom-clause-known : goal.returns-else-has_custom-clause-known
returns-else-has_custom-clause-known c = none_custom c.args.parts.now (sym c.has_custom.ensures ∙ c.if-has_custom.false)
