use Rattle.std.proofs.Common.{◌∙◌, subst, sym}
use Rattle.std.specs.List.{Contains}
use Rattle.urlpattern_compare.proofs.CharacterClasses.{among_contains}
use Rattle.urlpattern_compare.proofs.classes.add_mark.Goals as goal

pub returns-else-not-is_among-clause-added : goal.returns-else-not-is_among-clause-added
returns-else-not-is_among-clause-added c = subst (λ l. Contains l c.args.c) c.deref.ensures.value (among_contains c.deref.result.now c.args.c (sym c.is_among.ensures ∙ c.if-not-is_among.false))
