use Rattle.std.proofs.Common.{◌∙◌, sym}
use Rattle.urlpattern_expressions.proofs.SimpleLemmas.{kind_custom, kind_other}
use Rattle.urlpattern_compare.proofs.MakingLemmas.{custom_missed, custom_result, plain_missed, plain_result}
use Rattle.urlpattern_compare.specs.Making.{made_view}
use Rattle.urlpattern_syntax.specs.{Options.options_view, Parts.part_view}
use Rattle.urlpattern_compare.proofs.parts_automaton.PartsAutomaton.add_part.Goals as goal

pub add_custom-requires : goal.add_custom-requires
add_custom-requires c = kind_custom c.args.part.now.kind (sym c.is_custom.ensures ∙ c.if-is_custom.true)

pub add_plain-requires : goal.add_plain-requires
add_plain-requires c = kind_other c.args.part.now.kind (sym c.is_custom.ensures ∙ c.if-is_custom.false)

pub returns-then-is_custom-clause-added : goal.returns-then-is_custom-clause-added
returns-then-is_custom-clause-added c =
    custom_result (options_view c.args.options.now) (part_view c.args.part.now) (made_view c.args.self.now) _ c.add_custom.result (kind_custom c.args.part.now.kind (sym c.is_custom.ensures ∙ c.if-is_custom.true)) c.add_custom.ensures

pub returns-then-is_custom-clause-many : goal.returns-then-is_custom-clause-many
returns-then-is_custom-clause-many c =
    custom_missed (part_view c.args.part.now) _ c.add_custom.result (kind_custom c.args.part.now.kind (sym c.is_custom.ensures ∙ c.if-is_custom.true))

pub returns-else-is_custom-clause-added : goal.returns-else-is_custom-clause-added
returns-else-is_custom-clause-added c =
    plain_result (options_view c.args.options.now) (part_view c.args.part.now) (made_view c.args.self.now) _ c.add_plain.result (kind_other c.args.part.now.kind (sym c.is_custom.ensures ∙ c.if-is_custom.false)) c.add_plain.ensures.added

pub returns-else-is_custom-clause-many : goal.returns-else-is_custom-clause-many
returns-else-is_custom-clause-many c = plain_missed (part_view c.args.part.now) _ c.add_plain.result c.add_plain.ensures.many
