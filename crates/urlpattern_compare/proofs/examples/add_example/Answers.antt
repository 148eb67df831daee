use Rattle.std.proofs.Common.{◌∙◌, sym}
use Rattle.urlpattern_expressions.proofs.SimpleLemmas.{kind_other}
use Rattle.urlpattern_compare.proofs.ExampleLemmas.{copy_added, none_added}
use Rattle.urlpattern_compare.proofs.examples.add_example.Goals as goal
use Rattle.urlpattern_syntax.specs.Parts.{part_view}

pub returns-then-may_miss : goal.returns-then-may_miss
returns-then-may_miss c = λ yes options segment. none_added options (part_view c.args.part.now) c.args.text.now.items (sym c.may_miss.ensures ∙ c.if-may_miss.true)

pub returns : goal.returns
returns c = λ yes options segment.
    copy_added options (part_view c.args.part.now) c.args.segment c.args.text.now.items _ segment
    (kind_other c.args.part.now.kind (sym c.is_custom.ensures ∙ c.if-is_custom.false)) (sym c.may_miss.ensures ∙ c.if-may_miss.false) c.in_ok-add_copy.ensures
