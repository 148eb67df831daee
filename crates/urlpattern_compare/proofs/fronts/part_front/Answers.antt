use Rattle.std.proofs.Common.{◌∙◌, sym}
use Rattle.urlpattern_compare.proofs.FrontLemmas.{missing_front}
use Rattle.urlpattern_compare.proofs.fronts.part_front.Goals as goal
use Rattle.urlpattern_syntax.specs.Parts.{part_view}

pub returns-then-may_miss : goal.returns-then-may_miss
returns-then-may_miss c = missing_front (part_view c.args.part.now) (sym c.may_miss.ensures ∙ c.if-may_miss.true)
