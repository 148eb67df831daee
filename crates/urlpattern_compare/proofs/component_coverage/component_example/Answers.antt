use Rattle.urlpattern_compare.proofs.AnswerLemmas.{in_some}
use Rattle.urlpattern_compare.proofs.ComponentLemmas.{alone_unknown}
use Rattle.urlpattern_compare.specs.Comparing.{IsUnknownBy}
use Rattle.urlpattern_compare.proofs.component_coverage.component_example.Goals as goal

pub returns-in-Some : goal.returns-in-Some
returns-in-Some c =
    let component = c.args.component.now in
    alone_unknown component c.in-Some.reason (in_some (IsUnknownBy component) c.in_ok-unknown.field-0 c.in-Some.reason c.in-Some.is c.in_ok-unknown.ensures.reason)
