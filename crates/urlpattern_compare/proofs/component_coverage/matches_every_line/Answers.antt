use Rattle.urlpattern_compare.proofs.AnswerLemmas.{in_some}
use Rattle.urlpattern_compare.proofs.ComponentLemmas.{unknown_missed}
use Rattle.urlpattern_compare.specs.Comparing.{IsUnknownBy}
use Rattle.urlpattern_compare.proofs.component_coverage.matches_every_line.Goals as goal

pub returns-in-Some : goal.returns-in-Some
returns-in-Some c =
    let component = c.args.component.now in
    unknown_missed component c.in-Some.field-0 (in_some (IsUnknownBy component) c.in_ok-unknown.field-0 c.in-Some.field-0 c.in-Some.is c.in_ok-unknown.ensures.reason)
