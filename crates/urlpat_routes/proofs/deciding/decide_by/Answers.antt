use Rattle.std.proofs.Common.{◌∙◌, ap}
use Rattle.std.specs.Prelude.{is_some}
use Rattle.urlpat_matching.specs.Status.{status_of}
use Rattle.urlpat_routes.proofs.RouteLemmas.{shows}
use Rattle.urlpat_routes.proofs.deciding.decide_by.Goals as goal

pub returns-clause-answers : goal.returns-clause-answers
returns-clause-answers g c = λ answered. (
  c.in-Ok.decided,
  c.in-Ok.ensures.first,
  shows (g.P.RoutePrinter.PrintsDecision c.args.printer.now c.args.json c.in-Ok.decided) c.print_decision-printed.result c.status_of.result (status_of (is_some c.in-Ok.decided)) c.show.result
      (g.Out.Write.contents c.args.out.now) (g.Out.Write.contents c.show.new.out) c.print_decision-printed.ensures (c.status_of.ensures.is ∙ ap status_of c.is_some.ensures) c.show.ensures.either answered (c.show.ensures.shown answered),
)
