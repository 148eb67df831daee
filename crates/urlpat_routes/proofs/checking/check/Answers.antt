use Rattle.std.proofs.Common.{inl, inr, refl}
use Rattle.urlpat_routes.proofs.RouteLemmas.{shows}
use Rattle.urlpat_routes.proofs.checking.check.Goals as goal

pub returns-in-Ok-clause-answers : goal.returns-in-Ok-clause-answers
returns-in-Ok-clause-answers g c = λ answered. inr (c.in-Ok.rules, rw c.in-Ok.is at c.in-Some.ensures.routes, c.check_rules-status.ensures.answers answered)

pub returns-in-Err-clause-answers : goal.returns-in-Err-clause-answers
returns-in-Err-clause-answers g c = λ answered. inl (
  c.in-Err.refusal,
  rw c.in-Err.is at c.in-Some.ensures.routes,
  shows (g.P.RoutePrinter.PrintsRefusal c.args.printer.now c.args.json c.in-Err.refusal) c.print_refusal-printed.result 1 1 c.show.result
      (g.Out.Write.contents c.args.out.now) (g.Out.Write.contents c.show.new.out) c.print_refusal-printed.ensures refl c.show.ensures.either answered (c.show.ensures.shown answered),
)
