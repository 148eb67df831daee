use Rattle.std.proofs.Common.{map}
use Rattle.urlpat_routes.proofs.RouteLemmas.{shows}
use Rattle.urlpat_routes.specs.RouteCommands.{difference_status}
use Rattle.urlpat_routes.proofs.comparing.diff_rules.Goals as goal

pub returns-in-Ok-clause-answers : goal.returns-in-Ok-clause-answers
returns-in-Ok-clause-answers g c = λ answered. (
  c.in-Ok.found,
  c.in-Ok.ensures.are,
  shows (g.P.RoutePrinter.PrintsDifference c.args.printer.now c.args.json (map (λ rule. rule.value) c.args.old.now.table.rules.items) (map (λ rule. rule.value) c.args.new.now.table.rules.items) c.in-Ok.found)
      c.print_difference-printed.result c.difference_status-status.result (difference_status c.in-Ok.found) c.show.result (g.Out.Write.contents c.args.out.now) (g.Out.Write.contents c.show.new.out)
      c.print_difference-printed.ensures c.difference_status-status.ensures.is c.show.ensures.either answered (c.show.ensures.shown answered),
)
