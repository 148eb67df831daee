use Rattle.std.proofs.Common.{subst}
use Rattle.std.specs.Io.KnownBytes.{Appends}
use Rattle.urlpat_routes.proofs.reports.show.Goals as goal

pub returns-in-Ok-print-clause-shown : goal.returns-in-Ok-print-clause-shown
returns-in-Ok-print-clause-shown g c = λ answered. (
  c.in-Ok.text,
  c.in-Ok.is,
  subst (Appends (g.Out.Write.contents c.args.out.now) (g.Out.Write.contents c.print.new.out)) c.as_bytes-2.ensures.value c.in-Ok-print.ensures,
)
