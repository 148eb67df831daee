use Rattle.std.proofs.Common.{string_bytes, subst}
use Rattle.std.specs.Io.KnownBytes.{Appends}
use Rattle.urlpat_policies.proofs.comparing.print_compared.Goals as goal

pub returns-in-Ok-print-clause-answers : goal.returns-in-Ok-print-clause-answers
returns-in-Ok-print-clause-answers g c = λ answered. (
  string_bytes c.in-Ok.text,
  c.in-Ok.ensures,
  c.difference_status-status.ensures.is,
  subst (Appends (g.Out.Write.contents c.args.out.now) (g.Out.Write.contents c.print.new.out)) c.as_bytes-2.ensures.value c.in-Ok-print.ensures,
)
