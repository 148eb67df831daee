use Rattle.std.proofs.Common.{subst, ◌∙◌}
use Rattle.std.specs.Io.KnownBytes.{Appends}
use Rattle.urlpat_commands.proofs.covers_command.print_decided.Goals as goal

pub returns-in-Ok-print-clause-answers : goal.returns-in-Ok-print-clause-answers
returns-in-Ok-print-clause-answers g c = λ answered. (
  c.parting_status.ensures.is,
  subst (Appends (g.Out.Write.contents c.args.out.now) (g.Out.Write.contents c.print.new.out)) (c.as_bytes.ensures.value ∙ c.in-Ok.ensures) c.in-Ok-print.ensures,
)
