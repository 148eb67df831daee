use Rattle.std.proofs.Common.{refl, subst}
use Rattle.std.specs.Io.KnownBytes.{Appends}
use Rattle.urlpat_explain.proofs.explaining.explain.Goals as goal

pub returns-in-Ok-print-clause-answers : goal.returns-in-Ok-print-clause-answers
returns-in-Ok-print-clause-answers g c = λ answered. (
  c.in-Ok.found,
  c.in-Ok.ensures.text,
  refl,
  subst (Appends (g.Out.Write.contents c.args.out.now) (g.Out.Write.contents c.print.new.out)) c.as_bytes.ensures.value c.in-Ok-print.ensures,
)
