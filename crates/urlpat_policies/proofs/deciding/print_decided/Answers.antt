use Rattle.std.proofs.Common.{◌∙◌, Bool, ap, string_bytes, subst}
use Rattle.std.specs.Io.KnownBytes.{Appends}
use Rattle.std.specs.Prelude.{not}
use Rattle.urlpat_matching.specs.Status.{status_of}
use Rattle.urlpat_policies.proofs.deciding.print_decided.Goals as goal

pub returns-in-Ok-print-clause-answers : goal.returns-in-Ok-print-clause-answers
returns-in-Ok-print-clause-answers g c = λ answered. (
  string_bytes c.in-Ok.text,
  c.in-Ok.ensures,
  c.status_of.ensures.is ∙ ap (λ (is : Bool). status_of (not is)) c.any_denied.ensures,
  subst (Appends (g.Out.Write.contents c.args.out.now) (g.Out.Write.contents c.print.new.out)) c.as_bytes.ensures.value c.in-Ok-print.ensures,
)
