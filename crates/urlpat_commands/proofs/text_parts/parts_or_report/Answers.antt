use Rattle.std.proofs.Common.{sym, ◌∙◌}
use Rattle.urlpat_commands.proofs.text_parts.parts_or_report.Goals as goal

pub returns-clause-parts : goal.returns-clause-parts
returns-clause-parts g c = (
  c.in_ok-pattern.pattern,
  c.in_ok-pattern.ensures.compiled,
  c.in_ok-pattern.ensures.kept,
  sym c.into_parts.ensures.parts ∙ c.in-Some.is,
)
