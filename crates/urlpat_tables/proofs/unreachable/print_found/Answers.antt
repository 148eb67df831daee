use Rattle.std.proofs.Common.{ap₂, inl, inr, string_bytes, subst, sym, ◌∙◌}
use Rattle.std.specs.Io.KnownBytes.{Appends}
use Rattle.urlpat_tables.specs.Unreached.{found_status}
use Rattle.urlpat_tables.proofs.unreachable.print_found.Goals as goal
use Rattle.urlpat_tables.proofs.unreachable.print_found.Goals.{else-unknown, then-unknown}

pub returns-clause-answers : goal.returns-clause-answers
returns-clause-answers g c = λ answered. (
  string_bytes c.in-Ok.text,
  c.in-Ok.ensures,
  c.found_status.ensures.is ∙ ap₂ found_status c.any_never.ensures c.any_unknown-unknown.ensures,
  subst (Appends (g.Out.Write.contents c.args.out.now) (g.Out.Write.contents c.print.new.out)) c.as_bytes.ensures.value c.in-Ok-print.ensures,
)

pub returns-clause-quiet : goal.returns-clause-quiet
returns-clause-quiet g c = λ answered. elim c.if-unknown.branch [
  | then-unknown w ↦ inr (sym c.any_unknown-unknown.ensures ∙ w.if-unknown.true)
  | else-unknown w ↦ inl w.err-is
]
