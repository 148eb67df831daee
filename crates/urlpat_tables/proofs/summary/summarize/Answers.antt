use Rattle.std.proofs.Common.{List, Some, string_bytes, subst, ℕ}
use Rattle.std.specs.Io.KnownBytes.{Appends}
use Rattle.urlpat_matching.specs.LineLabels.{name_label}
use Rattle.urlpat_matching.specs.Tables.{entries_view}
use Rattle.urlpat_tables.specs.Summaries.{IsSummary, unlabelled}
use Rattle.urlpat_tables.specs.TableRoutes.{RoutesTo}
use Rattle.urlpat_tables.specs.declared.row.RowShape.TheVariants.{Number}
use Rattle.urlpat_tables.proofs.summary.summarize.Goals as goal

pub returns-in-Ok-print-clause-answers : goal.returns-in-Ok-print-clause-answers
returns-in-Ok-print-clause-answers g c = λ answered.
    let numbers = c.answer_by-status.new.out.items in
    let input = g.In.Read.remaining c.args.input.now in (
      numbers,
      string_bytes c.in-Ok.text,
      subst (λ (old : List ℕ). RoutesTo Number c.args.routes.now (unlabelled c.args.asked) c.answer_by-status.result input (Some old) (Some numbers)) c.new-numbers.ensures.items
          (c.answer_by-status.ensures.answers answered),
      subst (λ (bytes : List ℕ). IsSummary (name_label c.args.asked.style) c.args.bars (entries_view c.args.entries.now) bytes (string_bytes c.in-Ok.text)) c.deref.ensures.value c.in-Ok.ensures,
      subst (Appends (g.Out.Write.contents c.args.out.now) (g.Out.Write.contents c.print.new.out)) c.as_bytes.ensures.value c.in-Ok-print.ensures,
    )
