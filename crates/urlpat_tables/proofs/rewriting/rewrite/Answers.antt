use Rattle.std.proofs.Common.{List, ap, option_copied, subst, ◌∙◌}
use Rattle.urlpat_matching.specs.Tables.{EntryView, entries_view, table_entries}
use Rattle.urlpat_tables.specs.RewriteRules.{AreRewriteRules}
use Rattle.urlpat_tables.proofs.rewriting.rewrite.Goals as goal

pub returns-clause-answers : goal.returns-clause-answers
returns-clause-answers g c = λ answered. (
  c.in-Some.table.items,
  c.in-Some-rewrite_rules.rules,
  c.in-Some.ensures.table,
  subst (λ (entries : List EntryView). AreRewriteRules c.args.flags.ignore_case (option_copied c.args.asked.lines.base) entries c.in-Some-rewrite_rules.rules)
      (ap entries_view c.deref-2.ensures.value ∙ c.in-Some-entries_or_report.ensures.entries ∙ ap table_entries c.deref.ensures.value) c.in-Some-rewrite_rules.ensures,
  c.answer_by.ensures.answers answered,
)
