use Rattle.std.proofs.Common.{List, ap, inl, inr, option_copied, subst, ◌∙◌}
use Rattle.urlpat_matching.specs.Tables.{EntryView, entries_view, table_entries}
use Rattle.urlpat_tables.specs.Unreached.{IsReachOf}
use Rattle.urlpat_tables.proofs.unreachable.list_unreachable.Goals as goal

pub returns-clause-answers : goal.returns-clause-answers
returns-clause-answers g c = λ answered.
    let read = c.in-Some-entries_or_report.ensures.entries ∙ ap table_entries c.deref.ensures.value in (
      c.in-Some.table.items,
      c.in-Some-reached.found,
      c.in-Some.ensures.table,
      subst (λ (entries : List EntryView). IsReachOf c.args.flags.ignore_case (option_copied c.args.asked.base) entries c.in-Some-reached.found)
          (ap entries_view c.deref-2.ensures.value ∙ read) c.in-Some-reached.ensures.found,
      c.print_found.ensures.answers answered,
    )

pub returns-clause-quiet : goal.returns-clause-quiet
returns-clause-quiet g c = λ answered. elim (c.print_found.ensures.quiet answered) [
  | inl same ↦ inl (same ∙ c.in-Some-reached.ensures.quiet ∙ c.in-Some-entries_or_report.ensures.quiet ∙ c.in-Some.ensures.quiet)
  | inr has ↦
      let read = c.in-Some-entries_or_report.ensures.entries ∙ ap table_entries c.deref.ensures.value in
      inr (
        c.in-Some.table.items,
        c.in-Some-reached.found,
        c.in-Some.ensures.table,
        subst (λ (entries : List EntryView). IsReachOf c.args.flags.ignore_case (option_copied c.args.asked.base) entries c.in-Some-reached.found)
            (ap entries_view c.deref-2.ensures.value ∙ read) c.in-Some-reached.ensures.found,
        has,
      )
]
