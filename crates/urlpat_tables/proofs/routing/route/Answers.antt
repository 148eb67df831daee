use Rattle.std.proofs.Common.{List, ap, option_copied, subst, ◌∙◌}
use Rattle.urlpat_matching.specs.Tables.{EntryView, entries_view, table_entries}
use Rattle.urlpat_tables.specs.Summaries.{RoutesBy}
use Rattle.urlpat_tables.specs.TableRoutes.{IsRoute}
use Rattle.urlpat_tables.specs.TableRules.{AreRulesOf}
use Rattle.urlpat_tables.proofs.routing.route.Goals as goal

pub returns-clause-answers : goal.returns-clause-answers
returns-clause-answers g c = λ answered.
    let routes = c.in-Some-rules_or_report.routes in
    let asked = c.args.asked in
    let read = c.in-Some-entries_or_report.ensures.entries ∙ ap table_entries c.deref.ensures.value in (
      c.in-Some.table.items,
      routes,
      c.in-Some.ensures.table,
      subst (λ (entries : List EntryView). AreRulesOf (IsRoute c.args.flags.ignore_case (option_copied asked.lines.base)) entries routes) (ap entries_view c.deref-2.ensures.value ∙ read)
          c.in-Some-rules_or_report.ensures.rules,
      subst (λ (entries : List EntryView). RoutesBy asked.shape routes entries asked c.route_by.result (g.In.Read.remaining c.args.input.now) (g.Out.Write.contents c.args.out.now)
          (g.Out.Write.contents c.route_by.new.out)) (ap entries_view c.deref-3.ensures.value ∙ read) (c.route_by.ensures.answers answered),
    )
