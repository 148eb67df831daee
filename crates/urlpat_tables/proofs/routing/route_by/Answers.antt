use Rattle.std.proofs.Common.{subst}
use Rattle.urlpat_matching.specs.Tables.{entries_view}
use Rattle.urlpat_tables.proofs.RouteLemmas.{by-lines, by-summary}
use Rattle.urlpat_tables.specs.TableRoutes.{RoutesTo}
use Rattle.urlpat_tables.specs.declared.row.RowShape.{RowShape}
use Rattle.urlpat_tables.proofs.routing.route_by.Goals as goal

pub returns-in-Summary-clause-answers : goal.returns-in-Summary-clause-answers
returns-in-Summary-clause-answers g c = λ answered.
    by-summary c.args.routes.now (entries_view c.args.entries.now) c.args.asked c.summarize.result (g.In.Read.remaining c.args.input.now) (g.Out.Write.contents c.args.out.now)
    (g.Out.Write.contents c.summarize.new.out) c.args.asked.shape c.in-Summary.bars c.in-Summary.is (c.summarize.ensures.answers answered)

pub returns-in_default-clause-answers : goal.returns-in_default-clause-answers
returns-in_default-clause-answers g c = λ answered.
    by-lines c.args.routes.now (entries_view c.args.entries.now) c.args.asked c.answer_by.result (g.In.Read.remaining c.args.input.now) (g.Out.Write.contents c.args.out.now)
    (g.Out.Write.contents c.answer_by.new.out) c.args.asked.shape c.in_default.not-Summary
    (subst (λ (shape : RowShape). RoutesTo shape c.args.routes.now c.args.asked.lines c.answer_by.result (g.In.Read.remaining c.args.input.now) (g.Out.Write.contents c.args.out.now)
    (g.Out.Write.contents c.answer_by.new.out)) c.row_shape.ensures (c.answer_by.ensures.answers answered))
