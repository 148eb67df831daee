use Rattle.std.proofs.Common.{◌≡◌, Bool, subst}
use Rattle.std.specs.Prelude.{option_copied}
use Rattle.urlpat_tables.specs.FilterLines.{AnswersMatched, LeavesLine, text_left}
use Rattle.urlpat_tables.specs.FirstRules.{FiltersFields, IsAnswered}
use Rattle.urlpattern_canonical.specs.BaseUrls.{base_view}
use Rattle.urlpat_tables.proofs.filtering.filter.Goals as goal

pub returns-clause-answers : goal.returns-clause-answers
returns-clause-answers g c = λ answered. (
  c.in-Some.patterns,
  c.in-Some.ensures,
  subst (λ (counted : Bool). FiltersFields (λ header written. written ≡ text_left c.args.asked.shape header)
      (IsAnswered (λ pattern. AnswersMatched c.args.asked.inverted) (LeavesLine c.args.asked.inverted c.args.asked.shape) c.in-Some.patterns (base_view (option_copied c.args.asked.lines.base)))
      c.args.asked.lines counted c.answer_by.result (g.In.Read.remaining c.args.input.now) (g.Out.Write.contents c.args.out.now) (g.Out.Write.contents c.answer_by.new.out))
      c.counts-counted.ensures (c.answer_by.ensures.answers answered),
)
