use Rattle.std.proofs.Common.{[], map, refl}
use Rattle.std.proofs.lemmas.List.Elements.{All-weaker}
use Rattle.std.specs.List.{All}
use Rattle.urlpattern_compare.proofs.AnswerLemmas.{in_none, in_some}
use Rattle.urlpattern_compare.proofs.DependsLemmas.{depends_all}
use Rattle.urlpattern_compare.proofs.TakenLemmas.{sure_alone}
use Rattle.urlpattern_compare.specs.Candidates.{text_at}
use Rattle.urlpattern_compare.specs.CommonTexts.{HasAutomata, IsLack, IsSure}
use Rattle.urlpattern_compare.specs.declared.common_texts.PatternAutomata.{PatternAutomata}
use Rattle.urlpattern_compare.proofs.common_texts.texts_or_doubt.Goals as goal

pub texts_if_known-requires-clause-known : goal.texts_if_known-requires-clause-known
texts_if_known-requires-clause-known c =
    All-weaker (IsSure []) HasAutomata (λ (pattern : PatternAutomata) sure. sure_alone [] pattern refl sure) (map (λ it. it.now) c.args.all_of.now)
    (in_none (All (IsSure []) (map (λ it. it.now) c.args.all_of.now)) c.in_ok-lack.field-0 c.in-None.is c.in_ok-lack.ensures.none)

pub returns-in-Some-clause-depends : goal.returns-in-Some-clause-depends
returns-in-Some-clause-depends c =
    let all_of = map (λ it. it.now) c.args.all_of.now in
    let none_of = map (λ it. it.now) c.args.none_of.now in
    depends_all all_of none_of c.in-Some.lack c.requires.all_of c.requires.none_of
    (text_at c.args.texts.now, c.requires.lines, c.requires.taken)
    (in_some (IsLack all_of) c.in_ok-lack.field-0 c.in-Some.lack c.in-Some.is c.in_ok-lack.ensures.some)

pub returns-in-Some-clause-answer : goal.returns-in-Some-clause-answer
returns-in-Some-clause-answer c = in_some (IsLack (map (λ it. it.now) c.args.all_of.now)) c.in_ok-lack.field-0 c.in-Some.lack c.in-Some.is c.in_ok-lack.ensures.some
