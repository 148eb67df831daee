use Rattle.std.proofs.Common.{◌∙◌, Bor, List, ap, map, subst, sym, true, false}
use Rattle.std.specs.Prelude.{All}
use Rattle.urlpattern_compare.specs.CommonTexts.{AreAutomata}
use Rattle.urlpattern_compare.specs.declared.common_texts.PatternAutomata.{PatternAutomata}
use Rattle.urlpattern_route_analysis.proofs.CasePatternLemmas.{all_in_case}
use Rattle.urlpattern_route_analysis.specs.Cases.{literal_views}
use Rattle.urlpattern_route_analysis.proofs.analysis.Analysis.url_in.Goals as goal

pub find_common-requires-clause-all_of : goal.find_common-requires-clause-all_of
find_common-requires-clause-all_of c =
    let are = ap (λ (l : List (Bor PatternAutomata)). map (λ it. it.now) l) c.deref.ensures.value ∙ c.in_ok-matched.ensures in
    subst (All AreAutomata) (sym are) (all_in_case c.args.self.now.patterns.items true AreAutomata c.requires.ready.patterns (literal_views c.args.literals.now))

pub find_common-requires-clause-none_of : goal.find_common-requires-clause-none_of
find_common-requires-clause-none_of c =
    let are = ap (λ (l : List (Bor PatternAutomata)). map (λ it. it.now) l) c.deref-2.ensures.value ∙ c.in_ok-unmatched.ensures in
    subst (All AreAutomata) (sym are) (all_in_case c.args.self.now.patterns.items false AreAutomata c.requires.ready.patterns (literal_views c.args.literals.now))
