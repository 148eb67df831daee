use Rattle.std.proofs.Common.{◌∙◌, List, ap, map, subst, sym}
use Rattle.std.specs.List.{All}
use Rattle.std.specs.Prelude.{IfOk}
use Rattle.urlpattern_compare.proofs.TogetherLemmas.{all_some, some_map}
use Rattle.urlpattern_compare.specs.CommonTexts.{AreAutomata}
use Rattle.urlpattern_compare.specs.CoveringTogether.{DecidesTogether}
use Rattle.urlpattern_compare.specs.declared.common_texts.PatternAutomata.{PatternAutomata}
use Rattle.urlpattern_compare.proofs.together.do_cover.Goals as goal

pub are_covering-requires-clause-patterns : goal.are_covering-requires-clause-patterns
are_covering-requires-clause-patterns c =
    let patterns = c.args.patterns.now in
    let all = map (λ it. it.now) patterns in
    let are = ap (map (λ it. it.now)) c.deref.ensures.value ∙ some_map (λ it. it.now) patterns c.in_ok-some.some.items c.args.count c.args.by.now c.in_ok-some.ensures in
    subst (λ (them : List PatternAutomata). All AreAutomata them) (sym are) (all_some AreAutomata all c.args.count c.args.by.now c.requires.patterns)

pub returns : goal.returns
returns c =
    let patterns = c.args.patterns.now in
    let are = ap (map (λ it. it.now)) c.deref.ensures.value ∙ some_map (λ it. it.now) patterns c.in_ok-some.some.items c.args.count c.args.by.now c.in_ok-some.ensures in
    subst (λ (them : List PatternAutomata). IfOk c.are_covering.result (DecidesTogether c.args.limits them c.args.asked.now)) are c.are_covering.ensures
