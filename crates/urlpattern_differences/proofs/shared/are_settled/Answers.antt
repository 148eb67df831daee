use Rattle.std.proofs.Common.{List, subst}
use Rattle.std.specs.Bool.{OnTrue}
use Rattle.urlpattern_compare.specs.declared.common_texts.PatternAutomata.{PatternAutomata}
use Rattle.urlpattern_differences.proofs.SharedLemmas.{earlier_in_other, none_if_earlier}
use Rattle.urlpattern_differences.specs.Shared.{IsEarlier}
use Rattle.urlpattern_differences.proofs.shared.are_settled.Goals as goal

pub returns-then-is_earlier : goal.returns-then-is_earlier
returns-then-is_earlier c =
    let one = c.args.one.now in
    let other = c.args.other.now in
    earlier_in_other one other c.args.first c.args.second
    (subst (λ (patterns : List PatternAutomata). IsEarlier patterns c.args.first other.patterns.items c.args.second) c.deref.ensures.value
    (subst (λ (others : List PatternAutomata). IsEarlier c.deref.result.now c.args.first others c.args.second) c.deref-2.ensures.value c.if-is_earlier.ensures))

pub returns : goal.returns
returns c =
    let one = c.args.one.now in
    let other = c.args.other.now in
    none_if_earlier c.is_earlier-2.result one other c.args.first c.args.second
    (subst (λ (patterns : List PatternAutomata). OnTrue c.is_earlier-2.result (IsEarlier patterns c.args.second one.patterns.items c.args.first)) c.deref-3.ensures.value
    (subst (λ (others : List PatternAutomata). OnTrue c.is_earlier-2.result (IsEarlier c.deref-3.result.now c.args.second others c.args.first)) c.deref-4.ensures.value c.is_earlier-2.ensures))
