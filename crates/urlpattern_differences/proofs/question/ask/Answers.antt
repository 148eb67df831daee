use Rattle.std.proofs.Common.{◌∙◌, ap, map}
use Rattle.std.proofs.lemmas.List.Elements.{All-same}
use Rattle.urlpattern_compare.specs.CommonTexts.{AreAutomata}
use Rattle.urlpattern_differences.proofs.DecidedLemmas.{all_asked, all_earlier}
use Rattle.urlpattern_differences.proofs.question.ask.Goals as goal

pub find_common-requires-clause-all_of : goal.find_common-requires-clause-all_of
find_common-requires-clause-all_of c =
    all_asked AreAutomata (map (λ it. it.now) c.new-all_of.result.items) (map (λ it. it.now) c.push_pattern.new.all.items) (map (λ it. it.now) c.deref-5.result.now)
    c.deref.result.now c.deref-2.result.now c.args.first c.args.second (ap (map (λ it. it.now)) c.new-all_of.ensures.items) c.in_ok-push_pattern.ensures
    (ap (map (λ it. it.now)) c.deref-5.ensures.value ∙ c.in_ok-push_pattern-2.ensures)
    (All-same AreAutomata c.deref.result.now c.args.one.now.patterns.items c.deref.ensures.value c.requires.one)
    (All-same AreAutomata c.deref-2.result.now c.args.other.now.patterns.items c.deref-2.ensures.value c.requires.other)

pub find_common-requires-clause-none_of : goal.find_common-requires-clause-none_of
find_common-requires-clause-none_of c =
    all_earlier AreAutomata (map (λ it. it.now) c.new-none_of.result.items) (map (λ it. it.now) c.push_before.new.all.items) (map (λ it. it.now) c.deref-6.result.now)
    c.deref-3.result.now c.deref-4.result.now c.args.first c.args.second (ap (map (λ it. it.now)) c.new-none_of.ensures.items) c.in_ok-push_before.ensures
    (ap (map (λ it. it.now)) c.deref-6.ensures.value ∙ c.in_ok-push_before-2.ensures)
    (All-same AreAutomata c.deref-3.result.now c.args.one.now.patterns.items c.deref-3.ensures.value c.requires.one)
    (All-same AreAutomata c.deref-4.result.now c.args.other.now.patterns.items c.deref-4.ensures.value c.requires.other)
