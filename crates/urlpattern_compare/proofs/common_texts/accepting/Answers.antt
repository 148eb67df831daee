use Rattle.std.proofs.Common.{◌↔◌, [], map, refl, subst, sym, take}
use Rattle.std.proofs.lemmas.List.Elements.{All-nil, Contains-get_or}
use Rattle.std.specs.List.{All, Contains}
use Rattle.urlpattern_compare.proofs.CandidateLemmas.{MeetsOne}
use Rattle.urlpattern_compare.proofs.TakenLemmas.{IsOfSome, contains_map, map_more, map_whole, meant_more, on_more}
use Rattle.urlpattern_compare.specs.Candidates.{MeetsEach}
use Rattle.urlpattern_compare.specs.CommonTexts.{TakesAll}
use Rattle.urlpattern_compare.specs.declared.common_texts.PatternAutomata.{PatternAutomata}
use Rattle.urlpattern_compare.proofs.common_texts.accepting.Goals as goal

pub loop-pattern-init : goal.loop-pattern-init
loop-pattern-init c = record {
  on = subst (All (IsOfSome (map (λ it. it.now) c.args.patterns.now))) (sym c.new-conditions.ensures.items) (All-nil (IsOfSome (map (λ it. it.now) c.args.patterns.now)));
  meant = λ texts. (
    λ met. All-nil (λ (pattern : PatternAutomata). TakesAll pattern texts),
    λ taken. subst (λ l. MeetsEach l texts) (sym c.new-conditions.ensures.items) (All-nil (MeetsOne texts)),
  );
}

pub loop-pattern-preserved : goal.loop-pattern-preserved
loop-pattern-preserved c =
    let patterns = c.args.patterns.now in
    let i = c.loop-pattern.pattern-index in
    let one = c.pattern-item.result in
    let old = c.loop-pattern.conditions.items in
    let new = c.push_conditions.new.conditions.items in
    let before = c.loop-pattern.invariant in
    let listed : Contains patterns one = subst (Contains patterns) (sym c.pattern-item.is) (Contains-get_or patterns i one c.loop-pattern-test.true) in
    record {
      on = on_more (map (λ it. it.now) patterns) [] one.now old new (contains_map (λ it. it.now) patterns one listed) before.on c.in_ok-push_conditions.ensures;
      meant = λ texts. subst (λ l. MeetsEach new texts ↔ All (λ (pattern : PatternAutomata). TakesAll pattern texts) l)
          (sym (map_more (λ it. it.now) patterns i one c.loop-pattern-test.true c.pattern-item.is))
          (meant_more (map (λ it. it.now) (take i patterns)) [] one.now texts old new refl (before.meant texts) c.in_ok-push_conditions.ensures);
    }

pub returns-clause-meant : goal.returns-clause-meant
returns-clause-meant c = λ texts.
    subst (λ l. MeetsEach c.loop-pattern.conditions.items texts ↔ All (λ (pattern : PatternAutomata). TakesAll pattern texts) l)
    (map_whole (λ it. it.now) c.args.patterns.now c.loop-pattern.pattern-index c.loop-pattern-test.false) (c.loop-pattern.invariant.meant texts)
