use Rattle.std.proofs.Common.{◌↔◌, map, take}
use Rattle.std.specs.List.{All}
use Rattle.urlpattern_compare.specs.Candidates.{MeetsEach, TextAt}
use Rattle.urlpattern_compare.specs.CommonTexts.{TakesAll}
use Rattle.urlpattern_compare.proofs.TakenLemmas.{IsOfSome}
use Rattle.urlpattern_compare.proofs.common_texts.accepting.Given as goal

abbrev pub invariant-loop-pattern : goal.invariant-loop-pattern
invariant-loop-pattern l = record {
  on : All (IsOfSome (map (λ it. it.now) l.patterns)) l.conditions.items;
  meant : (texts : TextAt) → MeetsEach l.conditions.items texts ↔ All (λ pattern. TakesAll pattern texts) (map (λ it. it.now) (take l.pattern-index l.patterns));
}
