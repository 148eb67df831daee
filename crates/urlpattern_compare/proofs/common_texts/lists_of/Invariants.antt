use Rattle.std.proofs.Common.{map, take}
use Rattle.urlpattern_compare.specs.CommonTexts.{AreLists}
use Rattle.urlpattern_compare.proofs.common_texts.lists_of.Given as goal

abbrev pub invariant-loop-pattern : goal.invariant-loop-pattern
invariant-loop-pattern l = AreLists (map (λ it. it.now) l.all_of) (map (λ it. it.now) (take l.pattern-index l.none_of)) l.is_sure l.lists.items
