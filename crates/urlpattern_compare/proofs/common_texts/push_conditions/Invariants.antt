use Rattle.std.proofs.Common.{map, take}
use Rattle.std.specs.List.{All}
use Rattle.urlpattern_compare.specs.CommonTexts.{AreAdded, TakesIn}
use Rattle.urlpattern_compare.proofs.common_texts.push_conditions.Given as goal

abbrev pub invariant-loop-component : goal.invariant-loop-component
invariant-loop-component l =
    AreAdded l.pattern (λ texts. All (TakesIn (map (λ it. it.now) l.all_of) l.pattern texts) (take l.component-index l.component-items)) l.fn.conditions.items l.conditions.items
