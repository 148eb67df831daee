use Rattle.std.proofs.Common.{◌≡◌, ◌∙◌, ◌++◌, ◌≤◌, ap, arith, get_or, length, map, subst, take_all}
use Rattle.std.proofs.lemmas.List.Elements.{All-more}
use Rattle.std.specs.HashMap.{IsUnique}
use Rattle.std.specs.List.{All}
use Rattle.std.specs.String.{string_eq}
use Rattle.urlpattern_components.proofs.EightLemmas.{of_each}
use Rattle.urlpattern_components.specs.declared.eight.ComponentName.TheVariants.{Protocol}
use Rattle.urlpattern_matches.proofs.TakenLemmas.{component-more}
use Rattle.urlpattern_matches.specs.BorrowedMatches.{HasDistinctGroups, all_listed_groups, borrowed_group, listed_groups, named_groups, texts_captured}
use Rattle.urlpattern_matches.specs.declared.result.UrlPatternComponentResult.{UrlPatternComponentResult}
use Rattle.urlpattern_matches.proofs.result.UrlPatternResult.to_groups.Goals as goal

pub loop-component-preserved : goal.loop-component-preserved
loop-component-preserved c =
    let result = c.args.self.now in
    let names = c.all-component-items.result in
    let i = c.loop-component.component-index in
    let component = get_or names i Protocol in
    let eight : length names ≡ 8 = ap length c.all-component-items.ensures in
    let old = c.loop-component.taken.items in
    let new = c.add_participating.new.taken.items in
    record {
      added = component-more result names i Protocol old new (omega arith) c.loop-component.invariant.added
          (subst (λ (one : UrlPatternComponentResult). map borrowed_group new ≡ map borrowed_group old ++ texts_captured (named_groups component (listed_groups one.groups))) c.component.ensures c.in_ok-add_participating.ensures.added);
      differ = All-more (HasDistinctGroups result) names i Protocol (omega arith) c.loop-component.invariant.differ
          (subst (λ (one : UrlPatternComponentResult). IsUnique string_eq one.groups) c.component.ensures c.in_ok-add_participating.ensures.differ);
    }

pub returns : goal.returns
returns c =
    let result = c.args.self.now in
    let names = c.all-component-items.result in
    let i = c.loop-component.component-index in
    let eight : length names ≡ 8 = ap length c.all-component-items.ensures in
    let whole : length names ≤ i = omega arith in
    let all = take_all i names whole ∙ c.all-component-items.ensures in
    record {
      all = c.loop-component.invariant.added ∙ ap (λ list. texts_captured (all_listed_groups result list)) all;
      differ = of_each (HasDistinctGroups result) (subst (λ list. All (HasDistinctGroups result) list) all c.loop-component.invariant.differ);
      memory = tt;
    }
