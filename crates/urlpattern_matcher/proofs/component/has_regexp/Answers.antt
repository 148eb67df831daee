use Rattle.std.proofs.Common.{◌≡◌, List, [], ◌∷◌, ◌||◌, map, refl, ap, ◌∙◌, rules, tests}
use Rattle.std.proofs.lemmas.Iterator.{YieldsList-from_slice}
use Rattle.std.proofs.lemmas.Iterator.Search.{any_from_yields_List}
use Rattle.std.specs.List.{list_any}
use Rattle.urlpattern_matcher.specs.Components.{is_custom}
use Rattle.urlpattern_syntax.specs.declared.parser.Part.{Part}
use Rattle.urlpattern_syntax.specs.Parts.{part_view}
use Rattle.urlpattern_matcher.proofs.component.has_regexp.Goals as goal

any-view : (parts : List Part) → list_any (λ (part : Part). is_custom part.kind) parts ≡ list_any (λ part. is_custom part.kind) (map part_view parts)
any-view [] = refl
any-view (part ∷ parts) = ap (λ rest. is_custom part.kind || rest) (any-view parts)

pub returns : goal.returns
returns c =
    any_from_yields_List (λ (part : Part). is_custom part.kind) _ _ c.any.result c.any.ensures.ran (YieldsList-from_slice c.args.part_list.now cc) (λ x b q k. search (rules, tests))
    ∙ any-view c.args.part_list.now
