use Rattle.std.proofs.Common.{◌≡◌, Some, take}
use Rattle.serde_json.specs.View.{members_view}
use Rattle.urlpattern_inputs.proofs.TreeLemmas.{with_each}
use Rattle.urlpattern_plain.specs.PatternJson.{component_tree}
use Rattle.urlpattern_plain.specs.Values.{plain_pattern_view}
use Rattle.urlpattern_components.specs.Eight.{at}
use Rattle.urlpattern_plain.proofs.pattern.UrlPattern.to_json_value.Given as goal

abbrev pub invariant-loop-name : goal.invariant-loop-name
invariant-loop-name l = members_view l.members.entries ≡ with_each (λ name. Some (component_tree (at (plain_pattern_view l.self).components name))) (take l.name-index l.name-items)
