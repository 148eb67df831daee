use Rattle.std.proofs.Common.{◌≡◌, take}
use Rattle.serde_json.specs.View.{members_view}
use Rattle.urlpat_commands.specs.ComparisonTexts.{known_tree}
use Rattle.urlpattern_components.specs.Eight.{at}
use Rattle.urlpattern_inputs.proofs.TreeLemmas.{with_each}
use Rattle.urlpat_commands.proofs.comparison_json.known_members.Given as goal

abbrev pub invariant-loop-name : goal.invariant-loop-name
invariant-loop-name l = members_view l.members.entries ≡ with_each (λ name. known_tree (at l.texts name)) (take l.name-index l.name-items)
