use Rattle.std.proofs.Common.{◌≡◌, Some, take}
use Rattle.serde_json.specs.Data.{string}
use Rattle.serde_json.specs.View.{members_view}
use Rattle.urlpattern_inputs.specs.InputValues.{match_input_view}
use Rattle.urlpattern_inputs.proofs.TreeLemmas.{with_each}
use Rattle.urlpattern_components.specs.Eight.{at}
use Rattle.urlpattern_inputs.proofs.match_input.MatchInput.tree.Given as goal

abbrev pub invariant-loop-name : goal.invariant-loop-name
invariant-loop-name l = members_view l.members.entries ≡ with_each (λ name. Some (string (at (match_input_view l.self) name))) (take l.name-index l.name-items)
