use Rattle.std.proofs.Common.{◌≡◌, option_map, take}
use Rattle.serde_json.specs.Data.{string}
use Rattle.serde_json.specs.View.{members_view}
use Rattle.urlpattern_inputs.specs.InputValues.{init_view}
use Rattle.urlpattern_inputs.proofs.TreeLemmas.{with_each}
use Rattle.urlpattern_components.specs.Eight.{at}
use Rattle.urlpattern_inputs.proofs.init.UrlPatternInit.members.Given as goal

abbrev pub invariant-loop-name : goal.invariant-loop-name
invariant-loop-name l = members_view l.members.entries ≡ with_each (λ name. option_map string (at (init_view l.self).texts name)) (take l.name-index l.name-items)
