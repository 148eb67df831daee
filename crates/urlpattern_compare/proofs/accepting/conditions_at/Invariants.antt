use Rattle.std.proofs.Common.{◌≡◌, ◌↔◌, ℕ, List, take}
use Rattle.std.specs.List.{All, Contains}
use Rattle.urlpattern_compare.specs.Candidates.{MeetsAt}
use Rattle.urlpattern_compare.specs.Conditions.{Meets}
use Rattle.urlpattern_compare.proofs.accepting.conditions_at.Given as goal

abbrev pub invariant-loop-condition : goal.invariant-loop-condition
invariant-loop-condition l = record {
  meets : (text : List ℕ) → Meets l.own.items text ↔ MeetsAt (take l.condition-index l.conditions) l.component text;
  within : All (λ it. (it.component ≡ l.component) × Contains l.conditions it) l.own.items;
}
