use Rattle.std.proofs.Common.{◌≡◌, ◌++◌, take}
use Rattle.std.specs.Prelude.{IfSome, IsSome}
use Rattle.urlpattern_compare.specs.Candidates.{AreCandidates, HasManySetsAt, IsSplit}
use Rattle.urlpattern_compare.proofs.candidates.split.Given as goal

abbrev pub invariant-loop-condition : goal.invariant-loop-condition
invariant-loop-condition l = record {
  conditions : l.conditions.items ≡ l.parent.conditions.items ++ take l.condition-index l.refused;
  candidates : AreCandidates l.parent.conditions.items (take l.condition-index l.refused) l.fn.candidates.items l.candidates.items;
  divided : IsSplit l.parent.conditions.items (take l.condition-index l.refused) (IsSome l.doubt) l.candidates.items;
  many : IfSome l.doubt (λ component. HasManySetsAt (l.parent.conditions.items ++ l.refused) component l.most);
}
