use Rattle.std.proofs.Common.{◌++◌, ℕ, List, drop, length}
use Rattle.std.specs.Str.{chars}
use Rattle.urlpattern_index.specs.Segments.{AreOpen, IsReadTo}
use Rattle.urlpattern_index.proofs.path_segments.PathSegments.read_text.Given as goal

abbrev pub invariant-loop-c : goal.invariant-loop-c
invariant-loop-c l = record {
  are_open : AreOpen l.self;
  is_read : (path rest : List ℕ) → IsReadTo l.initial.self path (chars l.text ++ rest)
      → IsReadTo l.self path (drop (length l.yielded) (chars l.text) ++ rest);
}
