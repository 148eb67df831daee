use Rattle.std.proofs.Common.{◌≡◌, ◌++◌, map}
use Rattle.std.specs.HashMap.{IsUnique}
use Rattle.std.specs.String.{string_eq}
use Rattle.urlpattern_matches.specs.BorrowedMatches.{borrowed_group, listed_entries, listed_groups, named_groups, texts_captured}
use Rattle.urlpattern_matches.proofs.result.add_participating.Given as goal

-- The groups that were added, and those that are still to come.
abbrev pub invariant-loop-name : goal.invariant-loop-name
invariant-loop-name l = record {
  added :
      map borrowed_group l.taken.items ++ texts_captured (named_groups l.component (listed_entries l.name-iterator))
      ≡ map borrowed_group l.initial.taken.items ++ texts_captured (named_groups l.component (listed_groups l.groups));
  differ : IsUnique string_eq l.groups;
}
