use Rattle.std.proofs.Common.{subst}
use Rattle.std.proofs.lemmas.List.Sorted.{IsPermutation-map}
use Rattle.std.specs.Cmp.Lexicographic.{slice_cmp}
use Rattle.std.specs.Ordering.{is_lt, nat_cmp}
use Rattle.std.specs.Prelude.{IsPermutation}
use Rattle.urlpattern_matches.proofs.NameOrder.{sorted_map}
use Rattle.urlpattern_matches.specs.GroupTexts.{borrowed_bytes}
use Rattle.urlpattern_matches.proofs.result.UrlPatternComponentResult.sorted_names.Goals as goal

pub returns-clause-all : goal.returns-clause-all
returns-clause-all c =
    let moved = IsPermutation-map (λ name. name.now) c.in_ok-names.names.items c.sort_unstable.new.self.items c.sort_unstable.ensures.permutation in
    subst (λ names. IsPermutation names (borrowed_bytes c.sort_unstable.new.self.items)) c.in_ok-names.ensures.all moved

pub returns-clause-in_order : goal.returns-clause-in_order
returns-clause-in_order c =
    sorted_map (λ name. name.now) (λ name other. is_lt (slice_cmp nat_cmp name other)) c.sort_unstable.new.self.items c.sort_unstable.ensures.sorted
