use Rattle.urlpattern_matches.specs.BorrowedMatches.{pattern_captures_view}
use Rattle.urlpat_matching.proofs.pattern_matching.groups_of_match.Goals as goal

pub returns-clause-found : goal.returns-clause-found
returns-clause-found c = record {
  url = c.in-Some.url;
  result = pattern_captures_view c.in-Some-2.found;
  is_url = rw c.in-Some.is at c.in_ok-url.ensures.found;
  is_match = rw c.in-Some-2.is at c.in_ok-found.ensures.matched;
  shows = c.in_ok-text.ensures;
}
