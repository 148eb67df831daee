use Rattle.urlpattern.specs.BorrowedMatches.{pattern_captures_view}
use Rattle.urlpat_commands.proofs.first.groups_of_first.Goals as goal

pub returns-clause-found : goal.returns-clause-found
returns-clause-found c = record {
  url = c.in-Some.url;
  index = c.in-Some-2.index;
  result = pattern_captures_view c.in-Some-2.found;
  is_url = rw c.in-Some.is at c.in_ok-url.ensures.found;
  is_first = rw c.in-Some-2.is at c.in_ok-index.ensures.first;
  shows = c.in_ok-text.ensures;
}
