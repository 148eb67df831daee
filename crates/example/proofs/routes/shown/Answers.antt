use Rattle.std.proofs.Common.{sym}
use Rattle.urlpattern.specs.BorrowedMatches.{pattern_captures_view}
use Rattle.example.proofs.routes.shown.Goals as goal

pub returns-clause-some : goal.returns-clause-some
returns-clause-some g c = (
  (c.in-Some.field-0-0, pattern_captures_view c.in-Some.found),
  rw c.in-Some.is at c.in_ok-value.ensures.first,
  rw c.in-Some.is at c.in_ok-value.ensures.value,
  sym c.get.ensures,
)
