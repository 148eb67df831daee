use Rattle.std.proofs.Common.{sym}
use Rattle.urlpattern_ffi.proofs.mismatching.has_regexp_groups.Goals as goal

pub returns-then-has_regexp_groups : goal.returns-then-has_regexp_groups
returns-then-has_regexp_groups c = (c.in-Some.pattern.now, sym c.in-Some.ensures, sym c.if-has_regexp_groups.ensures)

pub returns-else-has_regexp_groups : goal.returns-else-has_regexp_groups
returns-else-has_regexp_groups c = (c.in-Some.pattern.now, sym c.in-Some.ensures, sym c.if-has_regexp_groups.ensures)
