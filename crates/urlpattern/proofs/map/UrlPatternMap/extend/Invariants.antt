use Rattle.std.proofs.Common.{◌≡◌, ◌++◌}
use Rattle.urlpattern.proofs.map.UrlPatternMap.extend.Given as goal

-- The appended entries, and the remaining ones.
abbrev pub invariant-loop-pattern : goal.invariant-loop-pattern
invariant-loop-pattern g l = record {
  appended : l.self ≡ l.fn.self ++ l.yielded;
  left : l.yielded ++ l.pattern-iterator.rest.items ≡ l.fn.entries.items;
}
