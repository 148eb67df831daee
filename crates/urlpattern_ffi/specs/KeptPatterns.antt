-- The patterns that a handle keeps. `None` is an empty handle.
use Rattle.std.specs.Prelude.{◌≡◌, List, [], Option, None, Some}
use Rattle.std.specs.Arc.{arc_value}
use Rattle.std.specs.Global.{Global}
use Rattle.std.specs.declared.boxed.Box.{Box}
use Rattle.urlpattern_ffi.specs.declared.pattern_box.PatternBox.{PatternBox}
use Rattle.urlpattern_ffi.specs.declared.status.Status.{Status}
use Rattle.urlpattern_ffi.specs.declared.status.Status.TheVariants as statuses
use Rattle.urlpattern_engine.specs.declared.pattern_regexp.PatternRegexp.{PatternRegexp}
use Rattle.urlpattern_pattern.specs.UrlPatterns.{UrlPattern}

-- The patterns of a handle, in order.
abbrev pub PatternList : Type 0
PatternList = List (UrlPattern PatternRegexp)

-- The patterns that a handle keeps. An empty handle (`None`) keeps no pattern.
abbrev pub kept_patterns : Option PatternBox → PatternList
kept_patterns None = []
kept_patterns (Some kept) = arc_value kept.list

-- The patterns that a handle keeps in a box. An empty handle (`None`) keeps no pattern.
abbrev pub boxed_patterns : Option (Box PatternBox Global) → PatternList
boxed_patterns None = []
boxed_patterns (Some kept) = arc_value kept.value.list

-- The outcome of giving another handle the patterns of one: `Done`, the other one, which had `old`,
-- has them in place of those; or `OutOfMemory`, and it has those that it had.
abbrev pub AreShared : (patterns old new : PatternList) → Status → Type 0
AreShared patterns old new statuses.Done = new ≡ patterns
AreShared patterns old new statuses.OutOfMemory = new ≡ old
AreShared patterns old new status = ⊥
