-- Copies of patterns.
use Rattle.std.specs.Prelude.{◌≡◌, MatchOption, None}
use Rattle.urlpattern_components.specs.declared.eight.ComponentName.{ComponentName}
use Rattle.urlpattern_pattern.specs.{Patterns.pattern_view, ReadBack.HasEqualParts, UrlPatterns.UrlPattern}

-- `copy` is a copy of `pattern`: all five fields of each component are equal, with equal values of
-- the engine, and the parts are equal, if there are any.
pub record IsPatternCopy {E : Type 0} (pattern copy : UrlPattern E) : Type 0 where
  pub components : (name : ComponentName) → pattern_view copy name ≡ pattern_view pattern name
  pub parts : MatchOption pattern.parts (copy.parts ≡ None) (λ parts. HasEqualParts parts copy)
