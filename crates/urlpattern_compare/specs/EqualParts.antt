-- Patterns with equal parts.
use Rattle.std.specs.Prelude.{◌≡◌}
use Rattle.urlpattern_compare.specs.declared.pattern_parts.PatternParts.{PatternParts}
use Rattle.urlpattern_components.specs.declared.eight.ComponentName.{ComponentName}
use Rattle.urlpattern_components.specs.Eight.{at}
use Rattle.urlpattern_syntax.specs.ComponentParts.{kept_options, kept_parts}
use Rattle.urlpattern_syntax.specs.declared.parts.ComponentParts.{ComponentParts}

-- The two components have equal options and equal parts, names of groups included, and honour the
-- flag `i` alike.
pub record AreEqual (component other : ComponentParts) : Type 0 where
  pub options : kept_options component ≡ kept_options other
  pub parts : kept_parts component ≡ kept_parts other
  pub case : component.honours_case ≡ other.honours_case

-- Each component has equal options and equal parts in both patterns.
abbrev pub AreEqualParts : (parts others : PatternParts) → Type 0
AreEqualParts parts others =
    (name : ComponentName) → AreEqual (at parts.components name) (at others.components name)
