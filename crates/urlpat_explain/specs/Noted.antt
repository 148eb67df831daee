-- What `explain` notes of single components of a pattern.
use Rattle.std.specs.Prelude.{ℕ, Bool, false, ◌&&◌, ◌↔◌, nat_le, nat_lt, List, length, IsSomeAnd, IsTrue}
use Rattle.std.specs.List.{list_any}
use Rattle.regex_hir.specs.Text.{is_some_and}
use Rattle.regex_syntax.specs.Grammar.{read}
use Rattle.regex_syntax.specs.Verdict.{default_config}
use Rattle.urlpat_explain.specs.declared.noted.Noted.{Noted}
use Rattle.urlpattern_components.specs.Eight.{at}
use Rattle.urlpattern_components.specs.declared.eight.{ComponentName.ComponentName, Eight.Eight}
use Rattle.urlpattern_engine.specs.declared.pattern_regexp.PatternRegexp.{PatternRegexp}
use Rattle.urlpattern_pattern.specs.KeptMeanings.{HasMeaningByCaseIn}
use Rattle.urlpattern_pattern.specs.UrlPatterns.{UrlPattern}
use Rattle.urlpattern_syntax.specs.ComponentParts.{kept_parts}
use Rattle.urlpattern_syntax.specs.Parts.{PartView}
use Rattle.urlpattern_syntax.specs.declared.parser.PartType.{PartType}

-- Whether the grammar of `regex` reads the expression, nested no deeper than its limit, with a
-- group that captures: there are more groups than the first one, which is the whole expression.
unfoldable pub has_groups : (expression : List ℕ) → Bool
has_groups expression =
    is_some_and (read default_config expression) (λ (pattern, names).
    nat_le pattern.depth default_config.nest_limit && nat_lt 1 (length names))

-- Whether a part is custom, and its expression has groups of its own.
abbrev pub part_has_groups : PartType → (value : List ℕ) → Bool
part_has_groups PartType.Regexp value = has_groups value
part_has_groups kind value = false

-- Whether a custom expression of the parts has groups of its own.
abbrev pub have_groups : List PartView → Bool
have_groups parts = list_any (λ part. part_has_groups part.kind part.value) parts

-- The pattern has parts, and a custom expression of the component has groups of its own. They are
-- captured before the groups of the parts after it, whose names they take.
abbrev pub HasOwnGroups : {E : Type 0} → UrlPattern E → ComponentName → Type 0
HasOwnGroups pattern name =
    IsSomeAnd pattern.parts (λ parts. IsTrue (have_groups (kept_parts (at parts.components name))))

-- `noted` says of the component whether it has a meaning, and whether a custom expression of it has
-- groups of its own.
pub record IsNoted {E : Type 0} (pattern : UrlPattern E) (name : ComponentName) (noted : Noted)
    : Type 0 where
  pub meaning : IsTrue noted.has_meaning ↔ HasMeaningByCaseIn pattern name
  pub groups : IsTrue noted.has_own_groups ↔ HasOwnGroups pattern name

-- `noted` says this of each component of the pattern.
abbrev pub AreNoted : UrlPattern PatternRegexp → Eight Noted → Type 0
AreNoted pattern noted = (name : ComponentName) → IsNoted pattern name (at noted name)
