-- The view of a `UrlPattern`: its components, and the parts that they were made of.
use Rattle.std.specs.Prelude.{◌≡◌, IfSome, Option}
use Rattle.urlpattern_matcher.specs.Components.{ComponentView, IsComponentOf, honours_case}
use Rattle.urlpattern_matcher.specs.declared.component.Component.{Component}
use Rattle.urlpattern_matcher.specs.declared.regexp.RegExp.{Ghosts as Engine}
use Rattle.urlpattern_compile.specs.{Compiled.HasEngine, PatternViews.PatternView, PatternViews.eight_view}
use Rattle.urlpattern_components.specs.declared.eight.ComponentName.{ComponentName}
use Rattle.urlpattern_components.specs.declared.eight.Eight.{Eight}
use Rattle.urlpattern_components.specs.Eight.{at}
use Rattle.urlpattern_compare.specs.declared.pattern_parts.PatternParts.{PatternParts}
use Rattle.urlpattern_syntax.specs.ComponentParts.{kept_options, kept_parts}
use Rattle.urlpattern_syntax.specs.declared.parts.ComponentParts.{ComponentParts}

-- The components of a pattern, and their parts, unless the pattern was put together by hand.
pub record UrlPattern (E : Type 0) : Type 0 where
  pub components : Eight (Component E)
  pub parts : Option PatternParts

-- All five fields of `component` are made by `engine` of the options and parts of `kept`, the
-- engine accepted each regular expression that the component needs, and `kept` says whether the
-- matcher honours case.
pub record IsMadeOfParts {E : Type 0} (engine : Engine E) (kept : ComponentParts)
    (component : ComponentView E) : Type 0 where
  pub is_component : IsComponentOf engine (kept_options kept) (kept_parts kept) component
  pub has_engine : HasEngine component
  pub case : kept.honours_case ≡ honours_case engine component.matcher.inner

-- Each component of `pattern` is made of its parts of `parts`.
abbrev pub AreMadeOfParts : {E : Type 0} → Engine E → PatternParts → PatternView E → Type 0
AreMadeOfParts engine parts pattern =
    (name : ComponentName) → IsMadeOfParts engine (at parts.components name) (pattern name)

-- If the pattern has parts, its components are made of them. A pattern without parts was put
-- together by hand.
abbrev pub HasOwnParts : {E : Type 0} → Engine E → UrlPattern E → Type 0
HasOwnParts engine pattern =
    IfSome pattern.parts (λ parts. AreMadeOfParts engine parts (eight_view pattern.components))
