-- Copies of the entries of a map, and of the routes of a router. `Copies` relates a value to each
-- of its copies.
use Rattle.std.specs.Prelude.{◌≡◌, option_map}
use Rattle.urlpattern.specs.declared.router.route.Route.{Route}
use Rattle.urlpattern_pattern.specs.{PatternCopies.IsPatternCopy, UrlPatterns.UrlPattern}
use Rattle.urlpattern_syntax.specs.Text.{text_of}

-- `copy` is a copy of `entry`: a copy of its pattern, and a copy of its value.
abbrev pub IsEntryCopy : {E T : Type 0} → (Copies : T → T → Type 0)
    → (entry copy : UrlPattern E × T) → Type 0
IsEntryCopy Copies entry copy = IsPatternCopy entry.0 copy.0 × Copies entry.1 copy.1

-- `copy` is a copy of `route`: it has the same name and the same method, if there are any, and a
-- copy of its value.
pub record IsRouteCopy {T : Type 0} (Copies : T → T → Type 0) (route copy : Route T) : Type 0 where
  pub name : option_map text_of copy.name ≡ option_map text_of route.name
  pub method : option_map text_of copy.method ≡ option_map text_of route.method
  pub value : Copies route.value copy.value
