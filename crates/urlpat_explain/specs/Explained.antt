-- What `explain` explains. Texts are bytes.
use Rattle.std.specs.Prelude.{◌≡◌, ℕ, Bool, List, Ok, Option, None, Some, codes, option_map, string_bytes}
use Rattle.std.specs.Str.{chars}
use Rattle.urlpat_explain.specs.ComponentPlaces.{Places, text_places}
use Rattle.urlpat_explain.specs.Noted.{AreNoted}
use Rattle.urlpat_explain.specs.declared.explained.Explained.{Explained}
use Rattle.urlpat_matching.specs.GivenPatterns.{IsInitOf, IsPatternGiven, KeepsPartsGiven}
use Rattle.urlpat_matching.specs.declared.given_pattern.GivenPattern.{GivenPattern}
use Rattle.urlpat_matching.specs.declared.given_pattern.GivenPattern.TheVariants as given
use Rattle.urlpattern_compile.specs.Compiled.{pattern_values}
use Rattle.urlpattern_compile.specs.FromString.{IsInitOfText}
use Rattle.urlpattern_components.specs.Eight.{at}
use Rattle.urlpattern_components.specs.declared.eight.ComponentName.{ComponentName}
use Rattle.urlpattern_constructor.specs.Splitting.{Starts}
use Rattle.urlpattern_engine.specs.PatternRegexps.{pattern_engine}
use Rattle.urlpattern_engine.specs.declared.pattern_regexp.PatternRegexp.{PatternRegexp}
use Rattle.urlpattern_init.specs.{ConstructorString.SplitsAt, SpecialProtocol.IsSpecialTo}
use Rattle.urlpattern_init.specs.Inheritance.{values_view}
use Rattle.urlpattern_init.specs.declared.init.UrlPatternInit.{UrlPatternInit}
use Rattle.urlpattern_pattern.specs.Patterns.{pattern_view}
use Rattle.urlpattern_pattern.specs.ReadBack.{IsConstructorString}
use Rattle.urlpattern_pattern.specs.UrlPatterns.{UrlPattern}

-- The origin of a component's value: `given` by the pattern, `inherited` from the base URL, or
-- `left out`. `given` is the text that the pattern has.
abbrev pub origin : (given value : Option (List ℕ)) → List ℕ
origin (Some given) value = codes "given"
origin None (Some value) = codes "inherited"
origin None None = codes "left out"

-- The constructor string `text` with the base URL `base` is parsed to `init`, whose texts have
-- these places in the string.
pub record IsInitOfTextAt (text : List ℕ) (base : Option (List ℕ)) (init : UrlPatternInit)
    (places : Places) : Type 0 where
  pub starts : Starts
  pub is_parsed : IsInitOfText pattern_engine (chars text) base init
  pub is_split : SplitsAt (IsSpecialTo pattern_engine) (chars text) (values_view init) starts
  pub has_places : places ≡ text_places (values_view init) starts

-- `init` is that of the pattern that is given, and its texts have these places in the constructor
-- string. None has a place without a string.
abbrev pub IsInitAt : GivenPattern → (base : Option (List ℕ)) → UrlPatternInit → Places → Type 0
IsInitAt (given.Text text) base init places = IsInitOfTextAt text.now base init places
IsInitAt (given.Init plain) base init places =
    IsInitOf plain.now base init × ((name : ComponentName) → at places name ≡ None)

-- The pattern that is given is compiled to `compiled`, which keeps its parts. Its init is `init`,
-- whose texts have these places.
pub record IsRead (ignores : Bool) (pattern : GivenPattern) (base : Option (List ℕ))
    (compiled : UrlPattern PatternRegexp) (init : UrlPatternInit) (places : Places) : Type 0 where
  pub is_compiled : IsPatternGiven ignores pattern base (pattern_view compiled)
  pub keeps_parts : KeepsPartsGiven ignores pattern base compiled
  pub is_init : IsInitAt pattern base init places

-- `explained` has what the pattern that is given is read as; the values of the components,
-- inherited ones included; what is noted of each component; and the pattern as a constructor
-- string, if there is one.
pub record IsExplained (ignores : Bool) (pattern : GivenPattern) (base : Option (List ℕ))
    (explained : Explained) : Type 0 where
  pub is_read : IsRead ignores pattern base explained.pattern.now explained.init.now
      explained.places.now
  pub has_values : pattern_values explained.init.now ≡ Ok (values_view explained.values.now)
  pub are_noted : AreNoted explained.pattern.now explained.noted.now
  pub has_text : IsConstructorString pattern_engine explained.pattern.now
      (option_map string_bytes explained.text.now)
