-- Patterns as a caller wrote them, in the code of a diagnosis.
use Rattle.std.specs.Prelude.{ℕ, List, Option, IfSome, option_map}
use Rattle.std.specs.Str.{chars}
use Rattle.urlpattern_components.specs.declared.eight.ComponentName.{ComponentName}
use Rattle.urlpattern_components.specs.Eight.{Values, at}
use Rattle.urlpattern_compile.specs.Diagnoses.{IsTextFor, Written}
use Rattle.urlpattern_compile.specs.declared.pattern_source.{PatternSource.PatternSource, SplitString.SplitString}
use Rattle.urlpattern_constructor.specs.Splitting.{HasComponentsAt, Starts}
use Rattle.urlpattern_init.specs.Inheritance.{values_view}

-- A constructor string, as bytes, with where it has each component.
abbrev pub string_written : Option SplitString → Option (List ℕ × Starts)
string_written string = option_map (λ split. (split.text.now, split.starts.now)) string

-- What the caller wrote.
abbrev pub written : PatternSource → Written
written source = record {
  components = values_view source.init.now;
  string = string_written source.string;
}

-- The constructor string, if there is one, has the components where it says.
abbrev pub IsSplitFrom : (string : Option (List ℕ × Starts)) → (components : Values) → Type 0
IsSplitFrom string components =
    IfSome string (λ split. HasComponentsAt (chars split.0) components split.1)

-- The constructor string of the source, if there is one, has the components of the init where it
-- says.
abbrev pub IsSource : PatternSource → Type 0
IsSource source = IsSplitFrom (written source).string (written source).components

-- `text` is the text that shows a component of what the caller wrote.
abbrev pub IsTextOf : Written → ComponentName → (pattern text : List ℕ) → Type 0
IsTextOf written component pattern text =
    IsTextFor written.string (at written.components component) pattern text
