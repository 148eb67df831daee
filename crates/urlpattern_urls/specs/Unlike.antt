-- How eight texts may be unlike those of any URL, and the patterns that match such texts.
use Rattle.std.specs.Prelude.{◌≡◌, ◌≢◌, ℕ, true, All, List, [], ◌∷◌, Some, codes}
use Rattle.url.specs.Ascii.{slash}
use Rattle.url.specs.Parts.{IsValid, Parts}
use Rattle.urlpattern_compare.specs.CommonTexts.{AreAutomata}
use Rattle.urlpattern_compare.specs.Comparing.{MeansIn, anything_part}
use Rattle.urlpattern_compare.specs.declared.common_texts.PatternAutomata.{PatternAutomata}
use Rattle.urlpattern_compare.specs.declared.pattern_parts.PatternParts.{PatternParts}
use Rattle.urlpattern_components.specs.Eight.{at}
use Rattle.urlpattern_components.specs.declared.eight.ComponentName.{ComponentName}
use Rattle.urlpattern_components.specs.declared.eight.ComponentName.TheVariants.{Hostname, Pathname, Protocol}
use Rattle.urlpattern_init.specs.Inheritance.{url_text}
use Rattle.urlpattern_syntax.specs.Options.{options_view, standard_options}
use Rattle.urlpattern_syntax.specs.Parts.{PartView, parts_view}
use Rattle.urlpattern_syntax.specs.declared.parser.{PartModifier.PartModifier, PartType.PartType}
use Rattle.urlpattern_syntax.specs.declared.parts.ComponentParts.{ComponentParts}
use Rattle.urlpattern_urls.specs.declared.unlike.Unlike.{Unlike}
use Rattle.urlpattern_urls.specs.declared.unlike.Unlike.TheVariants.{NoHostname, NoPathname, NoProtocol, NoSlash}

-- ---- the patterns

-- A part without name, prefix and suffix.
abbrev pub part_of : PartType → (value : List ℕ) → PartModifier → PartView
part_of kind value modifier = record {
  kind = kind;
  value = value;
  modifier = modifier;
  name = [];
  prefix = [];
  suffix = [];
}

-- The parts of `http{s}?`.
abbrev pub web_parts : List PartView
web_parts =
    part_of PartType.FixedText (codes "http") PartModifier.None
    ∷ part_of PartType.FixedText (codes "s") PartModifier.Optional ∷ []

-- The component in which the texts are unlike those of a URL.
abbrev pub own_component : Unlike → ComponentName
own_component NoProtocol = Protocol
own_component NoHostname = Hostname
own_component NoPathname = Pathname
own_component NoSlash = Pathname

-- The parts of that component: none, which match the empty text, or a segment with anything after
-- it, which match the texts with another character than a slash in front.
abbrev pub own_parts : Unlike → List PartView
own_parts NoSlash = part_of PartType.SegmentWildcard [] PartModifier.None ∷ anything_part ∷ []
own_parts way = []

-- The component has these parts, its delimiter is a slash, and no engine keeps case.
pub record IsMadeOf (parts : List PartView) (component : ComponentParts) : Type 0 where
  pub options : options_view component.options ≡ standard_options (Some slash) []
  pub are : parts_view component.parts.items ≡ parts
  pub case : component.honours_case ≡ true

-- The component `name` of the pattern: `http{s}?` for the protocol and anything for others, but for
-- the component in which the texts are unlike those of a URL.
pub record IsUnlikeIn (way : Unlike) (name : ComponentName) (component : ComponentParts) : Type 0
  where
    pub own : name ≡ own_component way → IsMadeOf (own_parts way) component
    pub web : name ≢ own_component way → name ≡ Protocol → IsMadeOf web_parts component
    pub others : name ≢ own_component way → name ≢ Protocol
        → IsMadeOf (anything_part ∷ []) component

-- The pattern matches texts that are unlike those of a URL in this way.
abbrev pub IsUnlike : Unlike → PatternParts → Type 0
IsUnlike way pattern =
    (name : ComponentName) → IsUnlikeIn way name (at pattern.components name)

-- The automata are those of the patterns for each of the four ways, in order.
abbrev pub AreUnlike : List PatternAutomata → Type 0
AreUnlike patterns =
    (protocol hostname pathname no_slash : PatternAutomata)
    × (patterns ≡ protocol ∷ hostname ∷ pathname ∷ no_slash ∷ [])
    × All AreAutomata patterns
    × IsUnlike NoProtocol protocol.parts
    × IsUnlike NoHostname hostname.parts
    × IsUnlike NoPathname pathname.parts
    × IsUnlike NoSlash no_slash.parts

-- ---- law

-- No URL has eight texts that a pattern for texts unlike those of a URL matches.
abbrev pub NoUrlIsUnlike : Type 0
NoUrlIsUnlike =
    (way : Unlike) (pattern : PatternParts) → IsUnlike way pattern
    → (url : Parts) → IsValid url
    → ¬ ((name : ComponentName) → MeansIn (at pattern.components name) (url_text name url))
