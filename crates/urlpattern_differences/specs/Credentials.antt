-- Rules that deny a user name and a password.
use Rattle.std.specs.Prelude.{◌≡◌, ◌≢◌, ◌↔◌, true, [], ◌∷◌}
use Rattle.urlpattern_compare.specs.Candidates.{AreLines, TextAt}
use Rattle.urlpattern_compare.specs.CommonTexts.{AreAutomata, MeansByParts, MeansEach, PatternMeaning}
use Rattle.urlpattern_compare.specs.declared.common_texts.PatternAutomata.{PatternAutomata}
use Rattle.urlpattern_compare.specs.declared.pattern_parts.PatternParts.{PatternParts}
use Rattle.urlpattern_components.specs.Eight.{at}
use Rattle.urlpattern_components.specs.declared.eight.ComponentName.{ComponentName}
use Rattle.urlpattern_components.specs.declared.eight.ComponentName.TheVariants.{Password, Username}
use Rattle.urlpattern_differences.specs.Deciding.{AppendsRule}
use Rattle.urlpattern_differences.specs.declared.rules.Effect.TheVariants as effects
use Rattle.urlpattern_differences.specs.declared.rules.PolicyAutomata.{PolicyAutomata}
use Rattle.urlpattern_syntax.specs.Options.{default_options, options_view}
use Rattle.urlpattern_syntax.specs.Parts.{PartView, parts_view}
use Rattle.urlpattern_syntax.specs.declared.parser.{PartModifier.PartModifier, PartType.PartType}
use Rattle.urlpattern_syntax.specs.declared.parts.ComponentParts.{ComponentParts}

-- A wildcard of this kind, without modifier, name, prefix and suffix.
abbrev pub wildcard_part : PartType → PartView
wildcard_part kind = record {
  kind = kind;
  value = [];
  modifier = PartModifier.None;
  name = [];
  prefix = [];
  suffix = [];
}

-- The component is a wildcard of this kind alone, under the default options: those without a
-- delimiter. No engine is needed.
pub record IsWildcard (kind : PartType) (component : ComponentParts) : Type 0 where
  pub options : options_view component.options ≡ default_options
  pub parts : parts_view component.parts.items ≡ wildcard_part kind ∷ []
  pub case : component.honours_case ≡ true

-- The component `name` of a pattern of which the component `written` alone is not to be empty: a
-- segment wildcard, which matches each text that is not empty, or a full wildcard.
pub record IsWildcardOf (written name : ComponentName) (component : ComponentParts) : Type 0 where
  pub itself : name ≡ written → IsWildcard PartType.SegmentWildcard component
  pub others : name ≢ written → IsWildcard PartType.FullWildcard component

-- The component `written` of the pattern is not to be empty, and nothing is asked of the others.
abbrev pub IsWritten : (written : ComponentName) → (pattern : PatternParts) → Type 0
IsWritten written pattern =
    (name : ComponentName) → IsWildcardOf written name (at pattern.components name)

-- `new` is `old` with two rules appended, which deny URLs with a user name, and with a password.
abbrev pub DeniesCredentials : (old new : PolicyAutomata) → Type 0
DeniesCredentials old new =
    (username password : PatternAutomata) × (between : PolicyAutomata)
    × IsWritten Username username.parts × AreAutomata username
    × IsWritten Password password.parts × AreAutomata password
    × AppendsRule old username effects.Deny between
    × AppendsRule between password effects.Deny new

-- ---- law

-- The pattern for the component `written` matches eight texts without line feeds exactly if the
-- text of that component is not empty.
abbrev pub WrittenMatch : Type 0
WrittenMatch =
    (written : ComponentName) (it : PatternMeaning) → IsWritten written it.parts → MeansByParts it
    → (texts : TextAt) → AreLines texts → MeansEach it texts ↔ texts written ≢ []
