-- Lemmas on groups that need a text.
use Rattle.std.proofs.Common.{◌≡◌, ◌<◌, ℕ, All, List, None, Some, get_or, length, subst}
use Rattle.std.proofs.lemmas.List.{get_or-map, length-map}
use Rattle.std.proofs.lemmas.List.Elements.{All-contains, All-map, Contains-get_or}
use Rattle.std.specs.Prelude.{Contains}
use Rattle.urlpat_tables.specs.RewriteRules.{LacksText, NeedsAmong, NeedsGroup, NeedsNothing}
use Rattle.urlpattern.specs.UrlPattern.{UrlPattern}
use Rattle.urlpattern_compare.specs.declared.pattern_parts.PatternParts.{PatternParts}
use Rattle.urlpattern_components.proofs.EightLemmas.{of_each}
use Rattle.urlpattern_components.specs.Eight.{components}
use Rattle.urlpattern_components.specs.declared.eight.ComponentName.{ComponentName}
use Rattle.urlpattern_engine.specs.declared.pattern_regexp.PatternRegexp.{PatternRegexp}
use Rattle.urlpattern_pattern.specs.ComponentTexts.{parts_in}
use Rattle.urlpattern_pattern.specs.Patterns.{PatternView, pattern_view}
use Rattle.urlpattern_syntax.specs.Parts.{PartView, part_view, parts_view}
use Rattle.urlpattern_syntax.specs.declared.parser.Part.{Part}

module _ (first : PatternView PatternRegexp) (component : ComponentName) where
  -- If no part is a group that lacks a text, none of any name is.
  pub none-among : (parts : List Part) → All (λ part. ¬ LacksText first component (part_view part)) parts → (name : List ℕ) → ¬ NeedsAmong first component (parts_view parts) name
  none-among parts none name (part, has, named, lacks) =
      All-contains (λ (it : PartView). ¬ LacksText first component it) (parts_view parts) part (All-map (λ (it : PartView). ¬ LacksText first component it) part_view parts none) has lacks

  -- A part that is a group which lacks a text.
  pub one-among : (parts : List Part) (index : ℕ) (none : Part) (name : List ℕ) → index < length parts → (part_view (get_or parts index none)).name ≡ name
      → LacksText first component (part_view (get_or parts index none)) → NeedsAmong first component (parts_view parts) name
  one-among parts index none name within named lacks = (
    part_view (get_or parts index none),
    subst (Contains (parts_view parts)) (get_or-map part_view parts index none (part_view none) within)
        (Contains-get_or (parts_view parts) index (part_view none) (rw length-map within)),
    named,
    lacks,
  )

-- If no component has a group that lacks a text, the second pattern needs none.
pub needs-nothing : (first second : UrlPattern PatternRegexp) (parts : PatternParts) → second.parts ≡ Some parts
    → All (λ component. (name : List ℕ) → ¬ NeedsAmong (pattern_view first) component (parts_in parts component) name) components → NeedsNothing first second
needs-nothing first second parts has none component name needs =
    of_each (λ component. (name : List ℕ) → ¬ NeedsAmong (pattern_view first) component (parts_in parts component) name) none component name (rw has at needs)

-- A pattern without parts needs no group.
pub none-needed : (first second : UrlPattern PatternRegexp) → second.parts ≡ None → NeedsNothing first second
none-needed first second none component name needs = rw none at needs

-- A group of a component that lacks a text.
pub group-needed : (first second : UrlPattern PatternRegexp) (parts : PatternParts) (component : ComponentName) (name : List ℕ) → second.parts ≡ Some parts
    → NeedsAmong (pattern_view first) component (parts_in parts component) name → NeedsGroup first second component name
group-needed first second parts component name has needs = rw has needs
