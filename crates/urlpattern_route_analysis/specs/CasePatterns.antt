-- The patterns of formulas and of cases.
use Rattle.std.specs.Bool.{beq}
use Rattle.std.specs.List.{filter_map}
use Rattle.std.specs.Prelude.{All, Bool, List, None, Option, length, slice_get, if◌then◌else◌}
use Rattle.urlpattern_compare.specs.declared.common_texts.PatternAutomata.{PatternAutomata}
use Rattle.urlpattern_route_analysis.specs.Cases.{IsWithin, LiteralView}
use Rattle.urlpattern_route_analysis.specs.Formulas.{AtomView, FormulaView, of_name, of_url}

-- Each pattern that the formulas ask for is among the patterns.
abbrev pub AreWithin : List PatternAutomata → List FormulaView → Type 0
AreWithin patterns formulas = All (IsWithin (length patterns)) formulas

-- The pattern of an atom, if it is of one that exists.
abbrev pub url_pattern : List PatternAutomata → AtomView → Option PatternAutomata
url_pattern patterns (of_url pattern) = slice_get patterns pattern
url_pattern patterns (of_name attribute name) = None

-- The pattern of a literal, if it is of one and says `holds`.
abbrev pub pattern_of : List PatternAutomata → (holds : Bool) → LiteralView
    → Option PatternAutomata
pattern_of patterns holds it = if beq it.holds holds then url_pattern patterns it.atom else None

-- The patterns that match where the literals are so, or those that do not.
abbrev pub patterns_in : List PatternAutomata → (holds : Bool) → List LiteralView
    → List PatternAutomata
patterns_in patterns holds literals = filter_map (pattern_of patterns holds) literals
