-- Patterns that two lists of rules share.
use Rattle.std.specs.Prelude.{ℕ, Contains, List, Option}
use Rattle.urlpattern_compare.specs.Comparing.{AreSame}
use Rattle.urlpattern_compare.specs.declared.common_texts.PatternAutomata.{PatternAutomata}
use Rattle.urlpattern_compare.specs.declared.pattern_parts.PatternParts.{PatternParts}
use Rattle.urlpattern_components.specs.Eight.{at}
use Rattle.urlpattern_components.specs.declared.eight.ComponentName.{ComponentName}
use Rattle.urlpattern_differences.specs.Deciding.{before, pattern_of}

-- Each component of the two patterns is equal but for the names of groups.
abbrev pub AreAlike : (parts others : PatternParts) → Type 0
AreAlike parts others =
    (name : ComponentName) → AreSame (at parts.components name) (at others.components name)

-- Some pattern is the same as the asked one.
abbrev pub IsAmong : (asked : PatternAutomata) → (patterns : List PatternAutomata) → Type 0
IsAmong asked patterns =
    (it : PatternAutomata) × Contains patterns it × AreAlike it.parts asked.parts

-- A rule of `others` before `other` has the pattern that `rule` has in `patterns`.
abbrev pub IsEarlier : (patterns : List PatternAutomata) → (rule : Option ℕ)
    → (others : List PatternAutomata) → (other : Option ℕ) → Type 0
IsEarlier patterns rule others other =
    (asked : PatternAutomata) × Contains (pattern_of patterns rule) asked
    × IsAmong asked (before others other)
