-- The outcome of matching the texts of a URL, component by component.
use Rattle.std.specs.Prelude.{◌≡◌, ℕ, List, Option, Vec}
use Rattle.std.specs.Borrow.{Bor}
use Rattle.std.specs.declared.alloc.Global.{Global}
use Rattle.urlpat_explain.specs.declared.outcome.Outcome.{Outcome}
use Rattle.urlpattern_components.specs.Eight.{Texts, at}
use Rattle.urlpattern_components.specs.declared.eight.ComponentName.{ComponentName}
use Rattle.urlpattern_engine.specs.PatternRegexps.{pattern_result}
use Rattle.urlpattern_engine.specs.declared.pattern_regexp.PatternRegexp.{PatternRegexp}
use Rattle.urlpattern_matches.specs.GroupTexts.{borrowed_texts}
use Rattle.urlpattern_meaning.specs.CaptureTexts.{captures_view}
use Rattle.urlpattern_meaning.specs.Matching.{Returns}
use Rattle.urlpattern_pattern.specs.Patterns.{PatternView}

-- What the groups of a component capture of its text. `None`: the text does not match.
abbrev pub HasCaptures : PatternView PatternRegexp → Texts → ComponentName
    → Option (Vec (Option (Bor (List ℕ))) Global) → Type 0
HasCaptures pattern texts name captures =
    Returns pattern_result (pattern name).matcher (at texts name) (captures_view captures)

-- `outcome` has these texts, and what the groups of each component capture of them.
pub record IsOutcome (pattern : PatternView PatternRegexp) (texts : Texts) (outcome : Outcome)
    : Type 0 where
  pub has_texts : borrowed_texts outcome.texts ≡ texts
  pub has_captures : (name : ComponentName)
      → HasCaptures pattern texts name (at outcome.captures name)
