-- What a component captures if a custom expression may have groups of its own, as `(?P<x>..)`: its
-- captures are those of all groups of the expression that the engine reads, in the order in which
-- the groups begin. Names are beside captures in order, so a group of an expression has the name of
-- the next part.
use Rattle.std.specs.Prelude.{◌≡◌, ℕ, false, List, ◌++◌, length, Option, Some}
use Rattle.regex_hir.specs.Re.{Re}
use Rattle.regex_syntax.specs.Brackets.{Nested}
use Rattle.regex_syntax.specs.Grammar.{Names, read}
use Rattle.regex_syntax.specs.Verdict.{default_config}
use Rattle.urlpattern_compile.specs.Compiled.{IsComponentCompiled, ParseSettings, ReadsAs}
use Rattle.urlpattern_engine.specs.GrammarReadings.{re_result}
use Rattle.urlpattern_init.specs.UrlTexts.{IsLine}
use Rattle.urlpattern_matcher.specs.Components.{ComponentView}
use Rattle.urlpattern_matcher.specs.declared.regexp.RegExp.{Ghosts as Engine}
use Rattle.urlpattern_meaning.specs.Matching.{AreStripped, HoldsEngine, Matches, end_text}
use Rattle.urlpattern_meaning.specs.PartMeaning.{Captures}
use Rattle.urlpattern_syntax.specs.{Options.OptionsView, Parts.PartView, RegexpText.regexp_text}

-- `captures` are those of the first match of the expression of the parts between an initial and a
-- final fixed text without modifier, where there are such, in the text between these two: one for
-- each group that the grammar of `regex` reads in the expression, in order.
pub record AreOfGroups (options : OptionsView) (parts : List PartView) (text : List ℕ)
    (captures : Captures) : Type 0 where
  pub front : Option PartView
  pub middle : List PartView
  pub back : Option PartView
  pub are_stripped : AreStripped parts front middle back
  pub inner : List ℕ
  pub cut : text ≡ end_text front ++ inner ++ end_text back
  pub pattern : Nested Re
  pub names : Names
  pub is_read : read default_config (regexp_text options middle) ≡ Some (pattern, names)
  pub are_captures : re_result pattern.value (length names) inner ≡ Some captures

-- A compiled component whose matcher has an engine, as each has with a custom part, captures in a
-- line what the groups of its expression do (`AreOfGroups`), if case is kept.
abbrev pub ComponentsCaptureByGroups : {E : Type 0} → Engine E → Type 0
ComponentsCaptureByGroups {E} engine =
    (settings : ParseSettings) (compiled : ComponentView E) (parts : List PartView) (text : List ℕ)
    (captures : Captures)
    →
    IsComponentCompiled engine settings compiled → ReadsAs settings parts
    → settings.options.ignore_case ≡ false
    → HoldsEngine compiled.matcher.inner → IsLine text
    →
    Matches engine.answer compiled.matcher text captures
    → AreOfGroups settings.options parts text captures
