-- A component captures what the groups of its expression do, in order.
use Rattle.std.proofs.Common.{◌≡◌, ℕ, List, false, Option, Some, Result, refl, sym, subst, ◌∙◌}
use Rattle.std.specs.Prelude.{⊤, IfSome, IsSome, Ok, Err}
use Rattle.regex_hir.proofs.OptionLemmas.{value_of_IsSome}
use Rattle.regex_syntax.specs.Grammar.{read}
use Rattle.regex_syntax.specs.Verdict.{default_config}
use Rattle.urlpattern_engine.proofs.EngineLaws.{pattern_values_read, regex_values_read}
use Rattle.urlpattern_engine.proofs.GrammarResults.{read_by_default, regex_some}
use Rattle.urlpattern_engine.specs.GrammarReadings.{ValuesReturnAsRead}
use Rattle.urlpattern_engine.specs.PatternRegexps.{pattern_engine}
use Rattle.urlpattern_init.specs.UrlTexts.{IsLine}
use Rattle.urlpattern_laws.proofs.MatchersTaken.{asked, made_between}
use Rattle.urlpattern_laws.proofs.ValuesTaken.{some_if_kept}
use Rattle.urlpattern_laws.specs.OwnGroups.{AreOfGroups, ComponentsCaptureByGroups}
use Rattle.urlpattern_matcher.proofs.FirstMatchers.{flags_agree}
use Rattle.urlpattern_matcher.specs.Components.{IsEngineOf, engine_flags}
use Rattle.urlpattern_matcher.specs.FirstWays.{Keeping, KeepsCase}
use Rattle.urlpattern_matcher.specs.Regexes.{regex_engine}
use Rattle.urlpattern_matcher.specs.declared.regexp.RegExp.{Ghosts as Engine}
use Rattle.urlpattern_meaning.proofs.MatcherMeaning.{ends_of}
use Rattle.urlpattern_meaning.specs.Matching.{HoldsEngine, InnerView, IsMadeOf, Literal, MatcherView, Matches, RegExp, SingleCapture, end_text}
use Rattle.urlpattern_meaning.specs.PartMeaning.{Captures}
use Rattle.urlpattern_pattern.proofs.MeaningLemmas.{read_once}
use Rattle.urlpattern_syntax.specs.Errors.{ErrorView}
use Rattle.urlpattern_syntax.specs.Options.{OptionsView}
use Rattle.urlpattern_syntax.specs.Parts.{PartView}
use Rattle.urlpattern_syntax.specs.RegexpText.{regexp_text}

if_here : {X : Type 0} (o : Option X) (P : X → Type 0) (x : X) → o ≡ Some x → IfSome o P → P x
if_here o P x e h = subst (λ o. IfSome o P) e h

module _ {E : Type 0} (engine : Engine E) (Keeps : Keeping) (keeps : (options : OptionsView) → options.ignore_case ≡ false → Keeps (engine_flags options)) (as_read : ValuesReturnAsRead engine Keeps)
    (some : (regexp flags : List ℕ) (value : E) → Keeps flags → engine.IsMade value regexp flags → IsSome (read default_config regexp)) where
  matcher_groups : (options : OptionsView) (parts : List PartView) (matcher : MatcherView E) (text : List ℕ) (captures : Captures) → IsMadeOf (IsEngineOf engine false (engine_flags options)) options parts matcher →
      options.ignore_case ≡ false → HoldsEngine matcher.inner → IsLine text → Matches engine.answer matcher text captures → AreOfGroups options parts text captures
  matcher_groups options parts matcher text captures made kept holds line matches = by matcher.inner refl holds
    where
      flags : List ℕ
      flags = engine_flags options

      IsEngine : List ℕ → Result E ErrorView → Type 0
      IsEngine = IsEngineOf engine false flags

      by : (inner : InnerView E) → matcher.inner ≡ inner → HoldsEngine inner → AreOfGroups options parts text captures
      by (Literal literal) e holds = absurd holds
      by (SingleCapture filter allow_empty) e holds = absurd holds
      by (RegExp (Err error)) e holds = absurd holds
      by (RegExp (Ok value)) e holds =
          let ends = ends_of IsEngine options (end_text made.front) made.middle (end_text made.back) matcher (Ok value) made.is_made e in
          let of = asked engine.answer options (end_text made.front) (end_text made.back) matcher value ends e kept text captures line.characters matches in
          let regexp = regexp_text options made.middle in
          let is_made = made_between IsEngine options (end_text made.front) made.middle (end_text made.back) matcher (Ok value) made.is_made e in
          let found = value_of_IsSome (read default_config regexp) (some regexp flags value (keeps options kept) is_made) in
          let answers = if_here (read default_config regexp) _ found.0 found.1 (as_read regexp flags value (keeps options kept) is_made) in
          record {
            front = made.front;
            middle = made.middle;
            back = made.back;
            are_stripped = made.are_stripped;
            inner = of.inner;
            cut = of.cut;
            pattern = found.0.0;
            names = found.0.1;
            is_read = found.1;
            are_captures = sym (answers of.inner of.scalars) ∙ of.found;
          }

  component_groups : ComponentsCaptureByGroups engine
  component_groups settings compiled parts text captures is_compiled reads kept holds line matches =
      let (own, also, is) = is_compiled.0 in
      subst (λ (ps : List PartView). AreOfGroups settings.options ps text captures) (read_once settings own parts also reads)
      (matcher_groups settings.options own compiled.matcher text captures is.has_matcher kept holds line matches)

pub pattern_groups : ComponentsCaptureByGroups pattern_engine
pattern_groups =
    component_groups pattern_engine KeepsCase (λ options kept. flags_agree options ∙ kept) pattern_values_read
    (λ regexp flags value keeps made. some_if_kept value.ignore_case regexp value.strategy (made.by_flags ∙ keeps) made.of_text made.has_numbers)

pub regex_groups : ComponentsCaptureByGroups regex_engine
regex_groups =
    component_groups regex_engine (λ flags. ⊤) (λ options kept. tt) regex_values_read (λ regexp flags regex any made. regex_some false regexp regex (read_by_default regexp regex made))
