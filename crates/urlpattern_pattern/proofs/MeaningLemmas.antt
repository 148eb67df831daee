-- A compiled pattern returns what its pattern texts mean.
use Rattle.std.proofs.Common.{◌≡◌, ◌≢◌, ℕ, true, false, List, [], ◌∷◌, ap, arith, inl, inr, refl, subst, sym, ◌∙◌}
use Rattle.std.proofs.lemmas.Bool.{or_parts}
use Rattle.std.proofs.lemmas.List.Elements.{All-cons}
use Rattle.std.specs.Prelude.{All, MatchOption, Option, Some, None, option_map, Ok}
use Rattle.url.specs.Parser.{Parsed}
use Rattle.urlpattern_matcher.specs.Components.{ComponentView, IsComponentOf, IsEngineOf, engine_flags, has_regexp, is_custom}
use Rattle.urlpattern_matcher.specs.declared.regexp.RegExp.{Ghosts as Engine}
use Rattle.urlpattern_init.specs.declared.init.UrlPatternMatchInput.{UrlPatternMatchInput}
use Rattle.urlpattern_components.specs.declared.eight.ComponentName.{ComponentName}
use Rattle.urlpattern_inputs.specs.declared.options.UrlPatternOptions.{UrlPatternOptions}
use Rattle.urlpattern_meaning.proofs.CallbackLaws.{EncodesOnce, reading_one_encoded}
use Rattle.urlpattern_meaning.proofs.MatcherMeaning.{matcher_means}
use Rattle.urlpattern_meaning.specs.Matching.{Agrees, Returns}
use Rattle.urlpattern_meaning.specs.PartMeaning.{Captures, PartsMean}
use Rattle.urlpattern_pattern.proofs.MatchLaws.{no_input-long, texts-one}
use Rattle.urlpattern_compile.specs.Compiled.{AreCompiled, ParseSettings, canonical_encoding, settings_of}
use Rattle.urlpattern_pattern.specs.Match.{HasNoMatch, IsLongInput, IsMatch}
use Rattle.urlpattern_matches.specs.ResultViews.{IsResultOf, ResultView, group_of, result_view}
use Rattle.urlpattern_matches.specs.declared.result.UrlPatternResult.{UrlPatternResult}
use Rattle.urlpattern_matches.specs.MatchInput.{input_texts}
use Rattle.urlpattern_pattern.specs.MatchMeaning.{IsExecuted, IsFoundByMeaning, IsMeant, MeaningPremises, ReadsAs}
use Rattle.urlpattern_pattern.specs.Patterns.{PatternView}
use Rattle.urlpattern_syntax.specs.declared.parser.PartType.{PartType}
use Rattle.urlpattern_syntax.specs.declared.parser.PartType.TheVariants.{Regexp}
use Rattle.urlpattern_syntax.specs.Parts.{PartView}
use Rattle.urlpattern_syntax.specs.RegexpText.{group_names}
use Rattle.urlpattern_syntax.specs.Text.{text_of}
use Rattle.urlpattern_components.specs.Eight.{Texts, Values, at}

-- ---- no custom regular expression

not_regexp : (kind : PartType) → is_custom kind ≡ false → kind ≢ Regexp
not_regexp kind other is = let e : true ≡ false = ap is_custom (sym is) ∙ other in cc e

pub none_custom : (parts : List PartView) → has_regexp parts ≡ false → All (λ part. part.kind ≢ Regexp) parts
none_custom [] none = λ k d lt. absurd (omega (arith, lt))
none_custom (part ∷ parts) none =
    let split = or_parts (is_custom part.kind) (has_regexp parts) none in
    All-cons (λ (other : PartView). other.kind ≢ Regexp) part parts (not_regexp part.kind split.0) (none_custom parts split.1)

-- ---- canonical values are one

pub canonical_once : (canonical : List ℕ → Parsed (List ℕ)) → EncodesOnce (canonical_encoding canonical)
canonical_once canonical text answer other (Ok string, is_answer, same) (Ok another, is_other, too) =
    let one : answer ≡ text_of string = cc same in
    let two : other ≡ text_of another = cc too in
    let both : text_of string ≡ text_of another = cc (is_answer, is_other) in
    one ∙ both ∙ sym two
canonical_once canonical text answer other found more = absurd cc

-- A pattern text reads as one list of parts.
pub read_once : (settings : ParseSettings) (parts others : List PartView) → ReadsAs settings parts → ReadsAs settings others → parts ≡ others
read_once settings parts others reads also =
    reading_one_encoded settings.text settings.options (canonical_encoding settings.canonical) parts others (canonical_once settings.canonical) reads also

-- ---- one component

-- The matcher of a component returns what the parts mean that its pattern text reads as.
component_agrees : {E : Type 0} (engine : Engine E) (settings : ParseSettings) (compiled : ComponentView E)
    (text : List ℕ) (parts : List PartView) (result : Option Captures) →
    ReadsAs settings parts →
    IsComponentOf engine settings.options parts compiled →
    MeaningPremises engine.answer settings compiled text →
    Returns engine.answer compiled.matcher text result →
    Agrees settings.options parts text result
component_agrees engine settings compiled text parts result reads is_component premises answers =
    matcher_means engine.answer (IsEngineOf engine false (engine_flags settings.options)) settings.options parts compiled.matcher text result is_component.has_matcher
    (none_custom parts (sym is_component.regexp_flag ∙ premises.generated)) premises.case_kept premises.no_line_feed premises.characters
    (premises.follows parts reads) answers

-- ---- a whole pattern

module _ {E : Type 0} (engine : Engine E) (asked : UrlPatternOptions) (values : Values) (pattern : PatternView E)
    (compiled : AreCompiled engine asked values pattern) (texts : Texts) where
  -- How the pattern text of a component is read.
  abbrev settings : ComponentName → ParseSettings
  settings = settings_of asked values compiled.hierarchical

  -- The premises on a component.
  abbrev Premises : ComponentName → Type 0
  Premises component = MeaningPremises engine.answer (settings component) (pattern component) (at texts component)

  -- A match is a meaning.
  found_meant : (component : ComponentName) (captures : Captures) → Premises component → Returns engine.answer (pattern component).matcher (at texts component) (Some captures) →
      (meant : IsMeant (settings component) (at texts component))
      × (group_names meant.parts ≡ (pattern component).group_name_list) × (meant.captures ≡ captures)
  found_meant component captures premises answers =
      let (parts, reads, is_component) = (compiled.are_compiled component).0 in (
        record {
          parts = parts;
          captures = captures;
          reads = reads;
          means = component_agrees engine (settings component) (pattern component) (at texts component) parts (Some captures) reads is_component premises answers;
        },
        sym is_component.has_names,
        refl,
      )

  -- Without a match there is no meaning.
  refused_unmeant : (component : ComponentName) → Premises component → Returns engine.answer (pattern component).matcher (at texts component) None →
      ¬ IsMeant (settings component) (at texts component)
  refused_unmeant component premises answers meant =
      let (parts, reads, is_component) = (compiled.are_compiled component).0 in
      let same : meant.parts ≡ parts = read_once (settings component) meant.parts parts meant.reads reads in
      component_agrees engine (settings component) (pattern component) (at texts component) parts None reads is_component premises answers
      meant.captures (subst (λ (of : List PartView). PartsMean (settings component).options of (at texts component) meant.captures) same meant.means)

  result_meant : (component : ComponentName) (captures : Captures) (result : ResultView) → Premises component →
      Returns engine.answer (pattern component).matcher (at texts component) (Some captures) →
      IsResultOf (pattern component).group_name_list captures (at texts component) result →
      (meant : IsMeant (settings component) (at texts component))
      × IsResultOf (group_names meant.parts) meant.captures (at texts component) result
  result_meant component captures result premises answers is_result =
      let (meant, names, captured) = found_meant component captures premises answers in (
        meant,
        record {
          has_input = is_result.has_input;
          has_groups = λ name. is_result.has_groups name ∙ ap (λ list. group_of list captures name) (sym names)
              ∙ ap (λ list. group_of (group_names meant.parts) list name) (sym captured);
        },
      )

  pub executed_means : (input : UrlPatternMatchInput) (found : Option (ComponentName → ResultView)) → input_texts input ≡ Ok texts → ¬ IsLongInput input →
      IsExecuted engine.answer pattern input found → IsFoundByMeaning engine.answer settings pattern texts found
  executed_means input (Some result) are_texts short (others, are_others, match) = λ component premises.
      let same = texts-one input others texts are_others are_texts in
      result_meant component (match.captures component) (result component) premises
      (subst (λ (t : Texts). Returns engine.answer (pattern component).matcher (at t component) (Some (match.captures component))) same (match.are_answers component))
      (subst (λ (t : Texts). IsResultOf (pattern component).group_name_list (match.captures component) (at t component) (result component)) same (match.are_results component))
  executed_means input None are_texts short (inl no_input) = absurd (short (no_input-long input texts are_texts no_input))
  executed_means input None are_texts short (inr (others, are_others, (component, refused))) = λ premises meant.
      let same = texts-one input others texts are_others are_texts in
      refused_unmeant component (premises component) (subst (λ (t : Texts). Returns engine.answer (pattern component).matcher (at t component) None) same refused) (meant component)

-- ---- a pattern that is matched once

pub executed_of : {E : Type 0} (answer : E → List ℕ → Option Captures) (pattern : PatternView E) (input : UrlPatternMatchInput) (found : Option UrlPatternResult) →
    MatchOption found (HasNoMatch answer pattern input) (λ result. IsMatch answer pattern input (result_view result)) →
    IsExecuted answer pattern input (option_map result_view found)
executed_of answer pattern input None unmatched = unmatched
executed_of answer pattern input (Some result) match = match
