-- Compiled patterns return what their pattern texts say.
use Rattle.std.proofs.Common.{◌≡◌, ℕ, ◌<◌, ◌↔◌, Bool, true, false, List, ap, length, inl, inr, refl, subst, sym, ◌∙◌}
use Rattle.std.proofs.lemmas.Bool.{and_parts}
use Rattle.std.proofs.lemmas.List.Sums.{AllPass-from_list_all}
use Rattle.std.proofs.lemmas.Option.{same_Some}
use Rattle.std.specs.List.{All, Any}
use Rattle.std.specs.Str.{all_scalars}
use Rattle.std.specs.Prelude.{◌&&◌, Option, Some, None, Ok, IsTrue, slice_index_or}
use Rattle.urlpattern_canonical.specs.Canonical.{special_schemes}
use Rattle.urlpattern_expressions.proofs.SimpleLemmas.{generated_simple}
use Rattle.urlpattern_expressions.specs.PartsFirst.{ReturnsFirstOfParts}
use Rattle.urlpattern_expressions.specs.PartWays.{parts_first_way}
use Rattle.urlpattern_expressions.specs.SimpleExpressions.{HaveMeaning}
use Rattle.urlpattern_matcher.specs.Components.{ComponentView, IsComponentOf, engine_flags}
use Rattle.urlpattern_matcher.specs.FirstWays.{Acceptance}
use Rattle.urlpattern_matcher.proofs.FirstMatchers.{flags_agree}
use Rattle.urlpattern_printing.specs.Generated.{AreGenerated}
use Rattle.urlpattern_matcher.specs.declared.regexp.RegExp.{Ghosts as Engine}
use Rattle.urlpattern_init.specs.SpecialProtocol.{AcceptsSpecialScheme}
use Rattle.urlpattern_init.specs.UrlTexts.{IsLine}
use Rattle.urlpattern_init.specs.declared.init.UrlPatternInit.{UrlPatternInit}
use Rattle.urlpattern_inputs.specs.declared.options.UrlPatternOptions.{UrlPatternOptions}
use Rattle.urlpattern_meaning.specs.Matching.{Returns, InnerView}
use Rattle.urlpattern_meaning.specs.PartMeaning.{Captures}
use Rattle.urlpattern_components.specs.declared.eight.ComponentName.{ComponentName}
use Rattle.urlpattern_components.specs.declared.eight.ComponentName.TheVariants.{Protocol}
use Rattle.urlpattern_components.specs.Eight.{Texts, Values, at}
use Rattle.urlpattern_syntax.specs.Parts.{PartView}
use Rattle.urlpattern_syntax.specs.RegexpText.{group_names}
use Rattle.urlpattern_syntax.specs.Text.{lacks, line_feed}
use Rattle.urlpattern_pattern.proofs.MatchersDecide.{answered}
use Rattle.urlpattern_pattern.proofs.MatchLaws.{no_input-long, texts-one}
use Rattle.urlpattern_pattern.proofs.MeaningLemmas.{executed_means, none_custom, read_once}
use Rattle.urlpattern_pattern.specs.ByText.{AcceptedAlone, EachReturnsFirstOfParts, ReturnsByItsText, ReturnsByText, HasMeaning, IsFirstResult, IsFirstWay, IsExecutedByMeaning, IsFoundByText, IsHierarchicalByText, MakesFirstWays}
use Rattle.urlpattern_compile.specs.Compiled.{AreCompiled, HasHierarchicalPath, IsComponentCompiled, IsPathKind, IsPatternOfInit, ParseSettings, settings_of, pattern_values}
use Rattle.urlpattern_init.specs.declared.init.UrlPatternMatchInput.{UrlPatternMatchInput}
use Rattle.urlpattern_matches.specs.MatchInput.{input_texts}
use Rattle.urlpattern_pattern.specs.Match.{FindsInTexts, IsLongInput, IsMatchOf, DoesNotMatch}
use Rattle.urlpattern_matches.specs.ResultViews.{IsResultOf, IsSameResult, ResultView, group_of}
use Rattle.urlpattern_pattern.specs.ByTextLaws.{AllHaveMeaning, FindingsAreOne, IsSameFinding, AcceptedPatternsReturnByText}
use Rattle.urlpattern_pattern.specs.MatchMeaning.{IsExecuted, ReadsAs}
use Rattle.urlpattern_pattern.specs.Patterns.{PatternView}

-- ---- no custom regular expression

-- A component without a custom regular expression, and with its case kept, has a meaning.
pub has_meaning : {E : Type 0} (engine : Engine E) (settings : ParseSettings) (compiled : ComponentView E) → IsComponentCompiled engine settings compiled →
    compiled.has_regexp_group ≡ false → settings.options.ignore_case ≡ false → HasMeaning settings
has_meaning engine settings compiled is_compiled none kept =
    let (parts, reads, is_component) = is_compiled.0 in
    record {
      simple = λ others also.
          generated_simple others (subst (λ (ps : List PartView). AreGenerated ps) (read_once settings parts others reads also) (none_custom parts (sym is_component.regexp_flag ∙ none)));
      case_kept = kept;
    }

-- ---- first ways

pub way_one : (settings : ParseSettings) (text : List ℕ) (captures others : Option Captures) → IsFirstWay settings text captures → IsFirstWay settings text others → captures ≡ others
way_one settings text captures others first last =
    let parts : first.parts ≡ last.parts = read_once settings first.parts last.parts first.reads last.reads in
    first.is_first.is_first ∙ ap (λ (ps : List PartView). parts_first_way settings.options ps text) parts ∙ sym last.is_first.is_first

-- ---- one component

module _ {E : Type 0} (answer : E → List ℕ → Option Captures) (settings : ParseSettings) (compiled : ComponentView E) (by : ReturnsByText answer settings compiled)
    (text : List ℕ) (line : IsLine text) where
  -- The matcher's result is the first way.
  abbrev pub answer_first : (result : Option Captures) → Returns answer compiled.matcher text result → IsFirstWay settings text result
  answer_first result answers =
      record { parts = by.parts; reads = by.reads; is_first = by.answers text result line.no_line_feed line.characters answers }

  -- The first way is the matcher's result.
  pub first_answer : (result : Option Captures) → IsFirstWay settings text result → Returns answer compiled.matcher text result
  first_answer result way =
      let (found, answers) = answered answer compiled.matcher text in
      subst (λ (r : Option Captures). Returns answer compiled.matcher text r) (way_one settings text found result (answer_first found answers) way) answers

  pub result_first : (captures : Captures) (result : ResultView) → Returns answer compiled.matcher text (Some captures) →
      IsResultOf compiled.group_name_list captures text result → IsFirstResult settings text result
  result_first captures result answers is_result = record {
    captures = captures;
    way = answer_first (Some captures) answers;
    is_result = subst (λ (names : List (List ℕ)). IsResultOf names captures text result) by.has_names is_result;
  }

-- A compiled component returns what its text says, if its matcher returns first ways.
pub component_by : {E : Type 0} (engine : Engine E) (settings : ParseSettings) (compiled : ComponentView E) → IsComponentCompiled engine settings compiled → HasMeaning settings →
    ((parts : List PartView) → ReadsAs settings parts → IsComponentOf engine settings.options parts compiled → HaveMeaning settings.options parts → ReturnsFirstOfParts engine.answer settings.options parts compiled.matcher) →
    ReturnsByText engine.answer settings compiled
component_by engine settings compiled is_compiled has firsts =
    let (parts, reads, is_component) = is_compiled.0 in
    record {
      parts = parts;
      reads = reads;
      has_names = is_component.has_names;
      answers = firsts parts reads is_component (record { simple = has.simple parts reads; case_kept = has.case_kept });
    }

-- ---- whether the pathname is hierarchical

is_line : List ℕ → Bool
is_line text = all_scalars text && lacks line_feed text

special_lines : All (λ (scheme : List ℕ × Option (List ℕ)). IsLine scheme.0) special_schemes
unfolding is_line
special_lines =
    let all = AllPass-from_list_all (λ (scheme : List ℕ × Option (List ℕ)). is_line scheme.0) special_schemes refl in
    λ k scheme lt.
    let here = (slice_index_or special_schemes k scheme).0 in
    let both = and_parts (all_scalars here) (lacks line_feed here) (all k scheme lt) in
    record { characters = both.0; no_line_feed = both.1 }

module _ {E : Type 0} (answer : E → List ℕ → Option Captures) (settings : ParseSettings) (protocol : ComponentView E) (by : ReturnsByText answer settings protocol) where
  line_at : (k : ℕ) (scheme : List ℕ × Option (List ℕ)) → k < length special_schemes → slice_index_or special_schemes k scheme ≡ scheme → IsLine scheme.0
  line_at k scheme lt here = subst (λ (s : List ℕ × Option (List ℕ)). IsLine s.0) here (special_lines k scheme lt)

  pub scheme_taken : AcceptsSpecialScheme answer protocol.matcher → Any (λ scheme. (captures : Captures) × IsFirstWay settings scheme.0 (Some captures)) special_schemes
  scheme_taken (k, scheme, lt, here, (captures, matches)) =
      (k, scheme, lt, here, (captures, answer_first answer settings protocol by scheme.0 (line_at k scheme lt here) (Some captures) matches))

  pub scheme_accepted : Any (λ scheme. (captures : Captures) × IsFirstWay settings scheme.0 (Some captures)) special_schemes → AcceptsSpecialScheme answer protocol.matcher
  scheme_accepted (k, scheme, lt, here, (captures, way)) =
      (k, scheme, lt, here, (captures, first_answer answer settings protocol by scheme.0 (line_at k scheme lt here) (Some captures) way))

kind_by : {E : Type 0} (answer : E → List ℕ → Option Captures) (asked : UrlPatternOptions) (values : Values) (protocol : ComponentView E) (hierarchical : Bool) →
    ReturnsByText answer (settings_of asked values false Protocol) protocol → IsPathKind answer values protocol.matcher hierarchical → IsTrue hierarchical ↔ IsHierarchicalByText asked values
kind_by {E} answer asked values protocol hierarchical by (only, kind) = (λ is. to (only is), λ is. kind (from is))
  where
    settings : ParseSettings
    settings = settings_of asked values false Protocol

    to : HasHierarchicalPath answer values protocol.matcher → IsHierarchicalByText asked values
    to (inl empty) = inl empty
    to (inr (inl accepts)) = inr (inl (scheme_taken answer settings protocol by accepts))
    to (inr (inr slash)) = inr (inr slash)

    from : IsHierarchicalByText asked values → HasHierarchicalPath answer values protocol.matcher
    from (inl empty) = inl empty
    from (inr (inl taken)) = inr (inl (scheme_accepted answer settings protocol by taken))
    from (inr (inr slash)) = inr (inr slash)

-- ---- whole patterns

module _ {E : Type 0} (engine : Engine E) (init : UrlPatternInit) (asked : UrlPatternOptions) (values : Values) (pattern : PatternView E)
    (are_values : pattern_values init ≡ Ok values) (compiled : AreCompiled engine asked values pattern) where
  abbrev manner_here : ComponentName → ParseSettings
  manner_here = settings_of asked values compiled.hierarchical

  -- Each component that has a meaning returns what its pattern text says.
  pub pattern_by : ((component : ComponentName) → HasMeaning (manner_here component) → ReturnsByText engine.answer (manner_here component) (pattern component)) →
      ReturnsByItsText engine.answer init asked pattern
  pattern_by each = record {
    values = values;
    hierarchical = compiled.hierarchical;
    by_protocol = compiled.path_kind;
    are_values = are_values;
    path_kind = λ has. kind_by engine.answer asked values (pattern Protocol) compiled.hierarchical (each Protocol has) compiled.path_kind;
    answers = each;
  }

  -- The engine accepted the texts.
  pub pattern_by_took : (Accepted : Acceptance E) → EachReturnsFirstOfParts engine Accepted →
      ((component : ComponentName) → HasMeaning (manner_here component) → Accepted (manner_here component).options (engine_flags (manner_here component).options) (pattern component).matcher.inner) → ReturnsByItsText engine.answer init asked pattern
  pattern_by_took Accepted firsts took = pattern_by (λ component has.
      let settings = manner_here component in
      component_by engine settings (pattern component) (compiled.are_compiled component) has
      (λ parts reads is_component have. firsts settings.options (engine_flags settings.options) parts (pattern component).matcher is_component.has_matcher have (took component has)))

-- ---- results

module _ {E : Type 0} (answer : E → List ℕ → Option Captures) (init : UrlPatternInit) (asked : UrlPatternOptions) (pattern : PatternView E) (by : ReturnsByItsText answer init asked pattern) (texts : Texts) where
  pub match_by_text : (result : ComponentName → ResultView) → IsMatchOf answer pattern texts result → IsFoundByText (settings_of asked by.values by.hierarchical) texts (Some result)
  match_by_text result match = λ component has line.
      result_first answer (settings_of asked by.values by.hierarchical component) (pattern component) (by.answers component has) (at texts component) line
      (match.captures component) (result component) (match.are_answers component) (match.are_results component)

  pub refusal_by_text : DoesNotMatch answer pattern texts → IsFoundByText (settings_of asked by.values by.hierarchical) texts None
  refusal_by_text (component, refused) = λ all.
      let (has, line) = all component in
      (component, answer_first answer (settings_of asked by.values by.hierarchical component) (pattern component) (by.answers component has) (at texts component) line None refused)

  pub finding_by_text : (found : Option (ComponentName → ResultView)) → FindsInTexts (λ result. result) answer pattern texts found → IsFoundByText (settings_of asked by.values by.hierarchical) texts found
  finding_by_text None refused = refusal_by_text refused
  finding_by_text (Some result) match = match_by_text result match

-- ---- one result

pub result_one : (settings : ParseSettings) (text : List ℕ) (result other : ResultView) → IsFirstResult settings text result → IsFirstResult settings text other → IsSameResult result other
result_one settings text result other first last =
    let parts : first.way.parts ≡ last.way.parts = read_once settings first.way.parts last.way.parts first.way.reads last.way.reads in
    let captures : first.captures ≡ last.captures = same_Some _ _ (way_one settings text (Some first.captures) (Some last.captures) first.way last.way) in (
      first.is_result.has_input ∙ sym last.is_result.has_input,
      λ name.
          first.is_result.has_groups name ∙ ap (λ (ps : List PartView). group_of (group_names ps) first.captures name) parts
          ∙ ap (λ (c : Captures). group_of (group_names last.way.parts) c name) captures ∙ sym (last.is_result.has_groups name),
    )

differ : (settings : ComponentName → ParseSettings) (texts : Texts) (result : ComponentName → ResultView) → AllHaveMeaning settings texts → IsFoundByText settings texts None → IsFoundByText settings texts (Some result) → ⊥
differ settings texts result all none found =
    let (component, way) = none all in
    let first = found component (all component).0 (all component).1 in
    let same : None ≡ Some first.captures = way_one (settings component) (at texts component) None (Some first.captures) way first.way in
    cc same

pub finding_one : FindingsAreOne
finding_one settings texts None None all found other = tt
finding_one settings texts (Some result) (Some other) all found also = λ component.
    let (has, line) = all component in
    result_one (settings component) (at texts component) (result component) (other component) (found component has line) (also component has line)
finding_one settings texts None (Some other) all found also = differ settings texts other all found also
finding_one settings texts (Some result) None all found also = differ settings texts result all also found

never_true : IsTrue false → ⊥
never_true is = let both : false ≡ true = is in cc both

pub bool_one : (P : Type 0) (test other : Bool) → IsTrue test ↔ P → IsTrue other ↔ P → test ≡ other
bool_one P true true same also = refl
bool_one P false false same also = refl
bool_one P true false same also = absurd (never_true (also.1 (same.0 refl)))
bool_one P false true same also = absurd (never_true (same.1 (also.0 refl)))

module _ {E F : Type 0} (answer : E → List ℕ → Option Captures) (other : F → List ℕ → Option Captures) (init : UrlPatternInit) (asked : UrlPatternOptions)
    (pattern : PatternView E) (another : PatternView F) (by : ReturnsByItsText answer init asked pattern) (also_by : ReturnsByItsText other init asked another) where
  values_one : by.values ≡ also_by.values
  values_one = cc (by.are_values, also_by.are_values)

  kind_one : HasMeaning (settings_of asked by.values false Protocol) → by.hierarchical ≡ also_by.hierarchical
  kind_one has =
      bool_one (IsHierarchicalByText asked by.values) by.hierarchical also_by.hierarchical (by.path_kind has)
      (subst (λ (v : Values). IsTrue also_by.hierarchical ↔ IsHierarchicalByText asked v) (sym values_one)
      (also_by.path_kind (subst (λ (v : Values). HasMeaning (settings_of asked v false Protocol)) values_one has)))

  manner_one : HasMeaning (settings_of asked by.values false Protocol) → settings_of asked also_by.values also_by.hierarchical ≡ settings_of asked by.values by.hierarchical
  manner_one has = ap (λ (v : Values). settings_of asked v also_by.hierarchical) (sym values_one) ∙ ap (λ (h : Bool). settings_of asked by.values h) (sym (kind_one has))

  pub found_alike : (texts : Texts) (found also : Option (ComponentName → ResultView)) → AllHaveMeaning (settings_of asked by.values by.hierarchical) texts →
      FindsInTexts (λ result. result) answer pattern texts found → FindsInTexts (λ result. result) other another texts also → IsSameFinding found also
  found_alike texts found also all finds finds_too =
      finding_one (settings_of asked by.values by.hierarchical) texts found also all (finding_by_text answer init asked pattern by texts found finds)
      (subst (λ (m : ComponentName → ParseSettings). IsFoundByText m texts also) (manner_one (all Protocol).0) (finding_by_text other init asked another also_by texts also finds_too))

pub init_by_text : {E : Type 0} (engine : Engine E) (init : UrlPatternInit) (asked : UrlPatternOptions) (pattern : PatternView E) → IsPatternOfInit engine init asked pattern → MakesFirstWays engine →
    ReturnsByItsText engine.answer init asked pattern
init_by_text engine init asked pattern (values, are_values, compiled) firsts =
    pattern_by_took engine init asked values pattern are_values compiled AcceptedAlone firsts
    (λ component has. (flags_agree (settings_of asked values compiled.hierarchical component).options, (compiled.are_compiled component).1.of_matcher))

pub taken_by_text : {E : Type 0} (engine : Engine E) (Accepted : InnerView E → Type 0) → EachReturnsFirstOfParts engine (λ options flags. Accepted) → AcceptedPatternsReturnByText engine Accepted
taken_by_text engine Accepted firsts = λ init asked values pattern are_values compiled took.
    pattern_by_took engine init asked values pattern are_values compiled (λ options flags. Accepted) firsts took

-- What is found in an input.
pub input_by_text : {E : Type 0} (answer : E → List ℕ → Option Captures) (init : UrlPatternInit) (asked : UrlPatternOptions) (pattern : PatternView E) (by : ReturnsByItsText answer init asked pattern)
    (input : UrlPatternMatchInput) (found : Option (ComponentName → ResultView)) (texts : Texts) → input_texts input ≡ Ok texts → ¬ IsLongInput input → IsExecuted answer pattern input found →
    IsFoundByText (settings_of asked by.values by.hierarchical) texts found
input_by_text answer init asked pattern by input (Some result) texts are_texts short (others, are_others, match) =
    let same = texts-one input others texts are_others are_texts in
    match_by_text answer init asked pattern by texts result (subst (λ (t : Texts). IsMatchOf answer pattern t result) same match)
input_by_text answer init asked pattern by input None texts are_texts short (inl no_input) = absurd (short (no_input-long input texts are_texts no_input))
input_by_text answer init asked pattern by input None texts are_texts short (inr (others, are_others, refused)) =
    let same = texts-one input others texts are_others are_texts in
    refusal_by_text answer init asked pattern by texts (subst (λ (t : Texts). DoesNotMatch answer pattern t) same refused)

-- ---- a pattern that is matched once

pub executed_by_text : {E : Type 0} (engine : Engine E) (init : UrlPatternInit) (asked : UrlPatternOptions) (input : UrlPatternMatchInput) (pattern : PatternView E) (found : Option (ComponentName → ResultView)) →
    IsPatternOfInit engine init asked pattern → IsExecuted engine.answer pattern input found → IsExecutedByMeaning engine init asked input found
executed_by_text engine init asked input pattern found (values, are_values, compiled) executed = record {
  values = values;
  pattern = pattern;
  are_values = are_values;
  compiled = compiled;
  executed = executed;
  means = λ texts are_texts short. executed_means engine asked values pattern compiled texts input found are_texts short executed;
  by_text = init_by_text engine init asked pattern (values, are_values, compiled);
  found_by_text = λ firsts texts are_texts short.
      input_by_text engine.answer init asked pattern (init_by_text engine init asked pattern (values, are_values, compiled) firsts) input found texts are_texts short executed;
}
