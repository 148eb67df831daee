-- An init is either compiled to a pattern or rejected.
use Rattle.std.proofs.Common.{◌≡◌, ℕ, Bool, true, false, List, [], ◌∷◌, ap, inl, inr, refl, subst, sym, ◌∙◌}
use Rattle.std.specs.Prelude.{Option, Result, Ok, Err, String, IsOk, encode_utf8_all, length, option_to_list}
use Rattle.std.specs.Str.{chars}
use Rattle.std.specs.declared.alloc.Global.{Global}
use Rattle.url.specs.Parser.{Parsed}
use Rattle.url.specs.declared.error.ParseError.{ParseError}
use Rattle.urlpattern_canonical.specs.Canonical.{IsResult, Reports}
use Rattle.urlpattern_expressions.proofs.SimpleLemmas.{generated_simple}
use Rattle.urlpattern_matcher.proofs.FirstMatchers.{flags_agree}
use Rattle.urlpattern_matcher.specs.Components.{ComponentView, IsComponentOf, IsEngineOf, IsWholeEngineOf, engine_flags, has_regexp}
use Rattle.urlpattern_matcher.specs.declared.regexp.RegExp.{Ghosts as Engine}
use Rattle.urlpattern_init.specs.SpecialProtocol.{AcceptsSpecialScheme}
use Rattle.urlpattern_init.specs.declared.init.UrlPatternInit.{UrlPatternInit}
use Rattle.urlpattern_inputs.specs.declared.options.UrlPatternOptions.{UrlPatternOptions}
use Rattle.urlpattern_meaning.proofs.CallbackLaws.{still_reads, still_refuses}
use Rattle.urlpattern_meaning.proofs.ReadingLaws.{reading_or_refusal, refusal_one}
use Rattle.urlpattern_meaning.specs.Laws.{ReturnsOnce}
use Rattle.urlpattern_meaning.specs.Matching.{MatcherView}
use Rattle.urlpattern_meaning.specs.PartMeaning.{Captures}
use Rattle.urlpattern_pattern.proofs.ByTextLemmas.{bool_one, component_by, scheme_accepted, scheme_taken}
use Rattle.urlpattern_pattern.proofs.MadeAlike.{took_too}
use Rattle.urlpattern_pattern.proofs.MeaningLemmas.{read_once}
use Rattle.urlpattern_pattern.specs.ByText.{ReturnsByText, HasMeaning, MakesFirstWays}
use Rattle.urlpattern_compile.specs.Compiled.{AreCompiled, FirstRejected, HasEngine, HasHierarchicalPath, IsComponentCompiled, IsComponentRejected, IsPathKind, ParseSettings, RejectsValues, after_protocol, canonical_encoding, settings_of, pattern_values}
use Rattle.urlpattern_pattern.specs.MatchMeaning.{ReadsAs}
use Rattle.urlpattern_laws.specs.Outcomes.{AcceptsAlike, Decides, FirstWaysDecide, InitRejectionsAreOne, IsOfTexts, PatternsExcludeRejections, NeverAcceptsAndRejects, NeverAcceptsAndRejectsText, of_texts}
use Rattle.urlpattern_pattern.specs.Patterns.{PatternView}
use Rattle.urlpattern_components.specs.declared.eight.ComponentName.{ComponentName}
use Rattle.urlpattern_components.specs.declared.eight.ComponentName.TheVariants.{Protocol}
use Rattle.urlpattern_syntax.specs.declared.error.Error.{Error}
use Rattle.urlpattern_components.specs.Eight.{Values}
use Rattle.urlpattern_syntax.specs.Errors.{ErrorView, error_view, ErrorView as views}
use Rattle.urlpattern_syntax.specs.Parts.{PartView}
use Rattle.urlpattern_syntax.specs.Reading.{Rejects, callback_result_view}
use Rattle.urlpattern_syntax.specs.RegexpText.{regexp_text}

-- ---- results of `url`

-- The result is neither out of memory nor a text too long.
abbrev pub Passes : Result (List ℕ) ErrorView → Type 0
Passes answer = (error : ErrorView) → answer ≡ Err error → IsOfTexts error

pub texts_pass : (text : List ℕ) → Passes (Ok text)
texts_pass text error same = absurd cc

error_passes : (error : ErrorView) → IsOfTexts error → Passes (Err error)
error_passes error of other same = let one : error ≡ other = cc same in subst IsOfTexts one of

-- The result of `url` with its error as an error of patterns.
seen : Parsed (List ℕ) → Result (List ℕ) ErrorView
seen (Ok text) = Ok text
seen (Err reason) = Err (views.Url reason)

refusal_of : (asked : Parsed (List ℕ)) (bytes : ℕ) (error : ErrorView) → IsOfTexts error → Reports asked bytes error → (reason : ParseError) × (asked ≡ Err reason) × (error ≡ views.Url reason)
refusal_of asked bytes (views.Url reason) of (proper, inl is) = (reason, is, refl)
refusal_of asked bytes (views.Url reason) of (proper, inr (overflow, long)) = absurd (of.1 (ap views.Url overflow))
refusal_of asked bytes error of reports = absurd reports

answer_seen : (asked : Parsed (List ℕ)) (bytes : ℕ) (answer : Result (List ℕ) ErrorView) (returned : Result (String Global) Error) → Passes answer → IsResult asked bytes returned → answer ≡ callback_result_view returned → answer ≡ seen asked
unfolding seen
answer_seen asked bytes answer (Ok string) passes is same = same ∙ sym (ap seen is)
answer_seen asked bytes answer (Err error) passes (inl memory) same = absurd ((passes (error_view error) same).0 memory)
answer_seen asked bytes answer (Err error) passes (inr reports) same =
    let (reason, is, named) = refusal_of asked bytes (error_view error) (passes (error_view error) same) reports in
    same ∙ ap Err named ∙ sym (ap seen is)

pub of_texts_once : (canonical : List ℕ → Parsed (List ℕ)) → ReturnsOnce (of_texts (canonical_encoding canonical))
of_texts_once canonical text answer other ((returned, is, same), passes) ((another, is_too, same_too), pass) =
    let asked = canonical (chars (encode_utf8_all text)) in
    let bytes = length (encode_utf8_all text) in
    answer_seen asked bytes answer returned passes is same ∙ sym (answer_seen asked bytes other another pass is_too same_too)

-- ---- a single component

-- A text that reads as parts is not rejected.
read_or_refused : (settings : ParseSettings) (parts : List PartView) (error : ErrorView) → IsOfTexts error → ReadsAs settings parts → Rejects settings.text settings.options (canonical_encoding settings.canonical) error → ⊥
read_or_refused settings parts error of reads refuses =
    let encoding = canonical_encoding settings.canonical in
    reading_or_refusal settings.text settings.options (of_texts encoding) parts error (of_texts_once settings.canonical)
    (still_reads Passes texts_pass encoding settings.text settings.options parts reads)
    (still_refuses Passes texts_pass encoding settings.text settings.options error (error_passes error of) refuses)

-- A pattern text is rejected with one error only.
refusals_one : (settings : ParseSettings) (error other : ErrorView) → IsOfTexts error → IsOfTexts other → Rejects settings.text settings.options (canonical_encoding settings.canonical) error →
    Rejects settings.text settings.options (canonical_encoding settings.canonical) other → error ≡ other
refusals_one settings error other of too refuses also =
    let encoding = canonical_encoding settings.canonical in
    refusal_one settings.text settings.options (of_texts encoding) error other (of_texts_once settings.canonical)
    (still_refuses Passes texts_pass encoding settings.text settings.options error (error_passes error of) refuses)
    (still_refuses Passes texts_pass encoding settings.text settings.options other (error_passes other too) also)

module _ {E : Type 0} (engine : Engine E) (settings : ParseSettings) where
  whole_too : (has_regexp_group : Bool) (flags regexp : List ℕ) (made other : Result E ErrorView) → NeverAcceptsAndRejects engine has_regexp_group flags regexp →
      IsWholeEngineOf engine has_regexp_group flags regexp made → IsOk made → IsWholeEngineOf engine has_regexp_group flags regexp other → IsOk other
  whole_too has flags regexp (Ok value) (Err error) either takes is refuses = absurd (either value error takes refuses)
  whole_too has flags regexp (Ok value) (Ok other) either takes is refuses = refl
  whole_too has flags regexp (Err error) other either takes is refuses = let never : false ≡ true = is in cc never

  -- An engine that a component needs exists for any component of the same parts.
  has_too : (parts : List PartView) (compiled other : ComponentView E) → NeverAcceptsAndRejectsText engine settings → ReadsAs settings parts →
      IsComponentOf engine settings.options parts compiled → IsComponentOf engine settings.options parts other → HasEngine compiled → HasEngine other
  has_too parts compiled other either reads is is_other has = record {
    whole = whole_too (has_regexp parts) (engine_flags settings.options) (regexp_text settings.options parts) compiled.regexp other.regexp
        (either.whole parts reads) is.has_engine has.whole is_other.has_engine;
    of_matcher =
        let made = is.has_matcher in
        took_too (IsEngineOf engine false (engine_flags settings.options)) settings.options parts compiled.matcher other.matcher made is_other.has_matcher
        (either.of_matcher parts (option_to_list made.front) made.middle (option_to_list made.back) reads made.are_stripped.cut) has.of_matcher;
  }

  -- A component is not both compiled and rejected.
  compiled_or_refused : (compiled : ComponentView E) (error : ErrorView) → NeverAcceptsAndRejectsText engine settings → IsOfTexts error → IsComponentCompiled engine settings compiled → IsComponentRejected engine settings error → ⊥
  compiled_or_refused compiled error either of ((parts, reads, is), has) (inl refuses) = read_or_refused settings parts error of reads refuses
  compiled_or_refused compiled error either of ((parts, reads, is), has) (inr (refused, (others, also, is_other), refusal, named)) =
      let same : others ≡ parts = read_once settings others parts also reads in
      refusal (has_too parts compiled refused either reads is (subst (λ (ps : List PartView). IsComponentOf engine settings.options ps refused) same is_other) has)

  component_refusal_one : (error other : ErrorView) → IsOfTexts error → IsOfTexts other → IsComponentRejected engine settings error → IsComponentRejected engine settings other → error ≡ other
  component_refusal_one error other of too (inl refuses) (inl also) = refusals_one settings error other of too refuses also
  component_refusal_one error other of too (inl refuses) (inr (refused, (parts, reads, is), refusal, named)) = absurd (read_or_refused settings parts error of reads refuses)
  component_refusal_one error other of too (inr (refused, (parts, reads, is), refusal, named)) (inl also) = absurd (read_or_refused settings parts other too reads also)
  component_refusal_one error other of too (inr (refused, is, refusal, named)) (inr (another, is_too, refusal_too, named_too)) = named ∙ sym named_too

-- ---- components in order

module _ {E : Type 0} (engine : Engine E) (settings : ComponentName → ParseSettings) (either : (component : ComponentName) → NeverAcceptsAndRejectsText engine (settings component)) where
  none_refused : (components : List ComponentName) (error : ErrorView) → IsOfTexts error → ((component : ComponentName) → (compiled : ComponentView E) × IsComponentCompiled engine (settings component) compiled) →
      FirstRejected engine settings components error → ⊥
  none_refused [] error of all refused = refused
  none_refused (component ∷ components) error of all (inl refused) =
      compiled_or_refused engine (settings component) (all component).0 error (either component) of (all component).1 refused
  none_refused (component ∷ components) error of all (inr (compiled, refused)) = none_refused components error of all refused

  first_refusal_one : (components : List ComponentName) (error other : ErrorView) → IsOfTexts error → IsOfTexts other → FirstRejected engine settings components error → FirstRejected engine settings components other → error ≡ other
  first_refusal_one [] error other of too refused also = absurd refused
  first_refusal_one (component ∷ components) error other of too (inl refused) (inl also) = component_refusal_one engine (settings component) error other of too refused also
  first_refusal_one (component ∷ components) error other of too (inl refused) (inr (compiled, also)) =
      absurd (compiled_or_refused engine (settings component) compiled.0 error (either component) of compiled.1 refused)
  first_refusal_one (component ∷ components) error other of too (inr (compiled, refused)) (inl also) =
      absurd (compiled_or_refused engine (settings component) compiled.0 other (either component) too compiled.1 also)
  first_refusal_one (component ∷ components) error other of too (inr (compiled, refused)) (inr (another, also)) = first_refusal_one components error other of too refused also

-- ---- values

path_accepted : {E : Type 0} (answer : E → List ℕ → Option Captures) (values : Values) (protocol other : MatcherView E) →
    (AcceptsSpecialScheme answer protocol → AcceptsSpecialScheme answer other) → HasHierarchicalPath answer values protocol → HasHierarchicalPath answer values other
path_accepted answer values protocol other alike (inl empty) = inl empty
path_accepted answer values protocol other alike (inr (inl accepts)) = inr (inl (alike accepts))
path_accepted answer values protocol other alike (inr (inr slash)) = inr (inr slash)

module _ {E : Type 0} (engine : Engine E) (asked : UrlPatternOptions) (values : Values) (decides : Decides engine asked values) where
  abbrev protocol_manner : ParseSettings
  protocol_manner = settings_of asked values false Protocol

  -- The kind of the pathname is determined.
  path_kind_one : (protocol other : ComponentView E) (kind other_kind : Bool) → IsComponentCompiled engine protocol_manner protocol → IsComponentCompiled engine protocol_manner other →
      IsPathKind engine.answer values protocol.matcher kind → IsPathKind engine.answer values other.matcher other_kind → kind ≡ other_kind
  path_kind_one protocol other kind other_kind is_compiled is_other is also =
      bool_one (HasHierarchicalPath engine.answer values protocol.matcher) kind other_kind is (
        λ yes. path_accepted engine.answer values other.matcher protocol.matcher (decides.accepts_alike other protocol is_other is_compiled) (also.0 yes),
        λ path. also.1 (path_accepted engine.answer values protocol.matcher other.matcher (decides.accepts_alike protocol other is_compiled is_other) path),
      )

  compiled_values_not_refused : (pattern : PatternView E) (error : ErrorView) → IsOfTexts error → AreCompiled engine asked values pattern → RejectsValues engine asked values error → ⊥
  compiled_values_not_refused pattern error of compiled (inl refused) =
      compiled_or_refused engine protocol_manner (pattern Protocol) error (decides.takes_or_refuses false Protocol) of (compiled.are_compiled Protocol) refused
  compiled_values_not_refused pattern error of compiled (inr after) =
      let kind = path_kind_one (pattern Protocol) after.protocol compiled.hierarchical after.hierarchical (compiled.are_compiled Protocol) after.is_compiled compiled.path_kind after.path_kind in
      none_refused engine (settings_of asked values after.hierarchical) (decides.takes_or_refuses after.hierarchical) after_protocol error of
      (λ component. (pattern component, subst (λ (h : Bool). IsComponentCompiled engine (settings_of asked values h component) (pattern component)) kind (compiled.are_compiled component)))
      after.refused

  values_refusal_one : (error other : ErrorView) → IsOfTexts error → IsOfTexts other → RejectsValues engine asked values error → RejectsValues engine asked values other → error ≡ other
  values_refusal_one error other of too (inl refused) (inl also) = component_refusal_one engine protocol_manner error other of too refused also
  values_refusal_one error other of too (inl refused) (inr after) =
      absurd (compiled_or_refused engine protocol_manner after.protocol error (decides.takes_or_refuses false Protocol) of after.is_compiled refused)
  values_refusal_one error other of too (inr after) (inl also) =
      absurd (compiled_or_refused engine protocol_manner after.protocol other (decides.takes_or_refuses false Protocol) too after.is_compiled also)
  values_refusal_one error other of too (inr after) (inr later) =
      let kind = path_kind_one after.protocol later.protocol after.hierarchical later.hierarchical after.is_compiled later.is_compiled after.path_kind later.path_kind in
      first_refusal_one engine (settings_of asked values later.hierarchical) (decides.takes_or_refuses later.hierarchical) after_protocol error other of too
      (subst (λ (h : Bool). FirstRejected engine (settings_of asked values h) after_protocol error) kind after.refused) later.refused

-- ---- inits

same_values : (init : UrlPatternInit) (values others : Values) → pattern_values init ≡ Ok values → pattern_values init ≡ Ok others → others ≡ values
same_values init values others are_values are_others = let both : Ok others ≡ Ok values = sym are_others ∙ are_values in cc both

pub pattern_or_refusal : {E : Type 0} (engine : Engine E) → PatternsExcludeRejections engine
pattern_or_refusal engine init asked values pattern error are_values decides of (others, are_others, compiled) (more, are_more, refused) =
    compiled_values_not_refused engine asked values decides pattern error of
    (subst (λ (v : Values). AreCompiled engine asked v pattern) (same_values init values others are_values are_others) compiled)
    (subst (λ (v : Values). RejectsValues engine asked v error) (same_values init values more are_values are_more) refused)

pub init_refusal_one : {E : Type 0} (engine : Engine E) → InitRejectionsAreOne engine
init_refusal_one engine init asked values error other are_values decides of too (others, are_others, refused) (more, are_more, also) =
    values_refusal_one engine asked values decides error other of too
    (subst (λ (v : Values). RejectsValues engine asked v error) (same_values init values others are_values are_others) refused)
    (subst (λ (v : Values). RejectsValues engine asked v other) (same_values init values more are_values are_more) also)

-- ---- engines that decide

-- A component whose pattern text has a meaning matches by the text.
pub answers_by : {E : Type 0} (engine : Engine E) (settings : ParseSettings) (compiled : ComponentView E) → MakesFirstWays engine → HasMeaning settings → IsComponentCompiled engine settings compiled → ReturnsByText engine.answer settings compiled
answers_by engine settings compiled firsts has is_compiled =
    component_by engine settings compiled is_compiled has (λ parts reads is_component have.
    firsts settings.options (engine_flags settings.options) parts compiled.matcher is_component.has_matcher have (flags_agree settings.options, is_compiled.1.of_matcher))

accepts_by_text : {E : Type 0} (engine : Engine E) (settings : ParseSettings) → MakesFirstWays engine → HasMeaning settings → AcceptsAlike engine settings
accepts_by_text engine settings firsts has compiled other is_compiled is_other accepts =
    scheme_accepted engine.answer settings other (answers_by engine settings other firsts has is_other)
    (scheme_taken engine.answer settings compiled (answers_by engine settings compiled firsts has is_compiled) accepts)

pub first_ways_decide : {E : Type 0} (engine : Engine E) → FirstWaysDecide engine
first_ways_decide engine firsts either asked values none = record {
  accepts_alike = accepts_by_text engine (settings_of asked values false Protocol) firsts (record { simple = λ parts reads. generated_simple parts (none false Protocol parts reads); case_kept = refl });
  takes_or_refuses = λ hierarchical component. either (settings_of asked values hierarchical component) (none hierarchical component);
}
