-- Lemmas on compiled patterns.
use Rattle.std.proofs.Common.{◌≡◌, ℕ, Bool, true, false, ◌<◌, List, [], ◌∷◌, ◌++◌, codes, Option, Some, None, Result, Ok, Err, String, string_bytes, Bor, refl, sym, ap, ◌∙◌, subst, inl, inr, arith}
use Rattle.std.proofs.lemmas.Bool.{false≢true}
use Rattle.std.proofs.lemmas.Str.Ascii.{IsAscii-cons, IsAscii-nil}
use Rattle.std.specs.Prelude.{IfErr, IfOk, IfSome, IsTrue, bytes_eq, not, option_copied, ◌&&◌, ◌||◌, slice_index, if◌then◌else◌}
use Rattle.std.specs.List.{AllByRecursion}
use Rattle.std.specs.Result.{IsErrAnd}
use Rattle.std.specs.Str.{chars, IsAscii, IsUtf8}
use Rattle.std.specs.declared.alloc.Global.{Global}
use Rattle.std.proofs.lemmas.Str.{IsUtf8-string_bytes}
use Rattle.urlpattern_meaning.proofs.Encodings.{Weakens, reads_weaker, refuses_weaker}
use Rattle.urlpattern_compile.specs.Compiled.{AreCompiled, FirstRejected, HasEngine, IsComponentCompiled, IsPathKind, IsComponentRejected, IsRejectedFrom, ParseSettings, RejectsInit, RejectsValues, after_protocol, canonical_encoding, has_default_port, is_ipv6_pattern, is_mark, is_same, settings_of, pattern_values, without_default_port}
use Rattle.urlpattern_compile.specs.KeptComponents.{AreCompiledWithParts, EachIsCompiledWithParts, IsCompiledWithParts, IsInitCompiledWithParts}
use Rattle.urlpattern_compile.specs.PatternViews.{PatternView}
use Rattle.urlpattern_components.specs.declared.eight.ComponentName.{ComponentName as Names}
use Rattle.urlpattern_components.specs.declared.eight.ComponentName.TheVariants.{Protocol}
use Rattle.urlpattern_init.specs.declared.init.UrlPatternInit.{UrlPatternInit}
use Rattle.urlpattern_components.specs.declared.eight.Eight.{Eight}
use Rattle.urlpattern_inputs.specs.declared.options.UrlPatternOptions.{UrlPatternOptions}
use Rattle.urlpattern_canonical.proofs.MarkLemmas.{bytes_eq-chars}
use Rattle.urlpattern_canonical.specs.Canonical.{default_port, is_special, without_first}
use Rattle.urlpattern_matcher.specs.Components.{ComponentView, IsCompiledKeeping, IsComponentOf, component_view}
use Rattle.urlpattern_matcher.specs.declared.component.ComponentWithParts.{ComponentWithParts}
use Rattle.urlpattern_matcher.specs.declared.regexp.RegExp.{Ghosts as Engine}
use Rattle.urlpattern_syntax.specs.declared.error.Error.{Error}
use Rattle.urlpattern_syntax.specs.Errors.{ErrorView, MemoryOr}
use Rattle.urlpattern_syntax.specs.Options.{OptionsView}
use Rattle.urlpattern_syntax.specs.ComponentParts.{kept_parts}
use Rattle.urlpattern_syntax.specs.Reading.{Encoding, Reads}
use Rattle.urlpattern_syntax.specs.RegexpText.{is_empty}
use Rattle.urlpattern_syntax.specs.Text.{begins_with, text_of}
use Rattle.urlpattern_components.specs.Eight.{Values, at}

-- ---- ports

ascii_port : (test : Bool) (port other : Option (List ℕ)) → IfSome port IsAscii → IfSome other IsAscii → IfSome (if test then port else other) IsAscii
ascii_port true port other one rest = one
ascii_port false port other one rest = rest

two_digits : (first second : ℕ) → first < 128 → second < 128 → IsAscii (first ∷ second ∷ [])
two_digits first second one two = IsAscii-cons first (second ∷ []) one (IsAscii-cons second [] two IsAscii-nil)

three_digits : (first second third : ℕ) → first < 128 → second < 128 → third < 128 → IsAscii (first ∷ second ∷ third ∷ [])
three_digits first second third one two three = IsAscii-cons first (second ∷ third ∷ []) one (two_digits second third two three)

eighty : IsAscii (codes "80")
eighty = two_digits _ _ (omega arith) (omega arith)

secure : IsAscii (codes "443")
secure = three_digits _ _ _ (omega arith) (omega arith) (omega arith)

-- Each default port is ASCII.
pub default_port-IsAscii : (protocol : List ℕ) → IfSome (default_port protocol) IsAscii
default_port-IsAscii protocol =
    ascii_port (bytes_eq protocol (codes "http")) (Some (codes "80")) _ eighty
    (ascii_port (bytes_eq protocol (codes "https")) (Some (codes "443")) _ secure
    (ascii_port (bytes_eq protocol (codes "ws")) (Some (codes "80")) _ eighty
    (ascii_port (bytes_eq protocol (codes "wss")) (Some (codes "443")) _ secure
    (ascii_port (bytes_eq protocol (codes "ftp")) (Some (codes "21")) _ (two_digits _ _ (omega arith) (omega arith))
    (ascii_port (bytes_eq protocol (codes "file")) None None tt tt)))))

-- The text that an optional ASCII text holds is ASCII.
pub ascii_some : (found : Option (Bor (List ℕ))) (text : Bor (List ℕ)) → found ≡ Some text → IfSome (option_copied found) IsAscii → IsAscii text.now
ascii_some found text is ascii = rw is at ascii

-- A text equals an ASCII word exactly if its bytes do.
pub text_eq-ascii : (text : String Global) (word : List ℕ) → IsAscii word → bytes_eq (string_bytes text) word ≡ bytes_eq (text_of text) word
text_eq-ascii text word ascii = sym (bytes_eq-chars (string_bytes text) word (IsUtf8-string_bytes text) ascii)

pub default_port-test : (protocol : List ℕ) (port default : Option (List ℕ)) → is_special protocol ≡ true → default ≡ default_port protocol
    → is_same port default ≡ has_default_port (Some protocol) port
default_port-test protocol port default special is =
    ap (is_same port) is ∙ ap (λ test. test && is_same port (default_port protocol)) (sym special)

-- The values with an emptied port, if the port is the default.
pub emptied : (values : Values) (empty : List ℕ) → empty ≡ [] → has_default_port values.protocol values.port ≡ true
    → record values { port = Some empty } ≡ without_default_port values
emptied values empty e is =
    ap (λ text. record values { port = Some text }) e
    ∙ sym (ap (λ test. if test then record values { port = Some [] } else values) is)

-- ---- texts that are present and empty

pub there_and_empty : (text : List ℕ) (tested : Bool) → tested ≡ is_empty text
    → (IsTrue tested → Some text ≡ Some []) × (Some text ≡ Some [] → IsTrue tested)
there_and_empty [] tested e = ((λ is. refl), (λ is. e))
there_and_empty (c ∷ text) tested e = ((λ is. absurd (false≢true (sym e ∙ is))), (λ is. absurd cc))

-- ---- components with their parts

pub kept_compiled : {E : Type 0} (engine : Engine E) (settings : ParseSettings) (made : ComponentWithParts E) → IsCompiledWithParts engine settings made
    → IsComponentCompiled engine settings (component_view made.component)
kept_compiled engine settings made kept = ((kept_parts made.kept, kept.reads, kept.is_made), kept.has_engine)

pub one_compiled : {E : Type 0} (engine : Engine E) (settings : ParseSettings) (made : ComponentWithParts E) → IsCompiledWithParts engine settings made
    → (compiled : ComponentView E) × IsComponentCompiled engine settings compiled
one_compiled engine settings made kept = (component_view made.component, kept_compiled engine settings made kept)

-- The components of a pattern that was compiled with its parts.
abbrev pub made_view : {E : Type 0} → Eight (ComponentWithParts E) → PatternView E
made_view made name = component_view (at made name).component

pub kept_are_compiled : {E : Type 0} (engine : Engine E) (asked : UrlPatternOptions) (values : Values) (made : Eight (ComponentWithParts E))
    → AreCompiledWithParts engine asked values made → AreCompiled engine asked values (made_view made)
kept_are_compiled engine asked values made kept = record {
  hierarchical = kept.hierarchical;
  path_kind = kept.path_kind;
  are_compiled = λ name. kept_compiled engine (settings_of asked values kept.hierarchical name) (at made name) (kept.are_kept name);
}

-- ---- errors

pub memory_or-map : (P Q : ErrorView → Type 0) (error : Error) → ((view : ErrorView) → P view → Q view) → MemoryOr P error → MemoryOr Q error
memory_or-map P Q error step reported = elim reported [ inl memory ↦ inl memory | inr refused ↦ inr (step _ refused) ]

-- An error that is passed on, in terms of the caller.
pub refused_later : {T : Type 0} (result : Result T Error) (error : Error) (Refuses Later : ErrorView → Type 0)
    → IsErrAnd result (λ passed. passed ≡ error) → MemoryOr Refuses error → ((view : ErrorView) → Refuses view → Later view)
    → IfErr result (MemoryOr Later)
refused_later (Ok value) error Refuses Later same reported later = tt
refused_later (Err passed) error Refuses Later same reported later =
    subst (MemoryOr Later) (sym same) (memory_or-map Refuses Later error later reported)

pub first_rejected : {E : Type 0} (engine : Engine E) (settings : Names → ParseSettings)
    (before after : List Names) (component : Names) (view : ErrorView)
    → AllByRecursion (λ earlier. (compiled : ComponentView E) × IsComponentCompiled engine (settings earlier) compiled) before
    → IsComponentRejected engine (settings component) view
    → FirstRejected engine settings (before ++ component ∷ after) view
first_rejected engine settings [] after component view compiled refused = inl refused
first_rejected engine settings (earlier ∷ before) after component view (first, compiled) refused =
    inr (first, first_rejected engine settings before after component view compiled refused)

-- An error that is passed on is the first, if all components before its own are compiled.
pub refused_after : {E T : Type 0} (engine : Engine E) (settings : Names → ParseSettings) (result : Result T Error)
    (error : Error) (before after : List Names) (component : Names)
    → IsErrAnd result (λ passed. passed ≡ error)
    → MemoryOr (IsComponentRejected engine (settings component)) error
    → AllByRecursion (λ earlier. (compiled : ComponentView E) × IsComponentCompiled engine (settings earlier) compiled) before
    → IfErr result (MemoryOr (FirstRejected engine settings (before ++ component ∷ after)))
refused_after engine settings result error before after component same reported compiled =
    refused_later result error (IsComponentRejected engine (settings component))
    (FirstRejected engine settings (before ++ component ∷ after)) same reported
    (λ view. first_rejected engine settings before after component view compiled)

-- ---- a component under a stronger encoding

pub kept_weaker : {E : Type 0} (engine : Engine E)
    (strong : Encoding) (settings : ParseSettings) → Weakens strong (canonical_encoding settings.canonical) → (text : List ℕ) (options : OptionsView) (result : Result (ComponentWithParts E) Error)
    → text ≡ settings.text → options ≡ settings.options
    → IfOk result (IsCompiledKeeping engine text options strong)
    → IfOk result (λ made. HasEngine (component_view made.component))
    → IfOk result (IsCompiledWithParts engine settings)
kept_weaker engine strong settings h text options (Err error) e f compiled taken = tt
kept_weaker engine strong settings h text options (Ok made) e f compiled taken = record {
  options_are = compiled.options_are ∙ f;
  reads = subst (λ o. Reads settings.text o (canonical_encoding settings.canonical) (kept_parts made.kept)) f
      (subst (λ t. Reads t options (canonical_encoding settings.canonical) (kept_parts made.kept)) e
      (reads_weaker strong (canonical_encoding settings.canonical) h text options (kept_parts made.kept) compiled.reads));
  is_made = subst (λ o. IsComponentOf engine o (kept_parts made.kept) (component_view made.component)) f compiled.is_made;
  has_engine = taken;
  case = compiled.case;
}

refused_weaker-view : {E : Type 0} (engine : Engine E)
    (strong weak : Encoding) → Weakens strong weak → (text pattern : List ℕ) (options settings : OptionsView) (error : ErrorView)
    → text ≡ pattern → options ≡ settings
    → IsRejectedFrom engine text options strong error
    → IsRejectedFrom engine pattern settings weak error
refused_weaker-view engine strong weak h text pattern options settings error e f refused =
    subst (λ o. IsRejectedFrom engine pattern o weak error) f
    (subst (λ t. IsRejectedFrom engine t options weak error) e
    (elim refused [
      | inl text_refused ↦ inl (refuses_weaker strong weak h text options error text_refused)
      | inr by_engine ↦ inr (by_engine.0, (by_engine.1.0, reads_weaker strong weak h text options by_engine.1.0 by_engine.1.1, by_engine.1.2), by_engine.2, by_engine.3)
    ]))

pub refused_weaker : {E T : Type 0} (engine : Engine E)
    (strong weak : Encoding) → Weakens strong weak → (text pattern : List ℕ) (options settings : OptionsView) (result : Result T Error)
    → text ≡ pattern → options ≡ settings
    → IfErr result (MemoryOr (IsRejectedFrom engine text options strong))
    → IfErr result (MemoryOr (IsRejectedFrom engine pattern settings weak))
refused_weaker engine strong weak h text pattern options settings (Ok made) e f refused = tt
refused_weaker engine strong weak h text pattern options settings (Err error) e f refused = elim refused [
  | inl memory ↦ inl memory
  | inr reported ↦ inr (refused_weaker-view engine strong weak h text pattern options settings _ e f reported)
]

-- ---- patterns that begin as an IPv6 address does

bracket : IsAscii (codes "[")
bracket = IsAscii-cons _ [] (omega arith) IsAscii-nil

-- Whether the pattern is a bracket alone, by its bytes.
abbrev pub ipv6_test : (alone : Bool) → List ℕ → Bool
ipv6_test alone text =
    not alone
    && (begins_with (is_mark (codes "[")) (without_first (slice_index (codes "{") 0) text)
    || begins_with (is_mark (codes "[")) (without_first (slice_index (codes "\\") 0) text))

pub ipv6_pattern-bytes : (bytes : List ℕ) → IsUtf8 bytes → is_ipv6_pattern (chars bytes) ≡ ipv6_test (bytes_eq bytes (codes "[")) (chars bytes)
ipv6_pattern-bytes bytes u = ap (λ alone. ipv6_test alone (chars bytes)) (bytes_eq-chars bytes (codes "[") u bracket)

pub or-first : (first second tested : Bool) → tested ≡ first → tested ≡ true → tested ≡ (first || second)
or-first first second tested e is = is ∙ ap (λ test. test || second) (sym is ∙ e)

pub or-second : (first second tested later : Bool) → tested ≡ first → tested ≡ false → later ≡ second → later ≡ (first || second)
or-second first second tested later e none is = is ∙ ap (λ test. test || second) (sym none ∙ e)

-- ---- the pattern after its protocol

pub are_kept : {E : Type 0} (engine : Engine E) (asked : UrlPatternOptions) (values : Values) (hierarchical : Bool)
    (protocol : ComponentView E) (result : Result (Eight (ComponentWithParts E)) Error)
    → IsPathKind engine.answer values protocol.matcher hierarchical
    → IfOk result (λ made. component_view made.protocol.component ≡ protocol)
    → IfOk result (EachIsCompiledWithParts engine (settings_of asked values hierarchical))
    → IfOk result (AreCompiledWithParts engine asked values)
are_kept engine asked values hierarchical protocol (Err error) reports same compiled = tt
are_kept {E} engine asked values hierarchical protocol (Ok made) reports same compiled = record {
  hierarchical = hierarchical;
  path_kind = subst (λ (view : ComponentView E). IsPathKind engine.answer values view.matcher hierarchical) (sym same) reports;
  are_kept = compiled;
}

pub refused_behind : {E T : Type 0} (engine : Engine E) (asked : UrlPatternOptions) (values : Values) (hierarchical : Bool)
    (protocol : ComponentView E) (result : Result T Error)
    → IsComponentCompiled engine (settings_of asked values hierarchical Protocol) protocol
    → IsPathKind engine.answer values protocol.matcher hierarchical
    → IfErr result (MemoryOr (FirstRejected engine (settings_of asked values hierarchical) after_protocol))
    → IfErr result (MemoryOr (RejectsValues engine asked values))
refused_behind engine asked values hierarchical protocol (Ok found) compiled reports refused = tt
refused_behind engine asked values hierarchical protocol (Err error) compiled reports refused =
    memory_or-map (FirstRejected engine (settings_of asked values hierarchical) after_protocol) (RejectsValues engine asked values) error
    (λ view first. inr (record { protocol = protocol; hierarchical = hierarchical; is_compiled = compiled; path_kind = reports; refused = first })) refused

-- ---- the pattern of an init

pub is_kept : {E : Type 0} (engine : Engine E) (init : UrlPatternInit) (asked : UrlPatternOptions) (values : Values)
    (result : Result (Eight (ComponentWithParts E)) Error) → pattern_values init ≡ Ok values
    → IfOk result (AreCompiledWithParts engine asked values)
    → IfOk result (IsInitCompiledWithParts engine init asked)
is_kept engine init asked values (Err error) are compiled = tt
is_kept engine init asked values (Ok made) are compiled = (values, are, compiled)

pub is_refused : {E T : Type 0} (engine : Engine E) (init : UrlPatternInit) (asked : UrlPatternOptions) (values : Values)
    (result : Result T Error) → pattern_values init ≡ Ok values
    → IfErr result (MemoryOr (RejectsValues engine asked values))
    → IfErr result (MemoryOr (RejectsInit engine init asked))
is_refused engine init asked values (Ok found) are refused = tt
is_refused engine init asked values (Err error) are refused =
    memory_or-map (RejectsValues engine asked values) (RejectsInit engine init asked) error (λ view reported. (values, are, reported)) refused
