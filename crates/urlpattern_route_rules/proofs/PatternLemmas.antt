-- Lemmas on the pattern of a condition.
use Rattle.std.proofs.Common.{◌≡◌, ℕ, zero, suc, ◌+◌, ◌<◌, ◌≤◌, ◌∙◌, List, [], ◌∷◌, None, Option, Some, Result, Ok, Err, add-one, ap, arith, get_or, inl, inr, length, map, option_map, refl, string_bytes, subst, sym, take, take_all}
use Rattle.std.specs.Prelude.{String}
use Rattle.std.specs.Str.{chars}
use Rattle.std.specs.declared.alloc.Global.{Global}
use Rattle.url.specs.Parts.{Parts}
use Rattle.url.specs.declared.error.ParseError.{ParseError}
use Rattle.urlpattern_canonical.specs.BaseUrls.{parsed_base, text_bytes}
use Rattle.urlpattern_canonical.specs.Canonical.{Reports}
use Rattle.urlpattern_compile.specs.Compiled.{IsPatternOfInit, RejectsInit}
use Rattle.urlpattern_compile.specs.Diagnoses.{HasErrorOf, IsWithinText, ShowsGiven, ShowsInit}
use Rattle.urlpattern_compile.specs.FromString.{IsPatternOfText, RejectsPatternOfText}
use Rattle.urlpattern_components.specs.Eight.{at, each}
use Rattle.urlpattern_diagnosis.specs.Faults.{IsFaultIn, IsUrlFault}
use Rattle.urlpattern_diagnosis.specs.declared.diagnosis.Diagnosis.{Diagnosis}
use Rattle.urlpattern_diagnosis.specs.declared.diagnosis.Subject.TheVariants as subjects
use Rattle.urlpattern_init.specs.Inheritance.{values_of, values_view}
use Rattle.urlpattern_init.specs.declared.init.UrlPatternInit.{UrlPatternInit}
use Rattle.urlpattern_inputs.specs.InputValues.{InitView, InputView, init_view, of_init, of_text, plain_init_texts}
use Rattle.urlpattern_inputs.specs.declared.init.UrlPatternInit.{UrlPatternInit as PlainInit}
use Rattle.urlpattern_inputs.specs.declared.options.UrlPatternOptions.{UrlPatternOptions}
use Rattle.urlpattern_matcher.specs.declared.regexp.RegExp.{Ghosts as Engine}
use Rattle.urlpattern_pattern.specs.KeptParts.{KeepsPartsOf, KeepsPartsOfText}
use Rattle.urlpattern_pattern.specs.Patterns.{pattern_view}
use Rattle.urlpattern_pattern.specs.UrlPatterns.{UrlPattern}
use Rattle.urlpattern_route_rules.specs.Patterns.{Allows, CompilesPattern, GivesInit, IsBaseDiagnosis, IsInitGiven, IsPatternGiven, base_of, first_some, no_options}
use Rattle.urlpattern_route_rules.specs.declared.fault.PatternFault.{PatternFault}
use Rattle.urlpattern_route_rules.specs.declared.fault.PatternFault.TheVariants as faults
use Rattle.urlpattern_syntax.specs.Errors.{ErrorView, MemoryOr, OutOfMemory, Url, error_view}
use Rattle.urlpattern_syntax.specs.Text.{text_of}
use Rattle.urlpattern_syntax.specs.declared.error.Error.{Error}
use Rattle.urlpattern_syntax.specs.declared.error.Error.TheVariants as errors

-- A pattern that is compiled, and which a condition may have or not.
pub allowed-compiles : {E : Type 0} (engine : Engine E) (script : List ℕ) (given : InputView) (pattern : UrlPattern E) (result : Result (UrlPattern E) PatternFault)
    → IsPatternGiven engine script given pattern → Allows pattern result → CompilesPattern engine script given result
allowed-compiles {E} engine script given pattern (Ok same) is allows =
    subst (λ (p : UrlPattern E). CompilesPattern engine script given (Ok p)) (sym allows.0) (is, allows.1)
allowed-compiles engine script given pattern (Err fault) is allows = inr (pattern, is, allows)

chars-of : (text : Option (String Global)) → option_map text_of text ≡ option_map chars (option_map string_bytes text)
chars-of None = refl
chars-of (Some text) = refl

-- The values of an init, by its view.
pub values-by_view : (init : PlainInit) → values_of (plain_init_texts init) ≡ each (λ name. option_map chars (at (init_view init).texts name))
values-by_view init =
    rw (chars-of init.protocol, chars-of init.username, chars-of init.password, chars-of init.hostname, chars-of init.port, chars-of init.pathname, chars-of init.search, chars-of init.hash) refl

-- The init that is given, with its base URL.
pub init-given : (script : List ℕ) (given copy : PlainInit) (base : List ℕ) (url : Option Parts) (init : UrlPatternInit) → Some base ≡ base_of script (init_view given) → parsed_base (Some base) ≡ Ok url → init_view copy ≡ init_view given
    → values_view init ≡ values_of (plain_init_texts copy) → init.base_url ≡ url → IsInitGiven script (init_view given) init
init-given script given copy base url init is_base parsed same texts has = record {
  has_texts = texts ∙ values-by_view copy ∙ ap (λ (view : InitView). each (λ name. option_map chars (at view.texts name))) same;
  has_base = ap parsed_base (sym is_base) ∙ parsed ∙ ap Ok (sym has);
}

only-url : (Is : ErrorView → Type 0) (found : Error) (error : ParseError) → found ≡ errors.Url error → MemoryOr Is found → Is (error_view found)
only-url Is found error is either = elim either [
  | inl memory ↦ absurd (let wrong : Url error ≡ OutOfMemory = ap error_view (sym is) ∙ memory in cc)
  | inr why ↦ why
]

-- The diagnosis of a base URL that `url` rejects.
pub base-diagnosed : (script : List ℕ) (given : InitView) (base : List ℕ) (found : Error) (error : ParseError) (diagnosis : Diagnosis) → Some base ≡ base_of script given → found ≡ errors.Url error
    → MemoryOr (Reports (parsed_base (Some base)) (text_bytes (Some base))) found → diagnosis.error ≡ errors.Url error → diagnosis.subject ≡ subjects.Base → string_bytes diagnosis.text ≡ base
    → IsUrlFault base diagnosis.fault → IsFaultIn base diagnosis.fault → GivesInit script given (Err diagnosis)
base-diagnosed script given base found error diagnosis is_base is either error_is subject text fault within =
    let why = subst (λ (e : Error). Reports (parsed_base (Some base)) (text_bytes (Some base)) (error_view e)) (is ∙ sym error_is) (only-url (Reports (parsed_base (Some base)) (text_bytes (Some base))) found error is either) in
    let shown = subst (λ (t : List ℕ). IsUrlFault t diagnosis.fault) (sym text) fault in
    let inside = subst (λ (t : List ℕ). IsFaultIn t diagnosis.fault) (sym text) within in
    subst (λ (b : Option (List ℕ)). IsBaseDiagnosis b diagnosis × IsWithinText diagnosis) is_base ((why, subject, text, shown), inside)

-- ---- the first value that is there

-- A value that is not there, and others.
skip : {Y : Type 0} (o : Option Y) (before after : List (Option Y)) → first_some (o ∷ before) ≡ None → (first_some before ≡ None → first_some after ≡ None) → first_some (o ∷ after) ≡ None
skip None before after none more = more none
skip (Some y) before after none more = absurd cc

more : {X Y : Type 0} (f : X → Option Y) (xs : List X) (i : ℕ) (d : X) → i < length xs → first_some (map f (take i xs)) ≡ None → f (get_or xs i d) ≡ None → first_some (map f (take (suc i) xs)) ≡ None
more f [] i d lt none here = absurd (omega (arith, lt))
more f (x ∷ xs) zero d lt none here = rw here refl
more f (x ∷ xs) (suc i) d lt none here =
    skip (f x) (map f (take i xs)) (map f (take (suc i) xs)) none (λ rest. more f xs i d (omega (arith, lt)) rest here)

pub first-more : {X Y : Type 0} (f : X → Option Y) (xs : List X) (i : ℕ) (d : X) → i < length xs → first_some (map f (take i xs)) ≡ None → f (get_or xs i d) ≡ None → first_some (map f (take (i + 1) xs)) ≡ None
first-more f xs i d lt none here = rw add-one (more f xs i d lt none here)

found-past : {Y : Type 0} (o : Option Y) (before after : List (Option Y)) (y : Y) → first_some (o ∷ before) ≡ None → (first_some before ≡ None → first_some after ≡ Some y) → first_some (o ∷ after) ≡ Some y
found-past None before after y none more = more none
found-past (Some other) before after y none more = absurd cc

pub first-found : {X Y : Type 0} (f : X → Option Y) (xs : List X) (i : ℕ) (d : X) (y : Y) → i < length xs → first_some (map f (take i xs)) ≡ None → f (get_or xs i d) ≡ Some y → first_some (map f xs) ≡ Some y
first-found f [] i d y lt none here = absurd (omega (arith, lt))
first-found f (x ∷ xs) zero d y lt none here = rw here refl
first-found f (x ∷ xs) (suc i) d y lt none here =
    found-past (f x) (map f (take i xs)) (map f xs) y none (λ rest. first-found f xs i d y (omega (arith, lt)) rest here)

pub first-none : {X Y : Type 0} (f : X → Option Y) (xs : List X) (i : ℕ) → length xs ≤ i → first_some (map f (take i xs)) ≡ None → first_some (map f xs) ≡ None
first-none f xs i past none = rw (← take_all i xs past) none

-- ---- patterns that are rejected

pub text-rejected : {E : Type 0} (engine : Engine E) (script text : List ℕ) (asked : UrlPatternOptions) (diagnosis : Diagnosis) → asked ≡ no_options
    → HasErrorOf (RejectsPatternOfText engine (chars text) (Some script) asked) diagnosis → ShowsGiven engine text (Some script) asked diagnosis → IsWithinText diagnosis
    → CompilesPattern engine script (of_text text) (Err (faults.Rejected diagnosis))
text-rejected {E} engine script text asked diagnosis same refused shows within =
    let why = subst (λ (options : UrlPatternOptions). HasErrorOf (RejectsPatternOfText engine (chars text) (Some script) options) diagnosis) same refused in
    let shown = subst (λ (options : UrlPatternOptions). ShowsGiven engine text (Some script) options diagnosis) same shows in
    inl (diagnosis, refl, (why, shown), within)

pub init-rejected : {E : Type 0} (engine : Engine E) (script : List ℕ) (given : InitView) (init : UrlPatternInit) (asked : UrlPatternOptions) (diagnosis : Diagnosis) → asked ≡ no_options → IsInitGiven script given init
    → HasErrorOf (RejectsInit engine init asked) diagnosis → ShowsInit engine init asked diagnosis → IsWithinText diagnosis
    → CompilesPattern engine script (of_init given) (Err (faults.Rejected diagnosis))
init-rejected {E} engine script given init asked diagnosis same is refused shows within =
    let why = subst (λ (options : UrlPatternOptions). HasErrorOf (RejectsInit engine init options) diagnosis) same refused in
    let shown = subst (λ (options : UrlPatternOptions). ShowsInit engine init options diagnosis) same shows in
    inl (diagnosis, refl, inr (init, is, why, shown), within)

pub base-rejected : {E : Type 0} (engine : Engine E) (script : List ℕ) (given : InitView) (diagnosis : Diagnosis) → GivesInit script given (Err diagnosis) → CompilesPattern engine script (of_init given) (Err (faults.Rejected diagnosis))
base-rejected engine script given diagnosis is = inl (diagnosis, refl, inl is.0, is.1)

-- ---- patterns that are compiled

pub text-compiled : {E : Type 0} (engine : Engine E) (script text : List ℕ) (asked : UrlPatternOptions) (pattern : UrlPattern E) (result : Result (UrlPattern E) PatternFault) → asked ≡ no_options
    → IsPatternOfText engine (chars text) (Some script) asked (pattern_view pattern) → KeepsPartsOfText engine (chars text) (Some script) asked pattern → Allows pattern result → CompilesPattern engine script (of_text text) result
text-compiled {E} engine script text asked pattern result same is kept allows =
    allowed-compiles engine script (of_text text) pattern result
    (subst (λ (options : UrlPatternOptions). IsPatternOfText engine (chars text) (Some script) options (pattern_view pattern) × KeepsPartsOfText engine (chars text) (Some script) options pattern) same (is, kept)) allows

-- A copy of the init that is given.
pub copy-given : (script : List ℕ) (given : InitView) (init copy : UrlPatternInit) → IsInitGiven script given init → values_view copy ≡ values_view init → copy.base_url ≡ init.base_url → IsInitGiven script given copy
copy-given script given init copy is texts base = record { has_texts = texts ∙ is.has_texts; has_base = is.has_base ∙ ap Ok (sym base) }

pub init-compiled : {E : Type 0} (engine : Engine E) (script : List ℕ) (given : InitView) (init : UrlPatternInit) (asked : UrlPatternOptions) (pattern : UrlPattern E) (result : Result (UrlPattern E) PatternFault) → asked ≡ no_options
    → IsInitGiven script given init → IsPatternOfInit engine init asked (pattern_view pattern) → KeepsPartsOf engine init asked pattern → Allows pattern result → CompilesPattern engine script (of_init given) result
init-compiled {E} engine script given init asked pattern result same given_is is kept allows =
    let compiled = subst (λ (options : UrlPatternOptions). IsPatternOfInit engine init options (pattern_view pattern)) same is in
    let keeps = subst (λ (options : UrlPatternOptions). KeepsPartsOf engine init options pattern) same kept in
    allowed-compiles engine script (of_init given) pattern result (init, given_is, compiled, keeps) allows
