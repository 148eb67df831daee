-- Patterns compiled from an init and options, after the URLPattern Standard, section "The
-- URLPattern class", "create a URL pattern".
use Rattle.std.specs.Prelude.{◌≡◌, ◌↔◌, ◌⊎◌, ⊤, ℕ, Bool, true, false, not, ◌&&◌, ◌||◌, ◌==◌, List, [], ◌∷◌, bytes_eq, codes, length, slice_index, Option, Some, None, unwrap_or, Ok, IsOk, IsTrue, if◌then◌else◌}
use Rattle.std.specs.Str.{chars}
use Rattle.url.specs.Parser.{Parsed, and_then}
use Rattle.urlpattern_init.specs.{Inheritance.init_values, SpecialProtocol.AcceptsSpecialScheme}
use Rattle.urlpattern_compile.specs.PatternViews.{PatternView}
use Rattle.urlpattern_init.specs.declared.init.UrlPatternInit.{UrlPatternInit}
use Rattle.urlpattern_components.specs.declared.eight.ComponentName.{ComponentName}
use Rattle.urlpattern_components.specs.declared.eight.ComponentName.TheVariants.{Protocol, Username, Password, Hostname, Port, Pathname, Search, Hash}
use Rattle.urlpattern_inputs.specs.declared.options.UrlPatternOptions.{UrlPatternOptions}
use Rattle.urlpattern_canonical.specs.Canonical.{IsResult, canonical_hash, canonical_hostname, canonical_ipv6_hostname, canonical_opaque_pathname, canonical_password, canonical_pathname, canonical_port, canonical_protocol, canonical_search, canonical_username, default_port, is_special, without_first}
use Rattle.urlpattern_matcher.specs.Components.{ComponentView, IsCompiledFrom}
use Rattle.urlpattern_matcher.specs.declared.regexp.RegExp.{Ghosts as Engine}
use Rattle.urlpattern_canonical.specs.declared.canonicalize_and_process.ProcessType.TheVariants.{Pattern}
use Rattle.urlpattern_meaning.specs.{FirstResults.AcceptedText, Matching.MatcherView, PartMeaning.Captures}
use Rattle.urlpattern_syntax.specs.Errors.{ErrorView, ErrorView as views}
use Rattle.urlpattern_syntax.specs.Options.{OptionsView, default_options, hostname_options, pathname_options}
use Rattle.urlpattern_syntax.specs.Parts.{PartView}
use Rattle.urlpattern_syntax.specs.Reading.{Encoding, Reads, Rejects, encoding_of}
use Rattle.urlpattern_syntax.specs.Text.{begins_with}
use Rattle.urlpattern_components.specs.Eight.{Values, at}

-- ---- values to compile

-- Whether two texts are equal, or both are missing.
abbrev pub is_same : Option (List ℕ) → Option (List ℕ) → Bool
is_same None None = true
is_same (Some text) (Some other) = bytes_eq text other
is_same text other = false

-- Whether the protocol is special and the port is its default; for `file`, whether the port is
-- missing.
abbrev pub has_default_port : (protocol port : Option (List ℕ)) → Bool
has_default_port None port = false
has_default_port (Some protocol) port = is_special protocol && is_same port (default_port protocol)

-- The values, with an empty port if the port is the default of a special protocol, or is missing
-- beside the protocol `file`.
abbrev pub without_default_port : Values → Values
without_default_port values =
    if has_default_port values.protocol values.port then record values { port = Some [] }
    else values

-- The values that are compiled for an init: processed as a pattern, with an empty port if
-- `without_default_port` empties it.
abbrev pub pattern_values : UrlPatternInit → Parsed Values
pattern_values init =
    and_then (init_values Pattern init) (λ values. Ok (without_default_port values))

-- ---- how a component's pattern is parsed

-- How a component's pattern is parsed: its text, the options, and `canonical`, which makes a fixed
-- text canonical.
pub record ParseSettings : Type 0 where
  pub text : List ℕ
  pub options : OptionsView
  pub canonical : List ℕ → Parsed (List ℕ)

-- The pattern text of a component, an asterisk where it is missing.
abbrev pub pattern_of : Values → ComponentName → List ℕ
pattern_of values component = unwrap_or (at values component) (codes "*")

-- `options` in the syntax of regular expressions that `asked` requests.
abbrev pub in_syntax : UrlPatternOptions → OptionsView → OptionsView
in_syntax asked options = record options { syntax = asked.regex_syntax }

-- `options` in the syntax of regular expressions that `asked` requests, and ignoring case if
-- `asked` does.
abbrev pub with_case : UrlPatternOptions → OptionsView → OptionsView
with_case asked options = record options {
  syntax = asked.regex_syntax;
  ignore_case = asked.ignore_case;
}

-- Whether a character is `mark`, a text of one character.
abbrev pub is_mark : List ℕ → ℕ → Bool
is_mark mark c = c == slice_index mark 0

-- Whether a hostname pattern begins as an IPv6 address does: with a bracket, perhaps after one open
-- brace or one backslash; a bracket alone does not count.
abbrev pub is_ipv6_pattern : List ℕ → Bool
is_ipv6_pattern text =
    not (bytes_eq text (codes "["))
    && (begins_with (is_mark (codes "[")) (without_first (slice_index (codes "{") 0) text)
    || begins_with (is_mark (codes "[")) (without_first (slice_index (codes "\\") 0) text))

-- The canonical form of a fixed text in the hostname pattern `pattern`, which may be that of an
-- IPv6 address; or the error of `url`.
abbrev pub canonical_in_hostname : (pattern : List ℕ) → List ℕ → Parsed (List ℕ)
canonical_in_hostname pattern text =
    if is_ipv6_pattern pattern then canonical_ipv6_hostname text else canonical_hostname text

-- The options under which a component's pattern is parsed, and the function that makes a fixed text
-- in it canonical; `hierarchical` says whether the pathname is hierarchical.
abbrev pub rules_of : UrlPatternOptions → Values → (hierarchical : Bool) → ComponentName
    → OptionsView × (List ℕ → Parsed (List ℕ))
rules_of asked values hierarchical Protocol = (in_syntax asked default_options, canonical_protocol)
rules_of asked values hierarchical Username = (in_syntax asked default_options, canonical_username)
rules_of asked values hierarchical Password = (in_syntax asked default_options, canonical_password)
rules_of asked values hierarchical Hostname =
    (in_syntax asked hostname_options, canonical_in_hostname (unwrap_or values.hostname []))
rules_of asked values hierarchical Port = (in_syntax asked default_options, canonical_port None)
rules_of asked values hierarchical Pathname =
    if hierarchical then (with_case asked pathname_options, canonical_pathname)
    else (with_case asked default_options, canonical_opaque_pathname)
rules_of asked values hierarchical Search = (with_case asked default_options, canonical_search)
rules_of asked values hierarchical Hash = (with_case asked default_options, canonical_hash)

-- How a component's pattern is parsed when `values` are compiled under the options `asked`;
-- `hierarchical` says whether the pathname is hierarchical.
abbrev pub settings_of : UrlPatternOptions → Values → (hierarchical : Bool) → ComponentName
    → ParseSettings
settings_of asked values hierarchical component =
    let rules = rules_of asked values hierarchical component in
    record { text = pattern_of values component; options = rules.0; canonical = rules.1 }

-- The encoding of fixed texts by `canonical`: a text results in its canonical form, in the error of
-- `url`, or in out of memory.
abbrev pub canonical_encoding : (List ℕ → Parsed (List ℕ)) → Encoding
canonical_encoding canonical =
    encoding_of (λ bytes returned. IsResult (canonical (chars bytes)) (length bytes) returned)

-- ---- components

-- The engine accepted the component's regular expression, and also its matcher's, if the matcher
-- needs one.
pub record HasEngine {E : Type 0} (compiled : ComponentView E) : Type 0 where
  pub whole : IsOk compiled.regexp
  pub of_matcher : AcceptedText (λ value. ⊤) compiled.matcher.inner

-- `text` is rejected with `error` when it is parsed, or the engine rejects a regular expression of
-- the component, and `error` is RegExp.
abbrev pub IsRejectedFrom : {E : Type 0} → Engine E → (text : List ℕ) → OptionsView → Encoding
    → ErrorView → Type 0
IsRejectedFrom {E} engine text options encoding error =
    Rejects text options encoding error
    ⊎ ((compiled : ComponentView E) × IsCompiledFrom engine text options encoding compiled
    × (¬ HasEngine compiled)
    × (error ≡ views.RegExp))

-- The pattern text of `settings` is parsed to `parts`.
abbrev pub ReadsAs : ParseSettings → List PartView → Type 0
ReadsAs settings parts =
    Reads settings.text settings.options (canonical_encoding settings.canonical) parts

-- The engine compiles a component as `settings` say to `compiled`, and accepts each regular
-- expression that it needs.
abbrev pub IsComponentCompiled : {E : Type 0} → Engine E → ParseSettings → ComponentView E → Type 0
IsComponentCompiled engine settings compiled =
    IsCompiledFrom engine settings.text settings.options (canonical_encoding settings.canonical)
    compiled
    × HasEngine compiled

-- A component that is compiled as `settings` say is rejected with this error, for its text or by
-- the engine.
abbrev pub IsComponentRejected : {E : Type 0} → Engine E → ParseSettings → ErrorView → Type 0
IsComponentRejected engine settings =
    IsRejectedFrom engine settings.text settings.options (canonical_encoding settings.canonical)

-- ---- whole patterns

-- The pathname of `values` is hierarchical: their protocol is empty, its matcher `protocol` accepts
-- a special scheme, or the pathname begins with a slash. `answer` returns what an engine captures
-- in a text.
abbrev pub HasHierarchicalPath : {E : Type 0} → (answer : E → List ℕ → Option Captures) → Values
    → (protocol : MatcherView E) → Type 0
HasHierarchicalPath answer values protocol =
    (values.protocol ≡ Some [])
    ⊎ AcceptsSpecialScheme answer protocol
    ⊎ IsTrue (begins_with (is_mark (codes "/")) (unwrap_or values.pathname []))

-- `hierarchical` is true exactly if the pathname of `values` is hierarchical, where `protocol` is
-- the protocol's matcher.
abbrev pub IsPathKind : {E : Type 0} → (answer : E → List ℕ → Option Captures) → Values
    → (protocol : MatcherView E) → (hierarchical : Bool) → Type 0
IsPathKind answer values protocol hierarchical =
    IsTrue hierarchical ↔ HasHierarchicalPath answer values protocol

-- Each component of `pattern` is compiled as the settings for its name say.
abbrev pub EachIsCompiled : {E : Type 0} → Engine E
    → (settings : ComponentName → ParseSettings) → PatternView E → Type 0
EachIsCompiled engine settings pattern =
    (component : ComponentName)
    → IsComponentCompiled engine (settings component) (pattern component)

-- `values` are compiled under the options `asked` to `pattern`. The values and the protocol's
-- matcher decide whether the pathname is hierarchical.
pub record AreCompiled {E : Type 0} (engine : Engine E) (asked : UrlPatternOptions)
    (values : Values) (pattern : PatternView E) : Type 0 where
  pub hierarchical : Bool
  pub path_kind : IsPathKind engine.answer values (pattern Protocol).matcher hierarchical
  pub are_compiled : EachIsCompiled engine (settings_of asked values hierarchical) pattern

-- The init is compiled under the options `asked` to `pattern`.
abbrev pub IsPatternOfInit : {E : Type 0} → Engine E → UrlPatternInit → UrlPatternOptions
    → PatternView E → Type 0
IsPatternOfInit engine init asked pattern =
    (values : Values) × (pattern_values init ≡ Ok values) × AreCompiled engine asked values pattern

-- ---- rejections

-- The order in which components are compiled, after the protocol.
abbrev pub after_protocol : List ComponentName
after_protocol = Hostname ∷ Pathname ∷ Username ∷ Password ∷ Port ∷ Search ∷ Hash ∷ []

-- A component of the list is rejected with this error, and each component before it is accepted.
abbrev pub FirstRejected : {E : Type 0} → Engine E
    → (settings : ComponentName → ParseSettings) → List ComponentName → ErrorView → Type 0
FirstRejected engine settings [] error = ⊥
FirstRejected {E} engine settings (component ∷ components) error =
    IsComponentRejected engine (settings component) error
    ⊎ (((compiled : ComponentView E) × IsComponentCompiled engine (settings component) compiled)
    × FirstRejected engine settings components error)

-- The protocol of `values` is accepted, and the first component after it that is rejected has the
-- error `error`.
pub record RejectsAfterProtocol {E : Type 0} (engine : Engine E) (asked : UrlPatternOptions)
    (values : Values) (error : ErrorView) : Type 0 where
  pub protocol : ComponentView E
  pub hierarchical : Bool
  pub is_compiled : IsComponentCompiled engine (settings_of asked values hierarchical Protocol)
      protocol
  pub path_kind : IsPathKind engine.answer values protocol.matcher hierarchical
  pub refused : FirstRejected engine (settings_of asked values hierarchical) after_protocol error

-- `values` are rejected under the options `asked` with `error`, the error of the first rejected
-- component in the order of compilation.
abbrev pub RejectsValues : {E : Type 0} → Engine E → UrlPatternOptions → Values → ErrorView → Type 0
RejectsValues engine asked values error =
    IsComponentRejected engine (settings_of asked values false Protocol) error
    ⊎ RejectsAfterProtocol engine asked values error

-- The init is rejected with `error` when it is compiled under the options `asked`.
abbrev pub RejectsInit : {E : Type 0} → Engine E → UrlPatternInit → UrlPatternOptions → ErrorView
    → Type 0
RejectsInit engine init asked error =
    (values : Values) × (pattern_values init ≡ Ok values) × RejectsValues engine asked values error
