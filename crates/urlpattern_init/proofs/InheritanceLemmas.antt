-- Lemmas on the values of an init.
use Rattle.std.proofs.Common.{◌≡◌, ◌≢◌, ℕ, zero, suc, Bool, true, false, ◌==◌, ◌<◌, ◌≤◌, ◌+◌, ◌||◌, fold, max, List, [], ◌∷◌, length, get_or, take, Ok, Err, None, Some, Option, Result, String, subst, sym, refl, ap, ◌∙◌, arith, map, inl, inr}
use Rattle.std.specs.List.{list_any}
use Rattle.std.specs.Prelude.{All, ◌++◌, if◌then◌else◌, option_map, string_bytes, unwrap_or}
use Rattle.url.specs.declared.error.ParseError.{ParseError}
use Rattle.url.specs.Parser.{Parsed, and_then}
use Rattle.std.specs.Str.{chars, IsUtf8}
use Rattle.std.specs.declared.alloc.Global.{Global}
use Rattle.url.specs.Parts.{Parts, cannot_be_a_base}
use Rattle.urlpattern_canonical.proofs.CanonicalLemmas.{answers-more, dummy_is_parsed, memory_alone}
use Rattle.urlpattern_canonical.specs.Canonical.{IsResult, Reports, bytes_passed, dummy_url, processed_base, processed_pathname}
use Rattle.std.proofs.lemmas.List.Elements.{All-head, All-tail}
use Rattle.urlpattern_components.proofs.EightLemmas.{at-each, by_name, same_values}
use Rattle.urlpattern_syntax.proofs.StringTexts.{text-nil}
use Rattle.urlpattern_syntax.proofs.TextLemmas.{byte_len-chars}
use Rattle.urlpattern_syntax.specs.declared.error.Error.{Error}
use Rattle.urlpattern_components.specs.Eight.{Values, at, components, each}
use Rattle.urlpattern_syntax.specs.Text.{byte_len, text_of}
use Rattle.urlpattern_components.specs.declared.eight.ComponentName.{ComponentName}
use Rattle.urlpattern_components.specs.declared.eight.ComponentName.TheVariants.{Protocol, Username, Password, Hostname, Port, Pathname, Search, Hash}
use Rattle.urlpattern_components.specs.declared.eight.Eight.{Eight}
use Rattle.urlpattern_init.specs.Inheritance.{longest_bytes, bytes_of, first_error, value_given, given_bytes, given_text, is_absolute, is_slash, processed_text, processed_values, protocol_bytes, path_prefix, error_or, unless_error, up_to_last_slash, value_or_none, processed_value}
use Rattle.urlpattern_canonical.specs.declared.canonicalize_and_process.ProcessType.{ProcessType}
use Rattle.urlpattern_canonical.specs.declared.canonicalize_and_process.ProcessType.TheVariants.{Pattern, Url}
use Rattle.urlpattern_syntax.specs.declared.error.Error.TheVariants as errors
use Rattle.urlpattern_syntax.specs.Errors.{ErrorView, error_view, ErrorView as views, MemoryOr}
use Rattle.urlpattern_canonical.proofs.SchemeLemmas.{or_false}

-- ---- the path up to its last slash

none-up_to : (path : List ℕ) → list_any is_slash path ≡ false → up_to_last_slash path ≡ []
none-up_to [] none = refl
none-up_to (c ∷ path) none = ap (λ test. if test then c ∷ up_to_last_slash path else []) none

or_true : (a b : Bool) → b ≡ true → (a || b) ≡ true
or_true true b e = refl
or_true false b e = e

no_slash : (path : List ℕ) → ((i : ℕ) → i < length path → get_or path i 0 ≢ 47) → list_any is_slash path ≡ false
no_slash [] none = refl
no_slash (c ∷ path) none =
    let first : c ≢ 47 = none 0 (omega arith) in
    let rest : list_any is_slash path ≡ false = no_slash path (λ i lt. none (suc i) (omega arith)) in
    or_false (is_slash c) (list_any is_slash path) (let e : (c == 47) ≡ false = grind arith in e) rest

a_slash : (path : List ℕ) (at : ℕ) → at < length path → get_or path at 0 ≡ 47 → list_any is_slash path ≡ true
a_slash [] at within here = absurd (omega arith)
a_slash (c ∷ path) zero within here = ap (λ b. b || list_any is_slash path) (let e : (c == 47) ≡ true = grind arith in e)
a_slash (c ∷ path) (suc at) within here = or_true (is_slash c) (list_any is_slash path) (a_slash path at (omega arith) here)

some-up_to : (c : ℕ) (path : List ℕ) → list_any is_slash (c ∷ path) ≡ true → up_to_last_slash (c ∷ path) ≡ c ∷ up_to_last_slash path
some-up_to c path some = ap (λ test. if test then c ∷ up_to_last_slash path else []) some

pub up_to_last_slash-none : (path : List ℕ) → ((i : ℕ) → i < length path → get_or path i 0 ≢ 47) → up_to_last_slash path ≡ []
up_to_last_slash-none path none = none-up_to path (no_slash path none)

up_to-at : (path : List ℕ) (at : ℕ) → at < length path → get_or path at 0 ≡ 47
    → ((i : ℕ) → at < i → i < length path → get_or path i 0 ≢ 47) → up_to_last_slash path ≡ take (suc at) path
up_to-at [] at within here later = absurd (omega arith)
up_to-at (c ∷ path) zero within here later =
    some-up_to c path (a_slash (c ∷ path) zero within here)
    ∙ ap (λ rest. c ∷ rest) (up_to_last_slash-none path (λ i lt. later (suc i) (omega arith) (omega arith)))
up_to-at (c ∷ path) (suc at) within here later =
    some-up_to c path (a_slash (c ∷ path) (suc at) within here)
    ∙ ap (λ rest. c ∷ rest) (up_to-at path at (omega arith) here (λ i more lt. later (suc i) (omega arith) (omega arith)))

pub up_to_last_slash-at : (path : List ℕ) (at : ℕ) → at < length path → get_or path at 0 ≡ 47
    → ((i : ℕ) → at < i → i < length path → get_or path i 0 ≢ 47) → up_to_last_slash path ≡ take (at + 1) path
up_to_last_slash-at path at within here later =
    up_to-at path at within here later ∙ ap (λ n. take n path) (let e : suc at ≡ at + 1 = omega arith in e)

-- ---- the values, or the first error

bind-ok : {T U : Type 0} (first : Parsed T) (x : T) (next : T → Parsed U) → first ≡ Ok x → and_then first next ≡ next x
bind-ok first x next e = ap (λ parsed. and_then parsed next) e

bind-err : {T U : Type 0} (first : Parsed T) (reason : ParseError) (next : T → Parsed U) → first ≡ Err reason → and_then first next ≡ Err reason
bind-err first reason next e = ap (λ parsed. and_then parsed next) e

pub refused-protocol : (mode : ProcessType) (values : Values) (base : Option Parts) (reason : ParseError) → processed_value mode values base None Protocol ≡ Err reason
    → processed_values mode values base ≡ Err reason
unfolding processed_values
refused-protocol mode values base reason refused =
    bind-err _ _ _ refused

-- A component has a value.
abbrev pub HasValue : {A : Type 0} → (ComponentName → Parsed A) → ComponentName → Type 0
HasValue {A} answers name = (value : A) × (answers name ≡ Ok value)

refusal-after : {A : Type 0} (answers : ComponentName → Parsed A) (reason : ParseError) (name : ComponentName) (before after : List ComponentName)
    → All (HasValue answers) before → answers name ≡ Err reason → first_error answers (before ++ name ∷ after) ≡ Some reason
refusal-after answers reason name [] after values refused = ap (λ answer. error_or answer (first_error answers after)) refused
refusal-after answers reason name (earlier ∷ before) after values refused =
    ap (λ answer. error_or answer (first_error answers (before ++ name ∷ after))) (All-head (HasValue answers) earlier before values).1
    ∙ refusal-after answers reason name before after (All-tail (HasValue answers) earlier before values) refused

no-refusal : {A : Type 0} (answers : ComponentName → Parsed A) (names : List ComponentName) → ((name : ComponentName) → HasValue answers name)
    → first_error answers names ≡ None
no-refusal answers [] values = refl
no-refusal answers (name ∷ others) values =
    ap (λ answer. error_or answer (first_error answers others)) (values name).1 ∙ no-refusal answers others values

-- If the component's value is the first error, processing returns it.
pub refused-after : (mode : ProcessType) (values : Values) (base : Option Parts) (protocol : Option (List ℕ)) (reason : ParseError)
    (name : ComponentName) (before after : List ComponentName) → components ≡ before ++ name ∷ after
    → processed_value mode values base None Protocol ≡ Ok protocol
    → All (HasValue (processed_value mode values base protocol)) before
    → processed_value mode values base protocol name ≡ Err reason → processed_values mode values base ≡ Err reason
unfolding processed_values
refused-after mode values base protocol reason name before after split e earlier refused =
    let answers = processed_value mode values base protocol in
    bind-ok _ _ _ e
    ∙ ap (λ refusal. unless_error refusal (each (λ other. value_or_none (answers other))))
    (ap (first_error answers) split ∙ refusal-after answers reason name before after earlier refused)

protocol-given : (mode : ProcessType) (values : Values) (base : Option Parts) (protocol given : Option (List ℕ))
    → value_given mode values base protocol Protocol given ≡ value_given mode values base None Protocol given
protocol-given mode values base protocol None = refl
protocol-given mode values base protocol (Some text) = refl

-- The protocol's value does not depend on the protocol.
protocol-alone : (mode : ProcessType) (values : Values) (base : Option Parts) (protocol : Option (List ℕ))
    → processed_value mode values base protocol Protocol ≡ processed_value mode values base None Protocol
protocol-alone mode values base protocol = protocol-given mode values base protocol values.protocol

-- Replacing the protocol keeps the other values.
pub kept : {A : Type 0} (first : A) (values : Eight A) (name : ComponentName) → name ≢ Protocol → at (record values { protocol = first }) name ≡ at values name
kept first values =
    by_name (λ name. name ≢ Protocol → at (record values { protocol = first }) name ≡ at values name)
    (λ other. absurd (other refl)) (λ _. refl) (λ _. refl) (λ _. refl) (λ _. refl) (λ _. refl) (λ _. refl) (λ _. refl)

-- A fact about all components, from the protocol's and those of the later components.
module _ (mode : ProcessType) (values : Values) (base : Option Parts) (protocol : Option (List ℕ)) (e : processed_value mode values base None Protocol ≡ Ok protocol) where
  pub or_protocol : (P : ComponentName → Type 0) → P Protocol → ((name : ComponentName) → name ≢ Protocol → P name) → (name : ComponentName) → P name
  or_protocol P first others =
      by_name P first (others Username (λ same. absurd cc)) (others Password (λ same. absurd cc)) (others Hostname (λ same. absurd cc))
      (others Port (λ same. absurd cc)) (others Pathname (λ same. absurd cc)) (others Search (λ same. absurd cc)) (others Hash (λ same. absurd cc))

  pub has_value : (name : ComponentName) (value : Option (List ℕ)) → (name ≢ Protocol → processed_value mode values base protocol name ≡ Ok value)
      → HasValue (processed_value mode values base protocol) name
  has_value name value other =
      or_protocol (λ n. n ≡ name → HasValue (processed_value mode values base protocol) n)
      (λ same. (protocol, protocol-alone mode values base protocol ∙ e))
      (λ n not_first same. (value, ap (processed_value mode values base protocol) same ∙ other (λ first. not_first (same ∙ first))))
      name refl

  pub is_value : (found : Values) → found.protocol ≡ protocol
      → ((name : ComponentName) → name ≢ Protocol → processed_value mode values base protocol name ≡ Ok (at found name))
      → (name : ComponentName) → processed_value mode values base protocol name ≡ Ok (at found name)
  is_value found same others =
      or_protocol (λ name. processed_value mode values base protocol name ≡ Ok (at found name))
      (protocol-alone mode values base protocol ∙ e ∙ ap Ok (sym same)) others

-- Processing returns the values of the components.
pub processed : (mode : ProcessType) (values : Values) (base : Option Parts) (protocol : Option (List ℕ)) (found : Values)
    → processed_value mode values base None Protocol ≡ Ok protocol
    → ((name : ComponentName) → processed_value mode values base protocol name ≡ Ok (at found name)) → processed_values mode values base ≡ Ok found
unfolding processed_values
processed mode values base protocol found e are =
    let answers = processed_value mode values base protocol in
    bind-ok _ _ _ e
    ∙ ap (λ refusal. unless_error refusal (each (λ name. value_or_none (answers name)))) (no-refusal answers components (λ name. (at found name, are name)))
    ∙ ap Ok (same_values (each (λ name. value_or_none (answers name))) found (λ name. at-each (λ other. value_or_none (answers other)) name ∙ ap value_or_none (are name)))

-- ---- lengths of texts

pub asked-mono : (mode : ProcessType) (few many : ℕ) → few ≤ many → bytes_passed mode few ≤ bytes_passed mode many
asked-mono Pattern few many more = omega arith
asked-mono Url few many more = more

-- A result about texts of some length is one about longer texts.
pub answers-asked : (mode : ProcessType) (asked : Parsed (List ℕ)) (few many : ℕ) (result : Result (String Global) Error) → few ≤ many
    → IsResult asked (bytes_passed mode few) result → IsResult asked (bytes_passed mode many) result
answers-asked mode asked few many result more answer =
    answers-more asked (bytes_passed mode few) (bytes_passed mode many) result (asked-mono mode few many more) answer

-- A result about some bytes is one about a text and its protocol, if neither of the two is shorter.
pub answers-under : (mode : ProcessType) (asked : Parsed (List ℕ)) (text under : List ℕ) (few : ℕ) (result : Result (String Global) Error)
    → IsUtf8 text → few ≤ max (length under) (length text) → IsResult asked (bytes_passed mode few) result
    → IsResult asked (bytes_passed mode (max (length under) (byte_len (chars text)))) result
answers-under mode asked text under few result utf8 more =
    let size = byte_len-chars text utf8 in
    answers-asked mode asked few (max (length under) (byte_len (chars text))) result (omega arith)

-- A result about the bytes of a text alone is one about the text and its protocol.
pub answers-own : (mode : ProcessType) (asked : Parsed (List ℕ)) (text under : List ℕ) (result : Result (String Global) Error)
    → IsUtf8 text → IsResult asked (bytes_passed mode (length text)) result
    → IsResult asked (bytes_passed mode (max (length under) (byte_len (chars text)))) result
answers-own mode asked text under result utf8 answer = answers-under mode asked text under (length text) result utf8 (omega arith) answer

-- The length in bytes of the longest text.
all_bytes : ProcessType → Values → Option Parts → ℕ
all_bytes mode values base =
    fold max (protocol_bytes (processed_value mode values base None Protocol)) (map (given_bytes mode values base) components)

longest : (first : ℕ) (bytes : ComponentName → ℕ) (component : ComponentName) → max first (bytes component) ≤ fold max first (map bytes components)
longest first bytes =
    by_name (λ component. max first (bytes component) ≤ fold max first (map bytes components))
    (omega arith) (omega arith) (omega arith) (omega arith) (omega arith) (omega arith) (omega arith) (omega arith)

given-all : (mode : ProcessType) (values : Values) (base : Option Parts) (component : ComponentName)
    → max 0 (given_bytes mode values base component) ≤ all_bytes mode values base
unfolding all_bytes
given-all mode values base component =
    let most = longest (protocol_bytes (processed_value mode values base None Protocol)) (given_bytes mode values base) component in
    omega arith

under-all : (mode : ProcessType) (values : Values) (base : Option Parts) (component : ComponentName) (protocol : Option (List ℕ))
    → processed_value mode values base None Protocol ≡ Ok protocol
    → max (bytes_of protocol) (given_bytes mode values base component) ≤ all_bytes mode values base
unfolding all_bytes
under-all mode values base component protocol e = rw e (longest (bytes_of protocol) (given_bytes mode values base) component)

pub given-le : (mode : ProcessType) (values : Values) (base : Option Parts) (component : ComponentName)
    → bytes_passed mode (max 0 (given_bytes mode values base component)) ≤ longest_bytes mode values base
unfolding longest_bytes all_bytes
given-le mode values base component =
    asked-mono mode (max 0 (given_bytes mode values base component)) (all_bytes mode values base) (given-all mode values base component)

pub asked-le : (mode : ProcessType) (values : Values) (base : Option Parts) (component : ComponentName) (protocol : Option (List ℕ))
    → processed_value mode values base None Protocol ≡ Ok protocol
    → bytes_passed mode (max (bytes_of protocol) (given_bytes mode values base component)) ≤ longest_bytes mode values base
unfolding longest_bytes all_bytes
asked-le mode values base component protocol e =
    asked-mono mode (max (bytes_of protocol) (given_bytes mode values base component)) (all_bytes mode values base) (under-all mode values base component protocol e)

-- ---- patterns are never rejected

pattern-text : (protocol : Option (List ℕ)) (component : ComponentName) (text : List ℕ) → (value : List ℕ) × (processed_text Pattern protocol component text ≡ Ok value)
pattern-text protocol component text =
    by_name (λ name. (value : List ℕ) × (processed_text Pattern protocol name text ≡ Ok value))
    (_, refl) (_, refl) (_, refl) (_, refl) (_, refl) (_, refl) (_, refl) (_, refl) component

pattern-given : (values : Values) (base : Option Parts) (protocol : Option (List ℕ)) (component : ComponentName) (given : Option (List ℕ))
    → (value : Option (List ℕ)) × (value_given Pattern values base protocol component given ≡ Ok value)
pattern-given values base protocol component None = (_, refl)
pattern-given values base protocol component (Some text) =
    let found = pattern-text protocol component (given_text Pattern base component text) in
    (Some found.0, ap (λ parsed. and_then parsed (λ value. Ok (Some value))) found.1)

pattern-value : (values : Values) (base : Option Parts) (protocol : Option (List ℕ)) (component : ComponentName)
    → (value : Option (List ℕ)) × (processed_value Pattern values base protocol component ≡ Ok value)
pattern-value values base protocol component = pattern-given values base protocol component (at values component)

pub pattern-processed : (values : Values) (base : Option Parts) → (found : Values) × (processed_values Pattern values base ≡ Ok found)
pattern-processed values base =
    let protocol = pattern-value values base None Protocol in
    let found : (name : ComponentName) → HasValue (processed_value Pattern values base protocol.0) name = λ name. pattern-value values base protocol.0 name in (
      each (λ name. (found name).0),
      processed Pattern values base protocol.0 (each (λ name. (found name).0)) protocol.1
          (λ name. (found name).1 ∙ ap Ok (sym (at-each (λ other. (found other).0) name))),
    )

never-reported : (asked : Parsed Values) (found : Values) (view : ErrorView) → asked ≡ Ok found → ¬ Reports asked 0 view
never-reported asked found (views.Url reason) is refused =
    elim refused.1 [ inl same ↦ absurd cc | inr long ↦ absurd (omega (arith, long.1)) ]
never-reported asked found view is refused = absurd refused

-- Processing a pattern fails only when memory runs out.
pub pattern-memory : (values : Values) (base : Option Parts) (error : Error)
    → MemoryOr (Reports (processed_values Pattern values base) (longest_bytes Pattern values base)) error → error ≡ errors.OutOfMemory
unfolding longest_bytes
pattern-memory values base error reported =
    let found = pattern-processed values base in
    elim reported [
      | inl memory ↦ memory_alone dummy_url dummy_is_parsed.0 0 (Err error) dummy_is_parsed.1 (omega arith) (inl memory)
      | inr refused ↦ absurd (never-reported (processed_values Pattern values base) found.0 (error_view error) found.1 refused)
    ]

-- ---- what is put before a pathname

pub path_prefix-base : (mode : ProcessType) (url : Parts) (text : List ℕ) → is_absolute mode text ≡ false → cannot_be_a_base url ≡ false
    → path_prefix mode (Some url) text ≡ processed_base mode (chars (up_to_last_slash url.path))
path_prefix-base mode url text relative hierarchical =
    ap (λ test. if test then [] else processed_base mode (chars (up_to_last_slash url.path)))
    (or_false (is_absolute mode text) (cannot_be_a_base url) relative hierarchical)

pub path_prefix-absolute : (mode : ProcessType) (url : Parts) (text : List ℕ) → is_absolute mode text ≡ true → path_prefix mode (Some url) text ≡ []
path_prefix-absolute mode url text absolute =
    ap (λ test. if test || cannot_be_a_base url then [] else processed_base mode (chars (up_to_last_slash url.path))) absolute

pub path_prefix-opaque : (mode : ProcessType) (url : Parts) (text : List ℕ) → cannot_be_a_base url ≡ true → path_prefix mode (Some url) text ≡ []
path_prefix-opaque mode url text opaque =
    ap (λ test. if test then [] else processed_base mode (chars (up_to_last_slash url.path))) (or_true (is_absolute mode text) (cannot_be_a_base url) opaque)

pub path_prefix-none : (mode : ProcessType) (base : Option Parts) (text : List ℕ) → ((url : Parts) → ¬ (base ≡ Some url)) → path_prefix mode base text ≡ []
path_prefix-none mode None text none = refl
path_prefix-none mode (Some url) text none = absurd (none url refl)

-- A result about the bytes of a text, as one about the text.
pub answers-text : (mode : ProcessType) (protocol : Option (List ℕ)) (bytes text : List ℕ) (result : Result (String Global) Error) → IsUtf8 bytes
    → chars bytes ≡ text → IsResult (processed_pathname mode protocol (chars bytes)) (bytes_passed mode (length bytes)) result
    → IsResult (processed_pathname mode protocol text) (bytes_passed mode (byte_len text)) result
answers-text mode protocol bytes text result u e answer =
    let Answered : List ℕ → Type 0 = λ t. IsResult (processed_pathname mode protocol t) (bytes_passed mode (byte_len t)) result in
    subst Answered e
    (answers-asked mode (processed_pathname mode protocol (chars bytes)) (length bytes) (byte_len (chars bytes)) result
    (let size = byte_len-chars bytes u in omega arith) answer)

-- ---- a text, or else the empty text

pub text-or_empty : (found : Option (String Global)) (empty result : String Global) → string_bytes empty ≡ [] → result ≡ unwrap_or found empty
    → text_of result ≡ unwrap_or (option_map text_of found) []
text-or_empty None empty result is_empty is_result = ap text_of is_result ∙ text-nil empty is_empty
text-or_empty (Some text) empty result is_empty is_result = ap text_of is_result

-- ---- copies

-- Equal bytes are equal texts.
pub same_texts : (first second : Option (String Global)) → option_map string_bytes first ≡ option_map string_bytes second
    → option_map text_of first ≡ option_map text_of second
same_texts None None same = ap (option_map chars) same
same_texts None (Some text) same = ap (option_map chars) same
same_texts (Some text) None same = ap (option_map chars) same
same_texts (Some text) (Some other) same = ap (option_map chars) same
