-- What a policy decides: the first rule that matches, or the default. `answer` is what an engine
-- returns for a text.
use Rattle.std.specs.Map.{values_of}
use Rattle.std.specs.Prelude.{◌≡◌, ◌≢◌, ◌⊎◌, ◌&&◌, ◌||◌, ◌∷◌, ◌++◌, ℕ, Bool, [], not, nat_le, All, IsTrue, List, MatchBool, None, Option, Ok, Err, Some, length, max, slice_get, take, if◌then◌else◌}
use Rattle.url.specs.Parser.{Parsed, parse_url}
use Rattle.url.specs.declared.error.ParseError.{ParseError}
use Rattle.url.specs.declared.error.ParseError.TheVariants.{Overflow}
use Rattle.url.specs.Parts.{Parts, serialize}
use Rattle.urlpattern.specs.FirstMatch.{CallsEngineBeforeMatch}
use Rattle.urlpattern.specs.PatternMaps.{entry_patterns}
use Rattle.urlpattern_canonical.specs.Canonical.{canonical_hostname, is_special, long_text}
use Rattle.urlpattern_components.specs.Eight.{Texts}
use Rattle.urlpattern_init.specs.Inheritance.{texts_of_url}
use Rattle.urlpattern_meaning.specs.PartMeaning.{Captures}
use Rattle.urlpattern_pattern.specs.Match.{AreMatched, DoesNotMatch}
use Rattle.urlpattern_pattern.specs.Patterns.{PatternView}
use Rattle.urlpattern_pattern.specs.UrlPatterns.{UrlPattern}
use Rattle.urlpattern_policy.specs.Spellings.{ArePlain, plain_texts}
use Rattle.urlpattern_policy.specs.declared.decision.Decision.{Decision}
use Rattle.urlpattern_policy.specs.declared.decision.Decision.TheVariants.{Allow, Deny}
use Rattle.urlpattern_policy.specs.declared.decision.DenyReason.{DenyReason}
use Rattle.urlpattern_policy.specs.declared.decision.DenyReason.TheVariants as reasons
use Rattle.urlpattern_differences.specs.declared.rules.Effect.{Effect}
use Rattle.urlpattern_differences.specs.declared.rules.Effect.TheVariants as effects
use Rattle.urlpattern_policy.specs.declared.policy.PolicyOptions.{PolicyOptions}
use Rattle.urlpattern_policy.specs.declared.policy.UrlPolicy.{UrlPolicy}
use Rattle.urlpattern_syntax.specs.RegexpText.{is_empty}

-- ---- eight texts

-- Rules in order: patterns, each with what it decides.
abbrev pub Rules : (E : Type 0) → Type 0
Rules E = List (UrlPattern E × Effect)

-- The rule at the index has this effect and matches the texts, and no rule before it does.
pub record IsFirstRule {E : Type 0} (answer : E → List ℕ → Option Captures) (rules : Rules E)
    (texts : Texts) (index : ℕ) (effect : Effect) : Type 0 where
  pub decides : slice_get (values_of rules) index ≡ Some effect
  pub matches : (pattern : PatternView E)
      × (slice_get (entry_patterns rules) index ≡ Some pattern)
      × AreMatched answer pattern texts
  pub first : All (λ earlier. DoesNotMatch answer earlier texts) (take index (entry_patterns rules))

-- No rule matches the texts, and this is the effect where none does.
pub record IsDefault {E : Type 0} (answer : E → List ℕ → Option Captures) (policy : UrlPolicy E)
    (texts : Texts) (effect : Effect) : Type 0 where
  pub decides : policy.options.default ≡ effect
  pub none : All (λ rule. DoesNotMatch answer rule texts) (entry_patterns policy.rules)

-- Why eight texts are denied as they are spelled. Memory runs out only where an engine is called
-- before a rule matches.
abbrev pub DeniesTexts : {E : Type 0} → (answer : E → List ℕ → Option Captures) → UrlPolicy E
    → Texts → DenyReason → Type 0
DeniesTexts answer policy texts (reasons.Rule index) =
    IsFirstRule answer policy.rules texts index effects.Deny
DeniesTexts answer policy texts reasons.NoRule = IsDefault answer policy texts effects.Deny
DeniesTexts answer policy texts reasons.OutOfMemory =
    CallsEngineBeforeMatch answer (entry_patterns policy.rules) texts
DeniesTexts answer policy texts (reasons.NotAUrl error) = ⊥
DeniesTexts answer policy texts reasons.TooLong = ⊥
DeniesTexts answer policy texts reasons.Credentials = ⊥

-- What is decided about eight texts as they are spelled.
abbrev pub DecidesTexts : {E : Type 0} → (answer : E → List ℕ → Option Captures) → UrlPolicy E
    → Texts → Decision → Type 0
DecidesTexts answer policy texts (Allow (Some index)) =
    IsFirstRule answer policy.rules texts index effects.Allow
DecidesTexts answer policy texts (Allow None) = IsDefault answer policy texts effects.Allow
DecidesTexts answer policy texts (Deny reason) = DeniesTexts answer policy texts reason

-- ---- the eight texts of a URL

-- Whether a URL with these texts has a user name or a password.
abbrev pub has_credentials : Texts → Bool
has_credentials texts = not (is_empty texts.username) || not (is_empty texts.password)

-- The texts that are matched: those of the URL, in plain spelling if the options say so.
abbrev pub matched_texts : PolicyOptions → Texts → Texts
matched_texts options texts = if options.plain_spelling then plain_texts texts else texts

-- The texts are brought to their plain spelling, since the options say so and they are not plain.
abbrev pub IsRespelled : PolicyOptions → Texts → Type 0
IsRespelled options texts = IsTrue options.plain_spelling × (¬ ArePlain texts)

-- What is decided about a URL with these texts, in plain spelling if the options say so. Memory may
-- run out where they are respelled.
abbrev pub DecidesSpelled : {E : Type 0} → (answer : E → List ℕ → Option Captures) → UrlPolicy E
    → Texts → Decision → Type 0
DecidesSpelled answer policy texts decision =
    DecidesTexts answer policy (matched_texts policy.options texts) decision
    ⊎ ((decision ≡ Deny reasons.OutOfMemory) × IsRespelled policy.options texts)

-- What is decided where `url` reads a value, of which `Decides` says what is decided, or rejects
-- the text for the reason. Memory may run out.
abbrev pub DecidesParsed : {T : Type 0} → (Decides : T → Decision → Type 0) → Parsed T → Decision
    → Type 0
DecidesParsed Decides (Ok value) decision =
    Decides value decision ⊎ (decision ≡ Deny reasons.OutOfMemory)
DecidesParsed Decides (Err reason) decision =
    (decision ≡ Deny (reasons.NotAUrl reason)) ⊎ (decision ≡ Deny reasons.OutOfMemory)

-- Whether a URL with these texts has an opaque host: it has a host, and its scheme is not special.
abbrev pub has_opaque_host : Texts → Bool
has_opaque_host texts = not (is_empty texts.hostname) && not (is_special texts.protocol)

-- Whether the host of a URL with these texts is read as that of a special scheme is: it is opaque,
-- and the options ask for the plain spelling.
abbrev pub is_host_read : PolicyOptions → Texts → Bool
is_host_read options texts = options.plain_spelling && has_opaque_host texts

-- What is decided about a URL with these texts, whose host is the host that `url` reads under
-- `http`.
abbrev pub DecidesHost : {E : Type 0} → (answer : E → List ℕ → Option Captures) → UrlPolicy E
    → Texts → Decision → Type 0
DecidesHost answer policy texts =
    DecidesParsed (λ host. DecidesSpelled answer policy (record texts { hostname = host }))
    (canonical_hostname texts.hostname)

-- What is decided about a URL with these texts.
abbrev pub DecidesUrl : {E : Type 0} → (answer : E → List ℕ → Option Captures) → UrlPolicy E
    → Texts → Decision → Type 0
DecidesUrl answer policy texts decision =
    MatchBool (policy.options.denies_credentials && has_credentials texts)
    (decision ≡ Deny reasons.Credentials)
    (MatchBool (is_host_read policy.options texts) (DecidesHost answer policy texts decision)
    (DecidesSpelled answer policy texts decision))

-- ---- a text

-- The length of the text or of the base URL, whichever is longer, in bytes.
abbrev pub longest_bytes : Option Parts → (text : List ℕ) → ℕ
longest_bytes None text = length text
longest_bytes (Some base) text = max (length text) (length (serialize base))

-- Why a URL is denied before any rule is asked: memory ran out, or `url` rejects what it is asked
-- to read.
abbrev pub IsRefusal : {T : Type 0} → Parsed T → DenyReason → Type 0
IsRefusal parsed reason =
    (reason ≡ reasons.OutOfMemory)
    ⊎ ((error : ParseError) × (parsed ≡ Err error) × (reason ≡ reasons.NotAUrl error))

-- Why a URL is denied whose host `url` rejects for the error. An overflow may be one of memory.
abbrev pub IsHostRefusal : ParseError → DenyReason → Type 0
IsHostRefusal error reason =
    (reason ≡ reasons.OutOfMemory) ⊎ ((error ≢ Overflow) × (reason ≡ reasons.NotAUrl error))

-- What is decided about a text, a URL relative to the base URL if there is one: of a text or a base
-- URL of `long_text` bytes or more that it is too long, and of any other what `url` reads.
abbrev pub Decides : {E : Type 0} → (answer : E → List ℕ → Option Captures) → UrlPolicy E
    → (base : Option Parts) → (text : List ℕ) → Decision → Type 0
Decides answer policy base text decision =
    MatchBool (nat_le long_text (longest_bytes base text)) (decision ≡ Deny reasons.TooLong)
    (DecidesParsed (λ url. DecidesUrl answer policy (texts_of_url url)) (parse_url base text)
    decision)

-- ---- rules

-- `new` is `old` with a rule appended.
abbrev pub AppendsRule : {E : Type 0} → (old : UrlPolicy E) → UrlPattern E → Effect
    → (new : UrlPolicy E) → Type 0
AppendsRule old pattern effect new =
    new ≡ record old { rules = old.rules ++ (pattern, effect) ∷ [] }
