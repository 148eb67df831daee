-- Whether the protocol of a constructor string is special, after the URLPattern Standard, section
-- "Compute protocol matches a special scheme flag".
use Rattle.std.specs.Prelude.{◌≡◌, ℕ, ◌↔◌, Bool, false, List, Any, IsTrue, Option, Result, String, codes, length}
use Rattle.std.specs.{Borrow.Bor, Str.chars}
use Rattle.std.specs.declared.alloc.Global.{Global}
use Rattle.urlpattern_canonical.specs.Canonical.{IsResult, canonical_protocol, special_schemes}
use Rattle.urlpattern_matcher.specs.{Matchers.matcher_view, Components.IsCompiledKeeping, Components.IsEngineOf}
use Rattle.urlpattern_matcher.specs.declared.component.ComponentWithParts.{ComponentWithParts}
use Rattle.urlpattern_matcher.specs.declared.matcher.Matcher.{Matcher}
use Rattle.urlpattern_matcher.specs.declared.regexp.RegExp.{Ghosts as Engine}
use Rattle.urlpattern_meaning.specs.Matching.{IsMadeOf, IsMatched, MatcherView}
use Rattle.urlpattern_meaning.specs.PartMeaning.{Captures}
use Rattle.urlpattern_syntax.specs.declared.error.Error.{Error}
use Rattle.urlpattern_syntax.specs.{Errors.ErrorView, Options.default_options, Parts.PartView}
use Rattle.urlpattern_syntax.specs.Reading.{Encoding, Reads, Rejects, encoding_of}

-- `canonicalize_protocol` may return `returned` for the text with the UTF-8 bytes `bytes`.
abbrev pub CanonicalizesProtocol : List ℕ → Result (String Global) Error → Type 0
CanonicalizesProtocol bytes returned =
    IsResult (canonical_protocol (chars bytes)) (length bytes) returned

-- The encoding of fixed texts in a protocol's pattern: by `canonicalize_protocol`.
abbrev pub protocol_encoding : Encoding
protocol_encoding = encoding_of CanonicalizesProtocol

-- The matcher accepts at least one of `texts`; `answer` returns what an engine captures in a text.
abbrev pub AcceptsAny : {E : Type 0} → (answer : E → List ℕ → Option Captures) → Matcher E
    → List (Bor (List ℕ)) → Type 0
AcceptsAny answer matcher texts =
    Any (λ text. IsMatched answer (matcher_view matcher) (chars text.now)) texts

-- The matcher accepts at least one of the special schemes; `answer` returns what an engine captures
-- in a text.
abbrev pub AcceptsSpecialScheme : {E : Type 0} → (answer : E → List ℕ → Option Captures)
    → MatcherView E → Type 0
AcceptsSpecialScheme answer matcher =
    Any (λ scheme. IsMatched answer matcher scheme.0) special_schemes

-- The matcher accepts the text `only` and no other; `answer` returns what an engine captures in a
-- text.
abbrev pub AcceptsOnly : {E : Type 0} → (answer : E → List ℕ → Option Captures) → MatcherView E
    → (only : List ℕ) → Type 0
AcceptsOnly answer matcher only = (text : List ℕ) → IsMatched answer matcher text ↔ (text ≡ only)

-- `engine` makes a matcher of the protocol's pattern under the default options, and `special` is
-- whether that matcher accepts a special scheme.
pub record IsSpecialTo {E : Type 0} (engine : Engine E) (protocol : List ℕ) (special : Bool) : Type
    0 where
  pub parts : List PartView
  pub matcher : MatcherView E
  pub reads : Reads protocol default_options protocol_encoding parts
  pub is_made : IsMadeOf (IsEngineOf engine false (codes "u")) default_options parts matcher
  pub decides : IsTrue special ↔ AcceptsSpecialScheme engine.answer matcher

-- `known` is the text of a protocol's pattern and the component, with its parts, that `engine`
-- compiles from it under the default options.
abbrev pub IsKnownProtocol : {E : Type 0} → Engine E → Bor (List ℕ) × ComponentWithParts E → Type 0
IsKnownProtocol engine known =
    IsCompiledKeeping engine (chars known.0.now) default_options protocol_encoding known.1

-- The pattern of a protocol is rejected with `error` under the default options.
abbrev pub RejectsProtocol : List ℕ → ErrorView → Type 0
RejectsProtocol protocol error = Rejects protocol default_options protocol_encoding error
