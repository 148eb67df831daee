-- Definitions for the laws: the places of tokens, the results of encodings, outcomes, names of
-- groups, and the shapes of matchers.
use Rattle.std.specs.Prelude.{◌≡◌, ◌≢◌, ℕ, suc, ◌+◌, ◌⊎◌, List, [], ◌∷◌, ◌++◌, codes, Contains, Result, Ok, Err, IsTrue, decimal, filter}
use Rattle.std.specs.{Char.is_ascii_digit, List.list_all}
use Rattle.urlpattern_meaning.specs.Matching.{IsMadeOf, MatcherView}
use Rattle.urlpattern_syntax.specs.{Errors.ErrorView, Options.OptionsView, Parts.PartView}
use Rattle.urlpattern_syntax.specs.Pieces.{ArePieces, Ending, Piece}
use Rattle.urlpattern_syntax.specs.Reading.{AreMet, Demand, Encode, Encoding, Reads, Rejects, demands, items_of}
use Rattle.urlpattern_syntax.specs.Text.{begins_with, byte_len}
use Rattle.urlpattern_syntax.specs.declared.tokenizer.TokenType.{TokenType}
use Rattle.urlpattern_syntax.specs.Tokens.{AreLenientTokens, AreTokens, FaultView, IsFault, TokenView, is_ignored}

-- At most one value has the property `Is`.
abbrev pub AtMostOne : {A : Type 0} → (Is : A → Type 0) → Type 0
AtMostOne {A} Is = (value other : A) → Is value → Is other → value ≡ other

-- ---- the places of tokens

-- The characters that spell a token of this kind and value. End has none.
abbrev pub spelling : TokenType → List ℕ → List ℕ
spelling TokenType.EscapedChar value = codes "\\" ++ value
spelling TokenType.Name value = codes ":" ++ value
spelling TokenType.Regexp value = codes "(" ++ value ++ codes ")"
spelling TokenType.End value = []
spelling kind value = value

-- The spelling of the token is in the text, and begins at the byte that the token's index says.
abbrev pub IsSpelledAt : (text : List ℕ) → TokenView → Type 0
IsSpelledAt text token =
    (before after : List ℕ) × (text ≡ before ++ spelling token.kind token.value ++ after)
    × (token.index ≡ byte_len before)

-- The text, which begins at the byte `place` of a longer one, is the spellings of these tokens in
-- order, each at its token's index, with nothing but skipped characters before each.
abbrev pub AreSpelledFrom : (place : ℕ) → List TokenView → (text : List ℕ) → Type 0
AreSpelledFrom place [] text = text ≡ []
AreSpelledFrom place (token ∷ tokens) text =
    (skipped rest : List ℕ) × (text ≡ skipped ++ spelling token.kind token.value ++ rest)
    × IsTrue (list_all is_ignored skipped)
    × (token.index ≡ place + byte_len skipped)
    × AreSpelledFrom (token.index + byte_len (spelling token.kind token.value)) tokens rest

-- ---- what every text has

-- The text has strict tokens, or a first fault with its place.
abbrev pub HasTokensOrFault : (text : List ℕ) → Type 0
HasTokensOrFault text =
    ((tokens : List TokenView) × AreTokens text tokens)
    ⊎ ((fault : FaultView) × (place : ℕ) × IsFault text fault place)

-- The text has lenient tokens.
abbrev pub HasLenientTokens : (text : List ℕ) → Type 0
HasLenientTokens text = (tokens : List TokenView) × AreLenientTokens text tokens

-- ---- encodings

-- A list of texts, each with a result of an encoding for the text.
abbrev pub EncodingResults : Type 0
EncodingResults = List (List ℕ × Result (List ℕ) ErrorView)

-- The encoding that has these results and no others.
abbrev pub listed : EncodingResults → Encoding
listed answers text answer = Contains answers (text, answer)

-- The encoding has at most one result for each text.
abbrev pub ReturnsOnce : Encoding → Type 0
ReturnsOnce encoding = (text : List ℕ) → AtMostOne (encoding text)

-- The encoding has at most one result for each text, not counting that memory ran out.
abbrev pub ReturnsOnceGivenMemory : Encoding → Type 0
ReturnsOnceGivenMemory encoding =
    (text : List ℕ) (answer other : Result (List ℕ) ErrorView) → encoding text answer
    → encoding text other →
    answer ≢ Err ErrorView.OutOfMemory → other ≢ Err ErrorView.OutOfMemory → answer ≡ other

-- The encoding has a result for the text.
abbrev pub HasResult : Encoding → (text : List ℕ) → Type 0
HasResult encoding text = (answer : Result (List ℕ) ErrorView) × encoding text answer

-- While the text is parsed, the encoding is called with the text `asked`: the pieces of the text
-- demand its encoding, and each demand before that one is met.
pub record CallsEncoding (text : List ℕ) (options : OptionsView) (encoding : Encoding)
    (asked : List ℕ) : Type 0 where
  pub tokens : List TokenView
  pub pieces : List Piece
  pub ending : Ending
  pub before : List Demand
  pub later : List Demand
  pub are_tokens : AreTokens text tokens
  pub are_pieces : ArePieces options.prefix tokens pieces ending
  pub asks : demands (items_of pieces) ending ≡ before ++ Encode asked ∷ later
  pub are_met : AreMet encoding before

-- The encoding has a result for each text that it is called with while `text` is parsed.
abbrev pub HasRequestedResults : (text : List ℕ) → OptionsView → Encoding → Type 0
HasRequestedResults text options encoding =
    (asked : List ℕ) → CallsEncoding text options encoding asked → HasResult encoding asked

-- While `text` is parsed, the encoding is called with a text for which it has no result.
abbrev pub LacksResult : (text : List ℕ) → OptionsView → Encoding → Type 0
LacksResult text options encoding =
    (asked : List ℕ) × CallsEncoding text options encoding asked × ¬ HasResult encoding asked

-- ---- outcomes

-- The parts that a text reads as, or the error that it is rejected with.
abbrev pub Outcome : Type 0
Outcome = Result (List PartView) ErrorView

-- The text reads as these parts, or is rejected with this error.
abbrev pub HasOutcome : (text : List ℕ) → OptionsView → Encoding → Outcome → Type 0
HasOutcome text options encoding (Ok parts) = Reads text options encoding parts
HasOutcome text options encoding (Err error) = Rejects text options encoding error

-- The text reads as some parts, or is rejected with some error.
abbrev pub HasSomeOutcome : (text : List ℕ) → OptionsView → Encoding → Type 0
HasSomeOutcome text options encoding =
    (outcome : Outcome) × HasOutcome text options encoding outcome

-- ---- names

-- The names that begin with a digit.
abbrev pub numbers_among : List (List ℕ) → List (List ℕ)
numbers_among names = filter (λ name. begins_with is_ascii_digit name) names

-- The names are `number`, the next number, and so on, in decimal.
abbrev pub CountFrom : ℕ → List (List ℕ) → Type 0
CountFrom number [] = Unit {0}
CountFrom number (name ∷ names) = (name ≡ decimal number) × CountFrom (suc number) names

-- ---- matchers

-- The matcher is made from the parts, and its engine, if it has one, is any value or error.
abbrev pub HasShapeOf : {E : Type 0} → OptionsView → List PartView → MatcherView E → Type 0
HasShapeOf options parts matcher = IsMadeOf (λ regexp engine. Unit {0}) options parts matcher
