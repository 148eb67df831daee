-- Laws of tokens, of pieces, of the parts that texts read as, and of printed patterns. A statement
-- about an encoding is a law under each list of results, or under each callback.
use Rattle.std.specs.Prelude.{◌≡◌, ◌≢◌, ◌⊎◌, ℕ, ◌<◌, List, ◌∷◌, ◌++◌, Err}
use Rattle.urlpattern_meaning.specs.Laws.{EncodingResults, HasRequestedResults, ReturnsOnce, ReturnsOnceGivenMemory, HasOutcome, HasSomeOutcome, LacksResult, Outcome, listed}
use Rattle.urlpattern_meaning.specs.Printing.{Keeps, encoded_texts, joined, printed}
use Rattle.urlpattern_meaning.specs.RoundTrip.{FailsText, IsPrintable, KeepsOrFails, MayKeep, ReadsAsJoined, ReadsOnlyAsJoined, WereRead}
use Rattle.urlpattern_syntax.specs.{Errors.ErrorView, Options.OptionsView, Parts.PartView}
use Rattle.urlpattern_syntax.specs.Pieces.{ArePieces, Ending, Piece}
use Rattle.urlpattern_syntax.specs.Reading.{Calls, Encoding, Reads, Rejects, encoding_by}
use Rattle.urlpattern_syntax.specs.Tokens.{AreTokens, FaultView, IsFault, TokenView}

-- ---- tokens

-- A text has at most one first fault, at one place.
abbrev pub FaultsAreOne : Type 0
FaultsAreOne = (text : List ℕ) (fault other : FaultView) (place another : ℕ) →
    IsFault text fault place → IsFault text other another → (fault ≡ other) × (place ≡ another)

-- No text has both strict tokens and a first fault.
abbrev pub TokensExcludeFaults : Type 0
TokensExcludeFaults = (text : List ℕ) (tokens : List TokenView) (fault : FaultView) (place : ℕ) →
    AreTokens text tokens → ¬ IsFault text fault place

-- `Says` holds of each text, each of its strict tokens, and the list of tokens after that one.
abbrev pub OfEachToken : (Says : (text : List ℕ) → TokenView → (later : List TokenView) → Type 0)
    → Type 0
OfEachToken Says =
    (text : List ℕ) (front later : List TokenView) (token : TokenView)
    → AreTokens text (front ++ token ∷ later)
    → Says text token later

-- Each token of a text has a lesser index than each later token.
abbrev pub IndicesRise : Type 0
IndicesRise = (text : List ℕ) (front between back : List TokenView) (token later : TokenView) →
    AreTokens text (front ++ token ∷ (between ++ later ∷ back)) → token.index < later.index

-- ---- pieces

-- Tokens are at most one list of pieces, with one ending, under a prefix code point.
abbrev pub PiecesAreOne : Type 0
PiecesAreOne =
    (point : List ℕ) (tokens : List TokenView) (pieces others : List Piece) (ending other : Ending)
    →
    ArePieces point tokens pieces ending
    → ArePieces point tokens others other
    → (pieces ≡ others) × (ending ≡ other)

-- The tokens of a text are a list of pieces with an ending, under any prefix code point.
abbrev pub TokensHavePieces : Type 0
TokensHavePieces = (point text : List ℕ) (tokens : List TokenView) →
    AreTokens text tokens
    → (pieces : List Piece) × (ending : Ending) × ArePieces point tokens pieces ending

-- ---- encodings

-- `Sentence` holds of each encoding that is a list of texts with their results.
abbrev pub UnderEachList : (Sentence : Encoding → Type 0) → Type 0
UnderEachList Sentence = (answers : EncodingResults) → Sentence (listed answers)

-- `Sentence` holds of the encoding of each callback of the type `F`.
abbrev pub UnderEachCallback : {F : Type 0} → Calls F → (Sentence : Encoding → Type 0) → Type 0
UnderEachCallback {F} calls Sentence = (callback : F) → Sentence (encoding_by calls callback)

-- ---- readings and rejections

-- At most one value has the property `Has` for a text under options, where the encoding has at most
-- one result for each text.
abbrev pub HaveOneAtMost : {A : Type 0}
    → (Has : (text : List ℕ) → OptionsView → Encoding → A → Type 0)
    → Encoding → Type 0
HaveOneAtMost {A} Has encoding =
    (text : List ℕ) (options : OptionsView) (value other : A) → ReturnsOnce encoding →
    Has text options encoding value → Has text options encoding other → value ≡ other

-- A text has at most one outcome, parts or an error, where the encoding has at most one result for
-- each text.
abbrev pub OutcomesAreOne : Encoding → Type 0
OutcomesAreOne encoding = HaveOneAtMost HasOutcome encoding

-- No text both reads as parts and is rejected, where the encoding has at most one result for each
-- text.
abbrev pub ReadingsExcludeRejections : Encoding → Type 0
ReadingsExcludeRejections encoding =
    (text : List ℕ) (options : OptionsView) (parts : List PartView) (error : ErrorView) →
    ReturnsOnce encoding → Reads text options encoding parts → ¬ Rejects text options encoding error

-- A text has at most one outcome where the encoding has at most one result for each text, not
-- counting, in either, that memory ran out.
abbrev pub OutcomesAreOneGivenMemory : Encoding → Type 0
OutcomesAreOneGivenMemory encoding =
    (text : List ℕ) (options : OptionsView) (outcome other : Outcome)
    → ReturnsOnceGivenMemory encoding
    →
    outcome ≢ Err ErrorView.OutOfMemory → other ≢ Err ErrorView.OutOfMemory →
    HasOutcome text options encoding outcome
    → HasOutcome text options encoding other
    → outcome ≡ other

-- Every text has an outcome, parts or an error, or else, while it is parsed, the encoding is called
-- with a text for which it has no result.
abbrev pub OutcomesLackOnlyResults : Encoding → Type 0
OutcomesLackOnlyResults encoding = (text : List ℕ) (options : OptionsView) →
    HasSomeOutcome text options encoding ⊎ LacksResult text options encoding

-- Every text has an outcome, parts or an error, where the encoding has a result for each text that
-- it is called with while the text is parsed.
abbrev pub TextsWithResultsHaveOutcomes : Encoding → Type 0
TextsWithResultsHaveOutcomes encoding = (text : List ℕ) (options : OptionsView) →
    HasRequestedResults text options encoding → HasSomeOutcome text options encoding

-- `Says` holds of the options and parts, wherever a text reads as the parts under the options.
abbrev pub OfEachReading : (Says : OptionsView → List PartView → Type 0) → Encoding → Type 0
OfEachReading Says encoding =
    (text : List ℕ) (options : OptionsView) (parts : List PartView)
    → Reads text options encoding parts
    → Says options parts

-- ---- printed patterns

-- Parts that a text reads as under standard options are printable, if no fixed text is empty, and
-- no fixed text, prefix or suffix has a character that is skipped between tokens.
abbrev pub ReadPartsArePrintable : Encoding → Type 0
ReadPartsArePrintable encoding = (text : List ℕ) (options : OptionsView) (parts : List PartView) →
    WereRead text options encoding parts → IsPrintable options parts

-- A property of a printed pattern, `text`, of options and an encoding, and of the parts that the
-- pattern was printed from.
abbrev pub PrintedProperty : Type 1
PrintedProperty = (text : List ℕ) → OptionsView → Encoding → List PartView → Type 0

-- `Says` holds of the printed pattern of each list of printable parts, under each list of encoding
-- results that keeps the texts of the parts.
abbrev pub OfPrintableParts : PrintedProperty → Type 0
OfPrintableParts Says =
    (options : OptionsView) (answers : EncodingResults) (parts : List PartView) →
    IsPrintable options parts
    → Keeps (listed answers) parts
    → Says (printed options parts) options (listed answers) parts

-- `Says` holds of the printed pattern of parts that a text was read as under one list of encoding
-- results (`WereRead`), under each list that keeps the texts of the parts.
abbrev pub OfPartsThatWereRead : PrintedProperty → Type 0
OfPartsThatWereRead Says =
    (text : List ℕ) (options : OptionsView) (first answers : EncodingResults)
    (parts : List PartView)
    →
    WereRead text options (listed first) parts
    → Keeps (listed answers) parts
    → Says (printed options parts) options (listed answers) parts

-- The printed pattern of printable parts may be read as the joined parts, where the encoding may
-- return each of their texts unchanged.
abbrev pub PrintedMayReadAsJoined : Encoding → Type 0
PrintedMayReadAsJoined encoding = (options : OptionsView) (parts : List PartView) →
    IsPrintable options parts
    → MayKeep encoding parts
    → ReadsAsJoined (printed options parts) options encoding parts

-- The printed pattern of printable parts reads as nothing but the joined parts, where the encoding
-- changes none of their texts.
abbrev pub PrintedReadsOnlyAsJoined : Encoding → Type 0
PrintedReadsOnlyAsJoined encoding = (options : OptionsView) (parts : List PartView) →
    IsPrintable options parts
    → KeepsOrFails encoding parts
    → ReadsOnlyAsJoined (printed options parts) options encoding parts

-- The printed pattern of printable parts is rejected only by an error that the encoding may return
-- for one of the texts of the joined parts.
abbrev pub PrintedFailsByTheEncoding : Encoding → Type 0
PrintedFailsByTheEncoding encoding =
    (options : OptionsView) (parts : List PartView) (error : ErrorView) →
    IsPrintable options parts
    → Rejects (printed options parts) options encoding error
    → FailsText encoding (encoded_texts (joined parts)) error
