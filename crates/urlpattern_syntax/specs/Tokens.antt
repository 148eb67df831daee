-- The tokens of a pattern text, after the URLPattern Standard, section "Tokenizing".
use Rattle.std.specs.Prelude.{◌≡◌, ℕ, ◌<◌, ◌≤◌, ◌⊎◌, Bool, List, [], ◌∷◌, ◌++◌, codes, IsTrue}
use Rattle.std.specs.List.{list_all}
use Rattle.urlpattern_syntax.specs.declared.error.{Error.Error, RegexFault.RegexFault, TokenizerError.TokenizerError}
pub use Rattle.urlpattern_syntax.specs.declared.tokenizer.{Token.Token, TokenType.TokenType}
use Rattle.urlpattern_syntax.specs.declared.tokenizer.TokenizePolicy.{TokenizePolicy}
use Rattle.urlpattern_syntax.specs.declared.tokenizer.TokenType.TheVariants.{Asterisk, Char, Close, End, EscapedChar, InvalidChar, Name, Open, OtherModifier, Regexp}
use Rattle.urlpattern_syntax.specs.Text.{BeginsAt, BeginsWith, byte_len, chars, is_among, is_name_part, is_name_start}

-- The view of a `Token`: its kind, the byte index at which it begins in the pattern text, and its
-- value.
pub record TokenView : Type 0 where
  pub kind : TokenType
  pub index : ℕ
  pub value : List ℕ

-- The view of a `Token`.
abbrev pub token_view : Token → TokenView
token_view token = record { kind = token.kind; index = token.index; value = chars token.value.now }

-- ---- the body of a custom regular expression

-- The body of a custom regular expression: nothing; or an escaped character, a plain character or a
-- body in parentheses, and then a further body.
pub data Body : Type 0 where
  Nothing : Body
  Escaped : ℕ → Body → Body
  Plain : ℕ → Body → Body
  Group : Body → Body → Body

-- The text that a body stands for, with backslashes and inner parentheses.
abbrev pub body_text : Body → List ℕ
body_text Nothing = []
body_text (Escaped c body) = codes "\\" ++ c ∷ body_text body
body_text (Plain c body) = c ∷ body_text body
body_text (Group inner body) = codes "(" ++ body_text inner ++ codes ")" ++ body_text body

-- Whether the character is a question mark.
abbrev pub is_question_mark : ℕ → Bool
is_question_mark c = is_among (codes "?") c

-- All characters of the body are ASCII, no plain one is a backslash or a parenthesis, and `?`
-- follows each inner opening parenthesis.
abbrev pub IsBody : Body → Type 0
IsBody Nothing = Unit {0}
IsBody (Escaped c body) = (c < 128) × IsBody body
IsBody (Plain c body) = (c < 128) × ¬ IsTrue (is_among (codes "\\()") c) × IsBody body
IsBody (Group inner body) =
    BeginsWith is_question_mark (body_text inner) × IsBody inner × IsBody body

-- The text is what a Regexp token has between its parentheses: a body that is not empty and does
-- not begin with `?`.
pub record IsRegexpBody (text : List ℕ) : Type 0 where
  pub body : Body
  pub is_body : IsBody body
  pub spelled : text ≡ body_text body
  pub not_empty : ¬ (text ≡ [])
  pub not_marked : ¬ BeginsWith is_question_mark text

-- ---- spelling

-- The characters that begin a token other than a Char.
abbrev pub marks : List ℕ
marks = codes "{}*+?\\:("

-- Whether the character is skipped between tokens: tab, line feed and carriage return.
abbrev pub is_ignored : ℕ → Bool
is_ignored c = is_among (codes "\t\n\r") c

-- The text may be the name of a group: a first character of names, and then characters that names
-- may have.
abbrev pub IsName : List ℕ → Type 0
IsName [] = ⊥
IsName (c ∷ text) = IsTrue (is_name_start c) × IsTrue (list_all is_name_part text)

-- `text` spells exactly one token, of this kind and with this value.
abbrev pub Spells : TokenType → (value text : List ℕ) → Type 0
Spells Open value text = (value ≡ text) × (text ≡ codes "{")
Spells Close value text = (value ≡ text) × (text ≡ codes "}")
Spells Asterisk value text = (value ≡ text) × (text ≡ codes "*")
Spells OtherModifier value text = (value ≡ text) × ((text ≡ codes "+") ⊎ (text ≡ codes "?"))
Spells EscapedChar value text = (text ≡ codes "\\" ++ value) × ((c : ℕ) × (value ≡ c ∷ []))
Spells Name value text = (text ≡ codes ":" ++ value) × IsName value
Spells Regexp value text = (text ≡ codes "(" ++ value ++ codes ")") × IsRegexpBody value
Spells Char value text =
    (value ≡ text)
    × ((c : ℕ) × (text ≡ c ∷ []) × ¬ IsTrue (is_among marks c) × ¬ IsTrue (is_ignored c))
-- End and InvalidChar have no spelling: End follows the whole text, and InvalidChar is a character
-- at which no token begins.
Spells End value text = ⊥
Spells InvalidChar value text = ⊥

-- A token of this kind may end before `rest`: a name only if `rest` does not continue it.
abbrev pub IsMaximal : TokenType → List ℕ → Type 0
IsMaximal Name rest = ¬ BeginsWith is_name_part rest
IsMaximal kind rest = Unit {0}

-- `text` begins with a token of this kind with this value, and `rest` follows.
pub record IsLexed (text : List ℕ) (kind : TokenType) (value rest : List ℕ) : Type 0 where
  pub spelling : List ℕ
  pub cut : text ≡ spelling ++ rest
  pub spells : Spells kind value spelling
  pub ends : IsMaximal kind rest

-- ---- faults

-- The start of a body: a body (`Here`); or a body, an inner opening parenthesis that is not closed,
-- and the start of a body after it (`Inside`).
pub data BodyStart : Type 0 where
  Here : Body → BodyStart
  Inside : Body → BodyStart → BodyStart

-- The text that the start of a body stands for, with backslashes and parentheses.
abbrev pub body_start_text : BodyStart → List ℕ
body_start_text (Here body) = body_text body
body_start_text (Inside body front) = body_text body ++ codes "(" ++ body_start_text front

-- All bodies in the start are as `IsBody` says, and `?` follows each parenthesis that is not
-- closed.
abbrev pub IsBodyStart : BodyStart → Type 0
IsBodyStart (Here body) = IsBody body
IsBodyStart (Inside body front) =
    IsBody body × IsBodyStart front × BeginsWith is_question_mark (body_start_text front)

-- The text may be the start of a custom regular expression: it is the start of a body, perhaps
-- empty, and does not begin with `?`.
pub record IsRegexpStart (text : List ℕ) : Type 0 where
  pub front : BodyStart
  pub is_front : IsBodyStart front
  pub spelled : text ≡ body_start_text front
  pub not_marked : ¬ BeginsWith is_question_mark text

-- Why an opening parenthesis does not begin a custom regular expression.
pub data RegexpFault : Type 0 where
  StartsWithQuestionMark NotAscii EscapedNotAscii GroupAtEnd CapturingGroup NotClosed NoBody :
      RegexpFault

-- `rest`, the text after an opening parenthesis, has this fault.
abbrev pub LacksRegexp : List ℕ → RegexpFault → Type 0
LacksRegexp rest StartsWithQuestionMark = BeginsWith is_question_mark rest
LacksRegexp rest NotAscii =
    (front more : List ℕ) × (c : ℕ) × IsRegexpStart front × (rest ≡ front ++ c ∷ more) × (128 ≤ c)
LacksRegexp rest EscapedNotAscii =
    (front more : List ℕ) × (c : ℕ)
    × IsRegexpStart front
    × (rest ≡ front ++ codes "\\" ++ c ∷ more)
    × (128 ≤ c)
LacksRegexp rest GroupAtEnd = (front : List ℕ) × IsRegexpStart front × (rest ≡ front ++ codes "(")
LacksRegexp rest CapturingGroup =
    (front more : List ℕ) × (c : ℕ) × IsRegexpStart front × (rest ≡ front ++ codes "(" ++ c ∷ more)
    × ¬ IsTrue (is_question_mark c)
LacksRegexp rest NotClosed = IsRegexpStart rest
LacksRegexp rest NoBody = (more : List ℕ) × (rest ≡ codes ")" ++ more)

-- The words in which a fault is reported.
abbrev pub reason : RegexpFault → List ℕ
reason StartsWithQuestionMark = codes "must not start with ?, and may only contain ascii"
reason NotAscii = codes "must not start with ?, and may only contain ascii"
reason EscapedNotAscii = codes "non ascii character was escaped"
reason GroupAtEnd = codes "nested groups not closed"
reason CapturingGroup = codes "nested groups must start with ?"
reason NotClosed = codes "missing closing )"
reason NoBody = codes "length must be > 0"

-- The view of a `TokenizerError`, with the reason of `InvalidRegex` in words.
pub data FaultView : Type 0 where
  IncompleteEscapeCode InvalidName : FaultView
  InvalidRegex : List ℕ → FaultView

-- The words in which a `RegexFault` is reported.
abbrev pub regex_fault_text : RegexFault → List ℕ
regex_fault_text RegexFault.BadCharacter = reason NotAscii
regex_fault_text RegexFault.BadEscape = reason EscapedNotAscii
regex_fault_text RegexFault.NestedGroupNotClosed = reason GroupAtEnd
regex_fault_text RegexFault.NestedGroupCaptures = reason CapturingGroup
regex_fault_text RegexFault.MissingClose = reason NotClosed
regex_fault_text RegexFault.Empty = reason NoBody

-- The view of a `TokenizerError`.
abbrev pub fault_view : TokenizerError → FaultView
fault_view TokenizerError.IncompleteEscapeCode = IncompleteEscapeCode
fault_view TokenizerError.InvalidName = InvalidName
fault_view (TokenizerError.InvalidRegex fault) = InvalidRegex (regex_fault_text fault)

-- No token begins at the start of the text, and this fault is the reason.
abbrev pub IsFaultAt : List ℕ → FaultView → Type 0
IsFaultAt text IncompleteEscapeCode =
    (text ≡ codes "\\")
    ⊎ ((front : List ℕ) × IsRegexpStart front × (text ≡ codes "(" ++ front ++ codes "\\"))
IsFaultAt text InvalidName =
    (rest : List ℕ) × (text ≡ codes ":" ++ rest) × ¬ BeginsWith is_name_start rest
IsFaultAt text (InvalidRegex reported) =
    (rest : List ℕ) × (fault : RegexpFault)
    × (text ≡ codes "(" ++ rest)
    × LacksRegexp rest fault
    × (reported ≡ reason fault)

-- ---- whole texts

-- `text` is any number of characters that pass the test, and then `rest`.
abbrev pub SkipsBy : (ℕ → Bool) → (text rest : List ℕ) → Type 0
SkipsBy test text rest =
    (skipped : List ℕ) × (text ≡ skipped ++ rest) × IsTrue (list_all test skipped)

-- `text` is any number of tabs, line feeds and carriage returns, and then `rest`.
abbrev pub Skips : (text rest : List ℕ) → Type 0
Skips text rest = SkipsBy is_ignored text rest

-- The text is these tokens, with skipped characters before each, and then `left`, also after
-- skipped characters. `Item` relates the text at which a token begins, the token, and what follows
-- it.
abbrev pub IsCut : (List ℕ → TokenView → List ℕ → Type 0) → List ℕ → List TokenView → List ℕ
    → Type 0
IsCut Item text [] left = Skips text left
IsCut Item text (token ∷ tokens) left =
    (start rest : List ℕ) × Skips text start × Item start token rest × IsCut Item rest tokens left

-- `text`, a suffix of `whole`, begins with the token, whose index is its place in `whole`, and
-- `rest` follows.
pub record IsTokenOf (whole text : List ℕ) (token : TokenView) (rest : List ℕ) : Type 0 where
  pub lexed : IsLexed text token.kind token.value rest
  pub place : BeginsAt whole text token.index

-- The text is cut into these tokens under the strict policy, without End, and then `left`.
abbrev pub IsStrictCut : (text : List ℕ) → List TokenView → (left : List ℕ) → Type 0
IsStrictCut text tokens left = IsCut (IsTokenOf text) text tokens left

-- The End token of a text, at the index of its end.
abbrev pub end_of : List ℕ → TokenView
end_of text = record { kind = End; index = byte_len text; value = [] }

-- The whole text is cut into these tokens under the strict policy, and End is the last.
pub record AreTokens (text : List ℕ) (tokens : List TokenView) : Type 0 where
  pub front : List TokenView
  pub cut : IsStrictCut text front []
  pub all : tokens ≡ front ++ end_of text ∷ []

-- The text before `index` is cut into tokens under the strict policy, and at `index` no token
-- begins, for the reason `reported`.
pub record IsFault (text : List ℕ) (reported : FaultView) (index : ℕ) : Type 0 where
  pub front : List TokenView
  pub left : List ℕ
  pub cut : IsStrictCut text front left
  pub place : BeginsAt text left index
  pub fault : IsFaultAt left reported

-- `text`, a suffix of `whole`, begins with a character at which no token begins. `token` is the
-- InvalidChar of the character, and `rest` follows.
pub record IsInvalidCharOf (whole text : List ℕ) (token : TokenView) (rest : List ℕ) : Type 0 where
  pub character : ℕ
  pub cut : text ≡ character ∷ rest
  pub fault : FaultView
  pub is_fault : IsFaultAt text fault
  pub is_token : token ≡ record { kind = InvalidChar; index = token.index; value = character ∷ [] }
  pub place : BeginsAt whole text token.index

-- The whole text is cut into these tokens under the lenient policy, and End is the last: where no
-- token begins, a single character is an InvalidChar token.
pub record AreLenientTokens (text : List ℕ) (tokens : List TokenView) : Type 0 where
  pub front : List TokenView
  pub cut : IsCut
      (λ start token rest. IsTokenOf text start token rest ⊎ IsInvalidCharOf text start token rest)
      text front []
  pub all : tokens ≡ front ++ end_of text ∷ []

-- The whole text is cut into these tokens under the policy, and End is the last.
abbrev pub AreTokensUnder : TokenizePolicy → (text : List ℕ) → List TokenView → Type 0
AreTokensUnder TokenizePolicy.Strict text tokens = AreTokens text tokens
AreTokensUnder TokenizePolicy.Lenient text tokens = AreLenientTokens text tokens

-- ---- the results of calls

-- `text` begins with a character at which no token begins: `kind` is InvalidChar, `value` is the
-- character, and `rest` follows.
pub record IsInvalidChar (text : List ℕ) (kind : TokenType) (value rest : List ℕ) : Type 0 where
  pub character : ℕ
  pub cut : text ≡ character ∷ rest
  pub fault : FaultView
  pub is_fault : IsFaultAt text fault
  pub is_kind : kind ≡ InvalidChar
  pub is_value : value ≡ character ∷ []

-- The text, which follows a backslash in a body, does not begin with an ASCII character, and this
-- is the fault.
abbrev pub LacksEscaped : List ℕ → FaultView → Type 0
LacksEscaped text IncompleteEscapeCode = text ≡ []
LacksEscaped text InvalidName = ⊥
LacksEscaped text (InvalidRegex reported) =
    (c : ℕ) × (more : List ℕ) × (text ≡ c ∷ more) × (128 ≤ c) × (reported ≡ reason EscapedNotAscii)

-- The text, which follows an inner opening parenthesis, does not begin with a question mark, and
-- this is the fault.
abbrev pub LacksQuestionMark : List ℕ → FaultView → Type 0
LacksQuestionMark text IncompleteEscapeCode = ⊥
LacksQuestionMark text InvalidName = ⊥
LacksQuestionMark text (InvalidRegex reported) =
    ((text ≡ []) × (reported ≡ reason GroupAtEnd))
    ⊎ ((c : ℕ) × (more : List ℕ)
    × (text ≡ c ∷ more)
    × ¬ IsTrue (is_question_mark c)
    × (reported ≡ reason CapturingGroup))

-- The error is the first fault of the text, or `OutOfMemory`.
abbrev pub ReportsFault : List ℕ → Error → Type 0
ReportsFault text (Error.Tokenizer fault place) = IsFault text (fault_view fault) place
ReportsFault text Error.OutOfMemory = Unit {0}
ReportsFault text other = ⊥

-- The error may be returned for the text under the policy: under the strict one its first fault or
-- `OutOfMemory`, under the lenient one only `OutOfMemory`.
abbrev pub ReportsFaultUnder : TokenizePolicy → List ℕ → Error → Type 0
ReportsFaultUnder TokenizePolicy.Strict text error = ReportsFault text error
ReportsFaultUnder TokenizePolicy.Lenient text error = error ≡ Error.OutOfMemory
