-- The pieces of a token list, after the URLPattern Standard, section "Parsing pattern strings":
-- texts, placeholders and groups, each of maximal length.
use Rattle.std.specs.Prelude.{◌≡◌, ◌≢◌, ℕ, ◌⊎◌, Bool, true, false, List, [], ◌∷◌, ◌++◌, map, codes, Option, Some, None, IsTrue}
use Rattle.std.specs.List.{flat_map, list_all}
use Rattle.urlpattern_syntax.specs.declared.parser.PartModifier.{PartModifier}
use Rattle.urlpattern_syntax.specs.declared.tokenizer.TokenType.TheVariants.{Asterisk, Char, Close, End, EscapedChar, InvalidChar, Name, Open, OtherModifier, Regexp}
use Rattle.urlpattern_syntax.specs.Tokens.{TokenType, TokenView}

-- What a placeholder matches: a segment, what a full wildcard matches, or what a custom regular
-- expression matches.
pub data PlaceholderKindView : Type 0 where
  Segment Anything : PlaceholderKindView
  Custom : List ℕ → PlaceholderKindView

-- A placeholder: a name, a custom regular expression, both, or an asterisk.
pub record Placeholder : Type 0 where
  pub name : Option (List ℕ)
  pub matched : PlaceholderKindView

-- A piece of a pattern text.
pub data Piece : Type 0 where
  -- A single literal character.
  Text : List ℕ → Piece
  -- A placeholder without braces. The prefix is empty, or the prefix code point before it.
  Bare : (prefix : List ℕ) → Placeholder → PartModifier → Piece
  -- Literal characters in braces, perhaps none.
  TextGroup : List ℕ → PartModifier → Piece
  -- A placeholder in braces, with the literal characters before and after it.
  Group : (before : List ℕ) → Placeholder → (after : List ℕ) → PartModifier → Piece

-- ---- tokens by kind

-- The kinds of the tokens.
abbrev pub kinds : List TokenView → List TokenType
kinds tokens = map (λ token. token.kind) tokens

-- The values of the tokens.
abbrev pub values : List TokenView → List (List ℕ)
values tokens = map (λ token. token.value) tokens

-- Whether a token of this kind is a literal character.
abbrev pub is_text : TokenType → Bool
is_text Char = true
is_text EscapedChar = true
is_text kind = false

-- Whether a token of this kind begins a placeholder.
abbrev pub is_placeholder : TokenType → Bool
is_placeholder Name = true
is_placeholder Regexp = true
is_placeholder Asterisk = true
is_placeholder kind = false

-- The list of tokens is not empty, and the kind of its first token passes the test.
abbrev pub BeginsWithKind : (TokenType → Bool) → List TokenView → Type 0
BeginsWithKind test [] = ⊥
BeginsWithKind test (token ∷ tokens) = IsTrue (test token.kind)

-- ---- the meaning of tokens

-- The tokens are literal characters, and `text` is their values, joined. Both may be empty.
abbrev pub AreTexts : List TokenView → List ℕ → Type 0
AreTexts tokens text =
    IsTrue (list_all (λ token. is_text token.kind) tokens)
    × (text ≡ flat_map (λ token. token.value) tokens)

-- The tokens are a placeholder with this name, or without a name, and of this kind.
abbrev pub IsPlaceholderOf : List TokenView → Option (List ℕ) → PlaceholderKindView → Type 0
IsPlaceholderOf tokens (Some name) Segment =
    (kinds tokens ≡ Name ∷ []) × (values tokens ≡ name ∷ [])
IsPlaceholderOf tokens (Some name) (Custom body) =
    (kinds tokens ≡ Name ∷ Regexp ∷ []) × (values tokens ≡ name ∷ body ∷ [])
IsPlaceholderOf tokens None (Custom body) =
    (kinds tokens ≡ Regexp ∷ []) × (values tokens ≡ body ∷ [])
IsPlaceholderOf tokens None Anything = kinds tokens ≡ Asterisk ∷ []
-- An asterisk has no name, and a segment has one.
IsPlaceholderOf tokens (Some name) Anything = ⊥
IsPlaceholderOf tokens None Segment = ⊥

-- The tokens are those of the modifier: none for `None`, otherwise a single one.
abbrev pub IsModifier : List TokenView → PartModifier → Type 0
IsModifier tokens PartModifier.None = tokens ≡ []
IsModifier tokens PartModifier.Optional =
    (kinds tokens ≡ OtherModifier ∷ []) × (values tokens ≡ codes "?" ∷ [])
IsModifier tokens PartModifier.OneOrMore =
    (kinds tokens ≡ OtherModifier ∷ []) × (values tokens ≡ codes "+" ∷ [])
IsModifier tokens PartModifier.ZeroOrMore = kinds tokens ≡ Asterisk ∷ []

-- The tokens before a placeholder are its prefix: no tokens for the empty prefix, or a Char token
-- of the prefix code point `point`.
abbrev pub IsPrefixOf : (point : List ℕ) → List TokenView → List ℕ → Type 0
IsPrefixOf point tokens prefix =
    ((tokens ≡ []) × (prefix ≡ []))
    ⊎ ((kinds tokens ≡ Char ∷ []) × (values tokens ≡ prefix ∷ []) × (prefix ≡ point))

-- ---- maximal length

-- Whether a token of this kind may be a modifier.
abbrev pub is_modifier : TokenType → Bool
is_modifier OtherModifier = true
is_modifier Asterisk = true
is_modifier kind = false

-- A piece with this modifier may end before `rest`: a piece without a modifier only if `rest` does
-- not begin with a modifier token.
abbrev pub TakesModifier : PartModifier → List TokenView → Type 0
TakesModifier PartModifier.None rest = ¬ BeginsWithKind is_modifier rest
TakesModifier modifier rest = Unit {0}

-- Whether a token of this kind is a custom regular expression.
abbrev pub is_regexp : TokenType → Bool
is_regexp Regexp = true
is_regexp kind = false

-- A placeholder of this kind may end before `rest`: a name alone only if `rest` does not begin with
-- a Regexp token.
abbrev pub TakesRegexp : PlaceholderKindView → List TokenView → Type 0
TakesRegexp Segment rest = ¬ BeginsWithKind is_regexp rest
TakesRegexp matched rest = Unit {0}

-- The token may be a piece of its own before `rest`: it is not the prefix code point `point` as a
-- Char token directly before a placeholder.
abbrev pub TakesPrefix : (point : List ℕ) → TokenView → List TokenView → Type 0
TakesPrefix point token rest =
    token.kind ≡ Char → token.value ≡ point → ¬ BeginsWithKind is_placeholder rest

-- ---- pieces

-- `tokens`, before `rest`, are a prefix, a placeholder and a modifier, without braces. `point` is
-- the prefix code point.
pub record IsBare (point : List ℕ) (tokens : List TokenView) (prefix : List ℕ)
    (placeholder : Placeholder) (modifier : PartModifier) (rest : List TokenView) : Type 0 where
  pub front : List TokenView
  pub middle : List TokenView
  pub back : List TokenView
  pub cut : tokens ≡ front ++ middle ++ back
  pub is_prefix : IsPrefixOf point front prefix
  pub is_placeholder : IsPlaceholderOf middle placeholder.name placeholder.matched
  pub is_modifier : IsModifier back modifier
  pub takes_regexp : TakesRegexp placeholder.matched (back ++ rest)
  pub takes_modifier : TakesModifier modifier rest

-- `tokens`, before `rest`, are `inner` in braces and a modifier.
pub record IsBraced (tokens inner : List TokenView) (modifier : PartModifier)
    (rest : List TokenView) : Type 0 where
  pub opening : TokenView
  pub closing : TokenView
  pub back : List TokenView
  pub cut : tokens ≡ opening ∷ inner ++ closing ∷ back
  pub is_open : opening.kind ≡ Open
  pub is_close : closing.kind ≡ Close
  pub is_modifier : IsModifier back modifier
  pub takes_modifier : TakesModifier modifier rest

-- `inner`, before `rest`, is literal characters with the text `before`, a placeholder, and literal
-- characters with the text `after`.
pub record IsFilled (inner : List TokenView) (before : List ℕ) (placeholder : Placeholder)
    (after : List ℕ) (rest : List TokenView) : Type 0 where
  pub front : List TokenView
  pub middle : List TokenView
  pub back : List TokenView
  pub cut : inner ≡ front ++ middle ++ back
  pub are_texts_before : AreTexts front before
  pub is_placeholder : IsPlaceholderOf middle placeholder.name placeholder.matched
  pub takes_regexp : TakesRegexp placeholder.matched (back ++ rest)
  pub are_texts_after : AreTexts back after

-- The tokens, before `rest`, are this piece. `point` is the prefix code point.
abbrev pub IsPiece : (point : List ℕ) → List TokenView → Piece → (rest : List TokenView) → Type 0
IsPiece point tokens (Text text) rest =
    (token : TokenView) × (tokens ≡ token ∷ []) × IsTrue (is_text token.kind) × (text ≡ token.value)
    × TakesPrefix point token rest
IsPiece point tokens (Bare prefix placeholder modifier) rest =
    IsBare point tokens prefix placeholder modifier rest
IsPiece point tokens (TextGroup text modifier) rest =
    (inner : List TokenView) × IsBraced tokens inner modifier rest × AreTexts inner text
IsPiece point tokens (Group before placeholder after modifier) rest =
    (inner : List TokenView) × (braces : IsBraced tokens inner modifier rest)
    × IsFilled inner before placeholder after (braces.closing ∷ [])

-- ---- the end of the pieces

-- Where the pieces end: at a token that begins no piece, or at a group that has this token in place
-- of its Close.
pub data Ending : Type 0 where
  Stops : TokenView → Ending
  LacksClose : TokenView → Ending

-- Whether a token of this kind begins no piece.
abbrev pub is_stop : TokenType → Bool
is_stop End = true
is_stop Close = true
is_stop OtherModifier = true
is_stop InvalidChar = true
is_stop kind = false

-- `inner` is all of the content of a group: literal characters, with or without a placeholder,
-- which `rest` does not continue.
abbrev pub IsOpenGroup : List TokenView → List TokenView → Type 0
IsOpenGroup inner rest =
    ¬ BeginsWithKind is_text rest
    × (((text : List ℕ) × AreTexts inner text × ¬ BeginsWithKind is_placeholder rest)
    ⊎
    ((before after : List ℕ) × (placeholder : Placeholder)
    × IsFilled inner before placeholder after rest))

-- The tokens, which follow the last piece, begin with the token of `Stops`, or with a group that
-- has the token of `LacksClose` in place of its Close.
abbrev pub IsEnding : List TokenView → Ending → Type 0
IsEnding tokens (Stops found) =
    (more : List TokenView) × (tokens ≡ found ∷ more) × IsTrue (is_stop found.kind)
IsEnding tokens (LacksClose found) =
    (opening : TokenView) × (inner more : List TokenView)
    × (tokens ≡ opening ∷ inner ++ found ∷ more)
    × (opening.kind ≡ Open)
    × IsOpenGroup inner (found ∷ more) × (found.kind ≢ Close)

-- The tokens are these pieces, and then end in this way. `point` is the prefix code point.
abbrev pub ArePieces : (point : List ℕ) → List TokenView → List Piece → Ending → Type 0
ArePieces point tokens [] ending = IsEnding tokens ending
ArePieces point tokens (piece ∷ pieces) ending =
    (front rest : List TokenView) × (tokens ≡ front ++ rest) × IsPiece point front piece rest
    × ArePieces point rest pieces ending
