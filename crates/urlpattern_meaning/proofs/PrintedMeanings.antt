-- A text as it is printed: its tokens, its pieces, and its single fixed item.
use Rattle.std.proofs.Common.{◌≡◌, ◌≢◌, ℕ, Bool, true, false, List, [], ◌∷◌, ◌++◌, refl, sym, ap, ◌∙◌, subst, append_assoc}
use Rattle.std.specs.Prelude.{IsTrue, codes, if◌then◌else◌}
use Rattle.std.proofs.lemmas.Bool.{and_from, and_parts, both_ways}
use Rattle.urlpattern_syntax.proofs.TokenExamples.{no}
use Rattle.urlpattern_syntax.specs.declared.parser.PartModifier.TheVariants as modifiers
use Rattle.urlpattern_syntax.specs.declared.tokenizer.TokenType.{TokenType}
use Rattle.urlpattern_syntax.specs.declared.tokenizer.TokenType.TheVariants.{Char, EscapedChar}
use Rattle.urlpattern_syntax.specs.Pieces.{ArePieces, AreTexts, BeginsWithKind, Ending, Piece, TakesPrefix, is_modifier, is_placeholder, is_regexp, is_text, Piece as pieces}
use Rattle.urlpattern_syntax.specs.Reading.{Capture, Fixed, Item, items_from, joined_items, with_text}
use Rattle.urlpattern_syntax.specs.RegexpText.{escaped}
use Rattle.urlpattern_syntax.specs.Text.{is_among}
use Rattle.urlpattern_syntax.specs.Tokens.{IsLexed, TokenView, is_ignored}
use Rattle.urlpattern_meaning.specs.Printing.{escaped_pattern, last_of, pattern_marks}
use Rattle.urlpattern_meaning.specs.RoundTrip.{IsUnskipped}
use Rattle.urlpattern_meaning.proofs.PrintedTokens.{Run, backslash_lexed, char_lexed, done, next, not_true, token_at}

-- ---- tokens

-- A single character, with its backslash where it is a mark.
abbrev pub escaped_one : Bool → ℕ → List ℕ
escaped_one mark c = if mark then codes "\\" ++ c ∷ [] else c ∷ []

abbrev pub kind_by : Bool → TokenType
kind_by mark = if mark then EscapedChar else Char

abbrev pub text_kind : ℕ → TokenType
text_kind c = kind_by (is_among pattern_marks c)

-- The tokens of a text before the rest.
abbrev pub text_tokens : (total : ℕ) → (text rest : List ℕ) → List TokenView
text_tokens total [] rest = []
text_tokens total (c ∷ text) rest = token_at total (escaped_pattern (c ∷ text) ++ rest) (text_kind c) (c ∷ []) ∷ text_tokens total text rest

pub escaped_none : (rest : List ℕ) → escaped_pattern [] ++ rest ≡ rest
unfolding escaped
escaped_none rest = refl

-- An escaped text by its first character.
pub escaped_first : (c : ℕ) (text rest : List ℕ) → escaped_pattern (c ∷ text) ++ rest ≡ escaped_one (is_among pattern_marks c) c ++ (escaped_pattern text ++ rest)
unfolding escaped
escaped_first c text rest = append_assoc (escaped_one (is_among pattern_marks c) c) (escaped_pattern text) rest

one_lexed : (c : ℕ) (rest : List ℕ) (mark : Bool) → is_among pattern_marks c ≡ mark → ¬ IsTrue (is_ignored c) → IsLexed (escaped_one mark c ++ rest) (kind_by mark) (c ∷ []) rest
one_lexed c rest true e kept = backslash_lexed c rest
one_lexed c rest false e kept = char_lexed c rest (both_ways (is_among pattern_marks c) e) kept

pub text_run : (total : ℕ) (text rest : List ℕ) → IsUnskipped text → Run total rest (escaped_pattern text ++ rest) (text_tokens total text rest)
text_run total [] rest h = subst (λ t. Run total rest t []) (sym (escaped_none rest)) done
text_run total (c ∷ text) rest h =
    let parts = and_parts _ _ h in
    next (subst (λ t. IsLexed t (text_kind c) (c ∷ []) (escaped_pattern text ++ rest)) (sym (escaped_first c text rest))
    (one_lexed c (escaped_pattern text ++ rest) (is_among pattern_marks c) refl (not_true (is_ignored c) parts.0)))
    (text_run total text rest parts.1)

-- Each token of a text has a text's kind.
text_kind_text : (mark : Bool) → IsTrue (is_text (kind_by mark))
text_kind_text true = refl
text_kind_text false = refl

pub text_are : (total : ℕ) (text rest : List ℕ) → AreTexts (text_tokens total text rest) text
text_are total [] rest = (refl, refl)
text_are total (c ∷ text) rest =
    let more = text_are total text rest in
    (and_from _ _ (text_kind_text (is_among pattern_marks c)) more.0, ap (λ t. c ∷ t) more.1)

-- ---- pieces

abbrev pub text_pieces : List ℕ → List Piece
text_pieces [] = []
text_pieces (c ∷ text) = pieces.Text (c ∷ []) ∷ text_pieces text

-- No placeholder begins with a text.
pub text_no_placeholder : (kind : TokenType) → IsTrue (is_text kind) → ¬ IsTrue (is_placeholder kind)
text_no_placeholder Char h = no
text_no_placeholder EscapedChar h = no
text_no_placeholder other h = absurd (no h)

-- A text begins with neither a Regexp nor a modifier.
pub text_no_regexp : (kind : TokenType) → IsTrue (is_text kind) → ¬ IsTrue (is_regexp kind)
text_no_regexp Char h = no
text_no_regexp EscapedChar h = no
text_no_regexp other h = absurd (no h)

pub text_no_modifier : (kind : TokenType) → IsTrue (is_text kind) → ¬ IsTrue (is_modifier kind)
text_no_modifier Char h = no
text_no_modifier EscapedChar h = no
text_no_modifier other h = absurd (no h)

-- Tokens that begin with a text do not begin with a token that no text begins with.
pub text_first : (test : TokenType → Bool) (total : ℕ) (text rest : List ℕ) (behind : List TokenView) → ((kind : TokenType) → IsTrue (is_text kind) → ¬ IsTrue (test kind)) → (text ≡ [] → ¬ BeginsWithKind test behind) →
    ¬ BeginsWithKind test (text_tokens total text rest ++ behind)
text_first test total [] rest behind other free = free refl
text_first test total (c ∷ text) rest behind other free = other (text_kind c) (text_kind_text (is_among pattern_marks c))

takes_prefix : (point : List ℕ) (total c : ℕ) (text rest : List ℕ) (behind : List TokenView) (token : TokenView) → token.value ≡ c ∷ [] →
    (last_of (c ∷ text) ≡ point → ¬ BeginsWithKind is_placeholder behind) → TakesPrefix point token (text_tokens total text rest ++ behind)
takes_prefix point total c [] rest behind token e free k v = free (sym e ∙ v)
takes_prefix point total c (d ∷ text) rest behind token e free k v = text_no_placeholder (text_kind d) (text_kind_text (is_among pattern_marks d))

-- A text before other pieces, where the tokens after it do not take its last character.
pub are_text_pieces : (point : List ℕ) (total : ℕ) (text rest : List ℕ) (behind : List TokenView) (more : List Piece) (ending : Ending) →
    ArePieces point behind more ending → (text ≢ [] → last_of text ≡ point → ¬ BeginsWithKind is_placeholder behind) →
    ArePieces point (text_tokens total text rest ++ behind) (text_pieces text ++ more) ending
are_text_pieces point total [] rest behind more ending are free = are
are_text_pieces point total (c ∷ text) rest behind more ending are free =
    let token = token_at total (escaped_pattern (c ∷ text) ++ rest) (text_kind c) (c ∷ []) in (
      token ∷ [],
      text_tokens total text rest ++ behind,
      refl,
      (token, refl, text_kind_text (is_among pattern_marks c), refl, takes_prefix point total c text rest behind token refl (free (λ e. cc e))),
      are_text_pieces point total text rest behind more ending are (last_free text free),
    )
  where
    last_free : (some : List ℕ) → (c ∷ some ≢ [] → last_of (c ∷ some) ≡ point → ¬ BeginsWithKind is_placeholder behind) → some ≢ [] → last_of some ≡ point → ¬ BeginsWithKind is_placeholder behind
    last_free [] h filled e = absurd (filled refl)
    last_free (d ∷ some) h filled e = h (λ f. cc f) e

-- ---- items

-- A character and a text, one after the other before items.
with_one : (c : ℕ) (text : List ℕ) (items : List Item) → with_text (c ∷ []) (with_text text items) ≡ with_text (c ∷ text) items
with_one c [] items = refl
with_one c (d ∷ text) [] = refl
with_one c (d ∷ text) (Fixed more modifiers.None ∷ items) = refl
with_one c (d ∷ text) (Fixed more modifiers.Optional ∷ items) = refl
with_one c (d ∷ text) (Fixed more modifiers.ZeroOrMore ∷ items) = refl
with_one c (d ∷ text) (Fixed more modifiers.OneOrMore ∷ items) = refl
with_one c (d ∷ text) (Capture prefix name match suffix modifier ∷ items) = refl

-- The pieces of a text are a single fixed item, joined with the items after it.
pub text_items : (number : ℕ) (text : List ℕ) (more : List Piece) → joined_items (items_from number (text_pieces text ++ more)) ≡ with_text text (joined_items (items_from number more))
text_items number [] more = refl
text_items number (c ∷ text) more = ap (with_text (c ∷ [])) (text_items number text more) ∙ with_one c text (joined_items (items_from number more))
