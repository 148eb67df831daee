-- Lemmas on pieces, by the first tokens of a list.
use Rattle.std.proofs.Common.{◌≡◌, ◌≢◌, ℕ, ◌⊎◌, Bool, true, false, List, [], ◌∷◌, ◌++◌, Some, None, refl, sym, ap, ◌∙◌, subst, inl, inr, append_assoc}
use Rattle.std.specs.Prelude.{codes, IsTrue}
use Rattle.std.specs.List.{list_all}
use Rattle.std.proofs.lemmas.List.{append-nil}
use Rattle.std.proofs.lemmas.List.Folds.{list_all-append}
use Rattle.std.proofs.lemmas.Bool.{false≢true, and_from, and_parts}
use Rattle.urlpattern_syntax.specs.declared.parser.PartModifier.{PartModifier}
use Rattle.urlpattern_syntax.specs.declared.parser.PartModifier.TheVariants as modifiers
use Rattle.urlpattern_syntax.specs.declared.tokenizer.TokenType.{TokenType}
use Rattle.urlpattern_syntax.specs.declared.tokenizer.TokenType.TheVariants.{Asterisk, Char, Close, End, EscapedChar, InvalidChar, Name, Open, OtherModifier, Regexp}
use Rattle.urlpattern_syntax.specs.Cursors.{AreTokensAfter}
use Rattle.urlpattern_syntax.proofs.TokenWords.{joined_values, BeginsWithToken}
use Rattle.urlpattern_syntax.specs.Parsing.{BeginsWithClose, BeginsWithPiece, BeginsWithTexts, HasEndingAt, BeginsWithPlaceholder, BeginsWithModifier, IsTokenList, IsModifierSpelled}
use Rattle.urlpattern_syntax.specs.Pieces.{AreTexts, IsBraced, IsFilled, IsOpenGroup, IsPrefixOf, TakesPrefix, is_text, BeginsWithKind, IsModifier, TakesModifier, TakesRegexp, PlaceholderKindView, Placeholder, is_modifier, is_placeholder, is_regexp, Ending as endings, PlaceholderKindView as matched, Piece as pieces}
use Rattle.urlpattern_syntax.specs.Tokens.{AreTokens, IsCut, IsTokenOf, Spells, TokenView, end_of}

-- ---- token lists

pub spelled_kind : (kind known : TokenType) (value spelling : List ℕ) → kind ≡ known → Spells kind value spelling → Spells known value spelling
spelled_kind kind known value spelling e h = subst (λ k. Spells k value spelling) e h

pub spelled_modifier : (token : TokenView) (spelling : List ℕ) → Spells token.kind token.value spelling → IsModifierSpelled token
spelled_modifier token spelling h e = by_spelling (spelled_kind token.kind OtherModifier token.value spelling e h)
  where
    by_spelling : Spells OtherModifier token.value spelling → (token.value ≡ codes "+") ⊎ (token.value ≡ codes "?")
    by_spelling (same, inl plus) = inl (same ∙ plus)
    by_spelling (same, inr mark) = inr (same ∙ mark)

-- The tokens of a cut, with End after them, are a token list.
cut_token_list : (whole text left : List ℕ) (tokens : List TokenView) (last : TokenView) → last.kind ≡ End → IsCut (IsTokenOf whole) text tokens left → IsTokenList (tokens ++ last ∷ [])
cut_token_list whole text left [] last e h = e
cut_token_list whole text left (token ∷ []) last e h =
    let lexed = h.3.lexed in
    (λ k. spelled_kind token.kind End token.value lexed.spelling k lexed.spells, spelled_modifier token lexed.spelling lexed.spells, e)
cut_token_list whole text left (token ∷ next ∷ tokens) last e h =
    let lexed = h.3.lexed in (
      λ k. spelled_kind token.kind End token.value lexed.spelling k lexed.spells,
      spelled_modifier token lexed.spelling lexed.spells,
      cut_token_list whole h.1 left (next ∷ tokens) last e h.4,
    )

-- The tokens of a text are a token list.
pub are_token_list : (text : List ℕ) (tokens : List TokenView) → AreTokens text tokens → IsTokenList tokens
are_token_list text tokens h = subst IsTokenList (sym h.all) (cut_token_list text text [] h.front (end_of text) refl h.cut)

-- The tokens after a place are a token list.
pub are_token_list_after : (whole rest : List ℕ) (tokens : List TokenView) → AreTokensAfter whole rest tokens → IsTokenList tokens
are_token_list_after whole rest tokens h = subst IsTokenList (sym h.all) (cut_token_list whole rest [] h.front (end_of whole) refl h.cut)

-- A token before a token list makes a token list.
pub IsTokenList-more : (token : TokenView) (tokens : List TokenView) → token.kind ≢ End → IsModifierSpelled token → IsTokenList tokens → IsTokenList (token ∷ tokens)
IsTokenList-more token [] other mark h = absurd h
IsTokenList-more token (next ∷ tokens) other mark h = (other, mark, h)

pub IsTokenList-rest : (token : TokenView) (rest : List TokenView) → IsTokenList (token ∷ rest) → token.kind ≢ End → IsTokenList rest
IsTokenList-rest token [] h other = absurd (other h)
IsTokenList-rest token (next ∷ rest) h other = h.2

pub IsTokenList-mark : (token : TokenView) (rest : List TokenView) → IsTokenList (token ∷ rest) → token.kind ≡ OtherModifier → (token.value ≡ codes "+") ⊎ (token.value ≡ codes "?")
IsTokenList-mark token [] h e = absurd (cc (h, e))
IsTokenList-mark token (next ∷ rest) h e = h.1 e

-- The tokens after a token other than End are a token list.
pub IsTokenList-behind : (kind : TokenType) (tokens rest : List TokenView) (token : TokenView) → kind ≢ End → tokens ≡ token ∷ rest → token.kind ≡ kind → IsTokenList tokens → IsTokenList rest
IsTokenList-behind kind tokens rest token other e k h =
    IsTokenList-rest token rest (subst IsTokenList e h) (λ f. other (sym k ∙ f))

-- ---- kinds

regexp_only : (kind : TokenType) → is_regexp kind ≡ true → kind ≡ Regexp
regexp_only Regexp e = refl
regexp_only Open e = absurd (false≢true e)
regexp_only Close e = absurd (false≢true e)
regexp_only Name e = absurd (false≢true e)
regexp_only Char e = absurd (false≢true e)
regexp_only EscapedChar e = absurd (false≢true e)
regexp_only OtherModifier e = absurd (false≢true e)
regexp_only Asterisk e = absurd (false≢true e)
regexp_only End e = absurd (false≢true e)
regexp_only InvalidChar e = absurd (false≢true e)

-- A list without a Regexp token at its head.
pub no_regexp : (tokens : List TokenView) → ¬ BeginsWithToken Regexp tokens → ¬ BeginsWithKind is_regexp tokens
no_regexp [] h g = g
no_regexp (token ∷ tokens) h g = h (regexp_only token.kind g)

-- ---- what tokens begin with

pub named : (tokens rest : List TokenView) (name : TokenView) → tokens ≡ name ∷ rest → name.kind ≡ Name → ¬ BeginsWithToken Regexp rest → BeginsWithPlaceholder tokens (record { name = Some name.value; matched = matched.Segment }) rest
named tokens rest name e k none = record {
  front = name ∷ [];
  cut = e;
  is_placeholder = (ap (λ kind. kind ∷ []) k, refl);
  takes_regexp = no_regexp rest none;
  closed = IsTokenList-behind Name tokens rest name (λ f. cc f) e k;
}

pub named_regexp : (tokens behind rest : List TokenView) (name regexp : TokenView) → tokens ≡ name ∷ behind → name.kind ≡ Name → behind ≡ regexp ∷ rest → regexp.kind ≡ Regexp → BeginsWithPlaceholder tokens (record { name = Some name.value; matched = matched.Custom regexp.value }) rest
named_regexp tokens behind rest name regexp e k f l = record {
  front = name ∷ regexp ∷ [];
  cut = e ∙ ap (λ x. name ∷ x) f;
  is_placeholder = (ap (λ kind. kind ∷ regexp.kind ∷ []) k ∙ ap (λ kind. Name ∷ kind ∷ []) l, refl);
  takes_regexp = tt;
  closed = λ h. IsTokenList-behind Regexp behind rest regexp (λ g. cc g) f l (IsTokenList-behind Name tokens behind name (λ g. cc g) e k h);
}

pub unnamed_regexp : (tokens rest : List TokenView) (regexp : TokenView) → tokens ≡ regexp ∷ rest → regexp.kind ≡ Regexp → BeginsWithPlaceholder tokens (record { name = None; matched = matched.Custom regexp.value }) rest
unnamed_regexp tokens rest regexp e k = record {
  front = regexp ∷ [];
  cut = e;
  is_placeholder = (ap (λ kind. kind ∷ []) k, refl);
  takes_regexp = tt;
  closed = IsTokenList-behind Regexp tokens rest regexp (λ f. cc f) e k;
}

pub wildcard : (tokens rest : List TokenView) (asterisk : TokenView) → tokens ≡ asterisk ∷ rest → asterisk.kind ≡ Asterisk → BeginsWithPlaceholder tokens (record { name = None; matched = matched.Anything }) rest
wildcard tokens rest asterisk e k = record {
  front = asterisk ∷ [];
  cut = e;
  is_placeholder = ap (λ kind. kind ∷ []) k;
  takes_regexp = tt;
  closed = IsTokenList-behind Asterisk tokens rest asterisk (λ f. cc f) e k;
}

pub optional_or_more : (tokens rest : List TokenView) (token : TokenView) (modifier : PartModifier) → IsTokenList tokens → tokens ≡ token ∷ rest → token.kind ≡ OtherModifier → ((token.kind ≡ OtherModifier) → IsModifier (token ∷ []) modifier) → TakesModifier modifier rest → BeginsWithModifier tokens modifier rest
optional_or_more tokens rest token modifier h e k is takes = record {
  front = token ∷ [];
  cut = e;
  is_modifier = is k;
  takes_modifier = takes;
  closed = IsTokenList-behind OtherModifier tokens rest token (λ f. cc f) e k h;
}

-- A question mark is the modifier `Optional`.
pub optional : (tokens rest : List TokenView) (token : TokenView) → IsTokenList tokens → tokens ≡ token ∷ rest → token.kind ≡ OtherModifier → token.value ≡ codes "?" → BeginsWithModifier tokens modifiers.Optional rest
optional tokens rest token h e k v =
    optional_or_more tokens rest token modifiers.Optional h e k (λ l. (ap (λ kind. kind ∷ []) l, ap (λ value. value ∷ []) v)) tt

-- A modifier token other than a question mark is a plus.
pub one_or_more : (tokens rest : List TokenView) (token : TokenView) → IsTokenList tokens → tokens ≡ token ∷ rest → token.kind ≡ OtherModifier → ¬ (token.value ≡ codes "?") → BeginsWithModifier tokens modifiers.OneOrMore rest
one_or_more tokens rest token h e k other =
    let plus : token.value ≡ codes "+" = elim (IsTokenList-mark token rest (subst IsTokenList e h) k) [ inl p ↦ p | inr q ↦ absurd (other q) ] in
    optional_or_more tokens rest token modifiers.OneOrMore h e k (λ l. (ap (λ kind. kind ∷ []) l, ap (λ value. value ∷ []) plus)) tt

pub zero_or_more : (tokens rest : List TokenView) (token : TokenView) → IsTokenList tokens → tokens ≡ token ∷ rest → token.kind ≡ Asterisk → BeginsWithModifier tokens modifiers.ZeroOrMore rest
zero_or_more tokens rest token h e k = record {
  front = token ∷ [];
  cut = e;
  is_modifier = ap (λ kind. kind ∷ []) k;
  takes_modifier = tt;
  closed = IsTokenList-behind Asterisk tokens rest token (λ f. cc f) e k h;
}

-- ---- texts

text_not_end : (kind : TokenType) → is_text kind ≡ true → kind ≢ End
text_not_end kind e f = false≢true (subst (λ k. is_text k ≡ true) f e)

-- The tokens after texts are a token list.
pub IsTokenList-texts : (front rest : List TokenView) → IsTrue (list_all (λ token. is_text token.kind) front) → IsTokenList (front ++ rest) → IsTokenList rest
IsTokenList-texts [] rest h g = g
IsTokenList-texts (token ∷ front) rest h g =
    let p = and_parts (is_text token.kind) (list_all (λ (t : TokenView). is_text t.kind) front) h in
    IsTokenList-texts front rest p.1 (IsTokenList-rest token (front ++ rest) g (text_not_end token.kind p.0))

-- A further text token.
pub AreTexts-push : (front : List TokenView) (text value : List ℕ) (token : TokenView) → AreTexts front text → IsTrue (is_text token.kind) → token.value ≡ value → AreTexts (front ++ token ∷ []) (text ++ value)
AreTexts-push front text value token t h e = (
  list_all-append (λ (x : TokenView). is_text x.kind) front (token ∷ []) ∙ and_from _ _ t.0 (and_from _ _ h refl),
  ap (λ x. x ++ value) t.1 ∙ ap (λ x. joined_values front ++ x) (sym e ∙ sym (append-nil token.value)) ∙ sym (joined_values-append front (token ∷ [])),
)
  where
    joined_values-append : (xs ys : List TokenView) → joined_values (xs ++ ys) ≡ joined_values xs ++ joined_values ys
    joined_values-append [] ys = refl
    joined_values-append (x ∷ xs) ys = ap (λ z. x.value ++ z) (joined_values-append xs ys) ∙ sym (append_assoc x.value (joined_values xs) (joined_values ys))

-- ---- pieces

pub text_piece : (point : List ℕ) (token : TokenView) (rest : List TokenView) → IsTrue (is_text token.kind) → TakesPrefix point token rest → BeginsWithPiece point (token ∷ rest) (pieces.Text token.value) rest
text_piece point token rest text alone = (token ∷ [], refl, (token, refl, text, refl, alone))

pub bare_piece : (point : List ℕ) (before tokens behind rest : List TokenView) (prefix : List ℕ) (placeholder : Placeholder) (modifier : PartModifier) → IsPrefixOf point before prefix → BeginsWithPlaceholder tokens placeholder behind → BeginsWithModifier behind modifier rest → BeginsWithPiece point (before ++ tokens) (pieces.Bare prefix placeholder modifier) rest
bare_piece point before tokens behind rest prefix placeholder modifier is_prefix p m = (
  before ++ p.front ++ m.front,
  ap (λ x. before ++ x) (p.cut ∙ ap (λ x. p.front ++ x) m.cut ∙ sym (append_assoc p.front m.front rest))
      ∙ sym (append_assoc before (p.front ++ m.front) rest) ∙ ap (λ x. x ++ rest) (sym (append_assoc before p.front m.front)),
  record {
    front = before;
    middle = p.front;
    back = m.front;
    cut = refl;
    is_prefix = is_prefix;
    is_placeholder = p.is_placeholder;
    is_modifier = m.is_modifier;
    takes_regexp = subst (TakesRegexp placeholder.matched) m.cut p.takes_regexp;
    takes_modifier = m.takes_modifier;
  },
)

takes_narrower : (what : PlaceholderKindView) (back behind : List TokenView) (closing : TokenView) → TakesRegexp what (back ++ closing ∷ behind) → TakesRegexp what (back ++ closing ∷ [])
takes_narrower matched.Segment [] behind closing h = h
takes_narrower matched.Segment (token ∷ back) behind closing h = h
takes_narrower matched.Anything back behind closing h = tt
takes_narrower (matched.Custom body) back behind closing h = tt

-- The content of braces fits in braces whatever follows their Close.
pub narrower : (inner : List TokenView) (before after : List ℕ) (behind : List TokenView) (closing : TokenView) (placeholder : Placeholder) → IsFilled inner before placeholder after (closing ∷ behind) → IsFilled inner before placeholder after (closing ∷ [])
narrower inner before after behind closing placeholder f = record {
  front = f.front;
  middle = f.middle;
  back = f.back;
  cut = f.cut;
  are_texts_before = f.are_texts_before;
  is_placeholder = f.is_placeholder;
  takes_regexp = takes_narrower placeholder.matched f.back behind closing f.takes_regexp;
  are_texts_after = f.are_texts_after;
}

-- Tokens in braces, with a modifier.
module _ (opening : TokenView) (inner tokens behind rest : List TokenView) (modifier : PartModifier) (is_open : opening.kind ≡ Open) (inner_cut : tokens ≡ inner ++ behind) (c : BeginsWithClose behind modifier rest) where
  braced_cut : opening ∷ tokens ≡ (opening ∷ inner ++ c.closing ∷ c.begins.front) ++ rest
  braced_cut =
      ap (λ x. opening ∷ x) (inner_cut ∙ ap (λ x. inner ++ x) (c.cut ∙ ap (λ x. c.closing ∷ x) c.begins.cut)
      ∙ sym (append_assoc inner (c.closing ∷ c.begins.front) rest))

  braced : IsBraced (opening ∷ inner ++ c.closing ∷ c.begins.front) inner modifier rest
  braced = record {
    opening = opening;
    closing = c.closing;
    back = c.begins.front;
    cut = refl;
    is_open = is_open;
    is_close = c.is_close;
    is_modifier = c.begins.is_modifier;
    takes_modifier = c.begins.takes_modifier;
  }

  pub text_group : (point text : List ℕ) → AreTexts inner text → BeginsWithPiece point (opening ∷ tokens) (pieces.TextGroup text modifier) rest
  text_group point text t = (opening ∷ inner ++ c.closing ∷ c.begins.front, braced_cut, (inner, braced, t))

  pub filled_group : (point before after : List ℕ) (placeholder : Placeholder) → IsFilled inner before placeholder after (c.closing ∷ c.behind) → BeginsWithPiece point (opening ∷ tokens) (pieces.Group before placeholder after modifier) rest
  unfolding braced
  filled_group point before after placeholder f =
      (opening ∷ inner ++ c.closing ∷ c.begins.front, braced_cut, (inner, braced, narrower inner before after c.behind c.closing placeholder f))

-- Texts, a placeholder and texts.
pub filled : (tokens behind others rest : List TokenView) (before after : List ℕ) (placeholder : Placeholder) → (t : BeginsWithTexts tokens before behind) → (p : BeginsWithPlaceholder behind placeholder others) → (u : BeginsWithTexts others after rest) → IsFilled (t.front ++ p.front ++ u.front) before placeholder after rest
filled tokens behind others rest before after placeholder t p u = record {
  front = t.front;
  middle = p.front;
  back = u.front;
  cut = refl;
  are_texts_before = t.are_texts;
  is_placeholder = p.is_placeholder;
  takes_regexp = subst (TakesRegexp placeholder.matched) u.cut p.takes_regexp;
  are_texts_after = u.are_texts;
}

pub filled_cut : (tokens behind others rest : List TokenView) (before after : List ℕ) (placeholder : Placeholder) → (t : BeginsWithTexts tokens before behind) → (p : BeginsWithPlaceholder behind placeholder others) → (u : BeginsWithTexts others after rest) → tokens ≡ (t.front ++ p.front ++ u.front) ++ rest
filled_cut tokens behind others rest before after placeholder t p u =
    t.cut ∙ ap (λ x. t.front ++ x) (p.cut ∙ ap (λ x. p.front ++ x) u.cut ∙ sym (append_assoc p.front u.front rest))
    ∙ sym (append_assoc t.front (p.front ++ u.front) rest) ∙ ap (λ x. x ++ rest) (sym (append_assoc t.front p.front u.front))

-- A group of texts alone.
pub open_texts : (inner rest : List TokenView) → AreTexts inner (joined_values inner) → ¬ BeginsWithKind is_text rest → ¬ BeginsWithKind is_placeholder rest → IsOpenGroup inner rest
open_texts inner rest t h g = (h, inl (joined_values inner, t, g))

-- A group that lacks its Close.
pub open_ending : (opening : TokenView) (inner tokens rest more : List TokenView) (found : TokenView) → opening.kind ≡ Open → tokens ≡ inner ++ rest → rest ≡ found ∷ more → IsOpenGroup inner rest → found.kind ≢ Close → HasEndingAt (opening ∷ tokens) endings.LacksClose rest
open_ending opening inner tokens rest more found k cut e left other = (
  found,
  more,
  e,
  (opening, inner, more, ap (λ x. opening ∷ x) (cut ∙ ap (λ x. inner ++ x) e), k, subst (IsOpenGroup inner) e left, other),
)

-- The tokens do not begin with a kind if the first token is of no such kind.
pub not_first : (test : TokenType → Bool) (token : TokenView) (more tokens : List TokenView) → tokens ≡ token ∷ more → test token.kind ≡ false → ¬ BeginsWithKind test tokens
not_first test token more tokens e f h = false≢true (sym f ∙ subst (BeginsWithKind test) e h)

pub no_modifier : (kind : TokenType) → kind ≢ OtherModifier → kind ≢ Asterisk → is_modifier kind ≡ false
no_modifier OtherModifier h g = absurd (h refl)
no_modifier Asterisk h g = absurd (g refl)
no_modifier other h g = refl

-- A placeholder that is neither a name nor a custom regular expression is an asterisk.
pub asterisk_left : (kind : TokenType) → IsTrue (is_placeholder kind) → kind ≢ Name → kind ≢ Regexp → kind ≡ Asterisk
asterisk_left Asterisk h f g = refl
asterisk_left Name h f g = absurd (f refl)
asterisk_left Regexp h f g = absurd (g refl)
asterisk_left Open h f g = absurd (false≢true h)
asterisk_left Close h f g = absurd (false≢true h)
asterisk_left Char h f g = absurd (false≢true h)
asterisk_left EscapedChar h f g = absurd (false≢true h)
asterisk_left OtherModifier h f g = absurd (false≢true h)
asterisk_left End h f g = absurd (false≢true h)
asterisk_left InvalidChar h f g = absurd (false≢true h)
