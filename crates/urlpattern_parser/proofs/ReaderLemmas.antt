-- Lemmas on tokens that are read one by one: places of a text, and the tokens left there.
use Rattle.std.proofs.Common.{◌≡◌, ◌≢◌, ℕ, ◌+◌, ◌<◌, ◌≤◌, ◌⊎◌, List, [], ◌∷◌, ◌++◌, length, refl, sym, ap, ◌∙◌, subst, inl, inr, arith}
use Rattle.std.specs.Str.{chars, IsUtf8}
use Rattle.urlpattern_parser.specs.declared.parser.pieces.Reader.{Reader}
use Rattle.urlpattern_syntax.specs.declared.tokenizer.TokenType.{TokenType}
use Rattle.urlpattern_syntax.specs.declared.tokenizer.TokenType.TheVariants.{End}
use Rattle.urlpattern_syntax.specs.Cursors.{AreTokensAfter, IsPlace, IsTokenAfter, tokens_left}
use Rattle.urlpattern_syntax.specs.Parsing.{IsModifierSpelled, IsNameSpelled}
use Rattle.urlpattern_parser.specs.Readers.{HasTokensLeft, IsAtPlace, StartsText, Consumes, reader_left, reader_text}
use Rattle.urlpattern_syntax.specs.Text.{BeginsAt, BeginsWith, byte_len}
use Rattle.urlpattern_syntax.specs.Tokens.{AreTokens, IsCut, IsLexed, IsTokenOf, Skips, Spells, TokenView, is_ignored, token_view}
use Rattle.urlpattern_syntax.proofs.NameCharacters.{name_given}
use Rattle.urlpattern_syntax.proofs.PieceLemmas.{IsTokenList-more, are_token_list_after, spelled_kind, spelled_modifier}
use Rattle.urlpattern_syntax.proofs.TextLemmas.{byte_len-append, byte_len-chars}
use Rattle.urlpattern_syntax.proofs.TokenLemmas.{IsCut-more, IsLexed-shorter, SkipsBy-joined, SkipsBy-none}

-- ---- places

pub cut_shorter : (whole text left : List ℕ) (tokens : List TokenView) → IsCut (IsTokenOf whole) text tokens left → byte_len left ≤ byte_len text
cut_shorter whole text left [] h =
    let e = ap byte_len h.1 ∙ byte_len-append h.0 left in
    omega (arith, e)
cut_shorter whole text left (token ∷ tokens) h =
    let e = ap byte_len h.2.1 ∙ byte_len-append h.2.0 h.0 in
    let less = IsLexed-shorter h.0 token.value h.1 token.kind h.3.lexed in
    let more = cut_shorter whole h.1 left tokens h.4 in
    omega (arith, e, less, more)

-- The text after a place is no longer than the whole text.
pub place_within : (whole rest : List ℕ) → IsUtf8 whole → IsUtf8 rest → IsPlace (chars whole) (chars rest) → length rest ≤ length whole
place_within whole rest u v p =
    let within = cut_shorter (chars whole) (chars whole) (chars rest) p.front p.cut in
    let e = byte_len-chars whole u in
    let f = byte_len-chars rest v in
    omega (arith, within, e, f)

-- The place before the first token.
pub place_first : (whole rest : List ℕ) → Skips whole rest → ¬ BeginsWith is_ignored rest → IsPlace whole rest
place_first whole rest skips begins = record { front = []; cut = skips; begins = begins }

-- The place after the next token.
pub place_next : (whole rest value behind next : List ℕ) (kind : TokenType) (index : ℕ) → IsPlace whole rest → IsLexed rest kind value behind → BeginsAt whole rest index → Skips behind next → ¬ BeginsWith is_ignored next → IsPlace whole next
place_next whole rest value behind next kind index p lexed place skips begins =
    let token : TokenView = record { kind = kind; index = index; value = value } in
    record {
      front = p.front ++ token ∷ [];
      cut = IsCut-more (IsTokenOf whole) whole p.front rest behind next token p.cut (record { lexed = lexed; place = place }) skips;
      begins = begins;
    }

-- ---- tokens after a place

skip_cut : (Item : List ℕ → TokenView → List ℕ → Type 0) (text next left : List ℕ) (tokens : List TokenView) → Skips text next → IsCut Item next tokens left → IsCut Item text tokens left
skip_cut Item text next left [] skips cut = SkipsBy-joined is_ignored text next left skips cut
skip_cut Item text next left (token ∷ tokens) skips cut =
    (cut.0, cut.1, SkipsBy-joined is_ignored text next cut.0 skips cut.2, cut.3, cut.4)

not_spelled : (kind : TokenType) (value spelling : List ℕ) → kind ≡ End → ¬ Spells kind value spelling
not_spelled kind value spelling e h = spelled_kind kind End value spelling e h

pub after_end : (whole rest next : List ℕ) (token : TokenView) → IsTokenAfter whole rest token next → token.kind ≡ End → AreTokensAfter whole rest (token ∷ [])
after_end whole rest next token (inl h) e = record { front = []; cut = ([], h.0, refl); all = ap (λ x. x ∷ []) h.1 }
after_end whole rest next token (inr h) e = absurd (not_spelled token.kind token.value h.1.lexed.spelling e h.1.lexed.spells)

pub after_other : (whole rest next : List ℕ) (token : TokenView) (tokens : List TokenView) → IsTokenAfter whole rest token next → token.kind ≢ End → AreTokensAfter whole next tokens → AreTokensAfter whole rest (token ∷ tokens)
after_other whole rest next token tokens (inl h) other t = absurd (other (ap (λ (x : TokenView). x.kind) h.1))
after_other whole rest next token tokens (inr h) other t = record {
  front = token ∷ t.front;
  cut = (rest, h.0, SkipsBy-none is_ignored rest, h.1, skip_cut (IsTokenOf whole) h.0 next [] t.front h.2 t.cut);
  all = ap (λ x. token ∷ x) t.all;
}

-- The tokens of a text are those after the place before its first.
pub tokens_first : (text rest : List ℕ) (tokens : List TokenView) → Skips text rest → AreTokensAfter text rest tokens → AreTokens text tokens
tokens_first text rest tokens skips t = record { front = t.front; cut = skip_cut (IsTokenOf text) text rest [] t.front skips t.cut; all = t.all }

-- ---- tokens that are left

-- The tokens that are left, read from the place before the first of them.
pub given_after : (reader : Reader) (before : List ℕ) (tokens : List TokenView) → IsTokenAfter (reader_text reader) before (token_view reader.token) (chars reader.cursor.rest.now) → HasTokensLeft reader tokens → AreTokensAfter (reader_text reader) before tokens
given_after reader before tokens after g = subst (AreTokensAfter (reader_text reader) before) (sym g.first) (by_others g.others)
  where
    by_others : ((reader.token.kind ≡ End) × (g.more ≡ [])) ⊎ ((reader.token.kind ≢ End) × AreTokensAfter (reader_text reader) (chars reader.cursor.rest.now) g.more) → AreTokensAfter (reader_text reader) before (token_view reader.token ∷ g.more)
    by_others (inl h) =
        subst (λ more. AreTokensAfter (reader_text reader) before (token_view reader.token ∷ more)) (sym h.1)
        (after_end (reader_text reader) before (chars reader.cursor.rest.now) (token_view reader.token) after h.0)
    by_others (inr h) = after_other (reader_text reader) before (chars reader.cursor.rest.now) (token_view reader.token) g.more after h.0 h.1

-- Where the rest has tokens, tokens are left.
pub gives_some : (reader : Reader) (more : List TokenView) → IsAtPlace reader → AreTokensAfter (reader_text reader) (chars reader.cursor.rest.now) more → (tokens : List TokenView) × HasTokensLeft reader tokens
gives_some reader more stands t = by_kind reader.token.kind refl
  where
    first : TokenView
    first = token_view reader.token

    given : reader.token.kind ≢ End → (tokens : List TokenView) × HasTokensLeft reader tokens
    given other = (
      token_view reader.token ∷ more,
      record {
        more = more;
        first = refl;
        closed = IsTokenList-more (token_view reader.token) more other stands.mark (are_token_list_after (reader_text reader) (chars reader.cursor.rest.now) more t);
        others = inr (other, t);
      },
    )

    by_kind : (kind : TokenType) → reader.token.kind ≡ kind → (tokens : List TokenView) × HasTokensLeft reader tokens
    by_kind End e = (token_view reader.token ∷ [], record { more = []; first = refl; closed = e; others = inl (e, refl) })
    by_kind other e = given (λ f. cc (e, f))

-- A token that was read is spelled as its kind is.
pub mark_after : (whole rest next : List ℕ) (token : TokenView) → IsTokenAfter whole rest token next → IsModifierSpelled token
mark_after whole rest next token (inl h) e = absurd (let k = ap (λ (x : TokenView). x.kind) h.1 in cc (k, e))
mark_after whole rest next token (inr h) e = spelled_modifier token h.1.lexed.spelling h.1.lexed.spells e

pub name_after : (whole rest next : List ℕ) (token : TokenView) → IsTokenAfter whole rest token next → IsNameSpelled token
name_after whole rest next token (inl h) e = absurd (let k = ap (λ (x : TokenView). x.kind) h.1 in cc (k, e))
name_after whole rest next token (inr h) e = name_given token.value (subst (λ kind. Spells kind token.value h.1.lexed.spelling) e h.1.lexed.spells).1

pub one_left : (kind : TokenType) → kind ≢ End → tokens_left kind ≡ 1
one_left End h = absurd (h refl)
one_left other h = refl

pub tokens_left_most : (kind : TokenType) → tokens_left kind ≤ 1
tokens_left_most End = omega arith
tokens_left_most other = omega arith

-- The text after a token is shorter than the text that begins with the token.
pub left_within : (rest behind next : List ℕ) (kind : TokenType) → IsUtf8 rest → IsUtf8 behind → byte_len (chars behind) < byte_len (chars rest) → length next ≤ length behind → length next + tokens_left kind ≤ length rest
left_within rest behind next kind u v less le =
    let e = byte_len-chars rest u in
    let f = byte_len-chars behind v in
    let most = tokens_left_most kind in
    omega (arith, e, f, most, less, le)

-- A token is consumed.
module _ (old new : Reader) (whole : new.cursor.input.now ≡ old.cursor.input.now) (place : IsPlace (reader_text old) (chars new.cursor.rest.now)) (after : IsTokenAfter (reader_text old) (chars old.cursor.rest.now) (token_view new.token) (chars new.cursor.rest.now)) (len : length new.cursor.rest.now + tokens_left new.token.kind ≤ length old.cursor.rest.now) (stands : IsAtPlace old) (other : old.token.kind ≢ End) where
  pub takes_less : reader_left new < reader_left old
  takes_less =
      let one = one_left old.token.kind other in
      omega (arith, one, len)

  pub takes_token : Consumes old new (λ tokens rest. tokens ≡ token_view old.token ∷ rest)
  takes_token = record {
    whole = whole;
    stands = record {
      place = subst (λ text. IsPlace text (chars new.cursor.rest.now)) (sym (ap chars whole)) place;
      mark = mark_after (reader_text old) (chars old.cursor.rest.now) (chars new.cursor.rest.now) (token_view new.token) after;
      name = name_after (reader_text old) (chars old.cursor.rest.now) (chars new.cursor.rest.now) (token_view new.token) after;
    };
    left =
        let one = one_left old.token.kind other in
        omega (arith, one, len);
    gives = λ rest g.
        let t : AreTokensAfter (reader_text new) (chars old.cursor.rest.now) rest =
        given_after new (chars old.cursor.rest.now) rest
        (subst (λ text. IsTokenAfter text (chars old.cursor.rest.now) (token_view new.token) (chars new.cursor.rest.now)) (sym (ap chars whole)) after) g in (
          token_view old.token ∷ rest,
          record {
            more = rest;
            first = refl;
            closed = IsTokenList-more (token_view old.token) rest other stands.mark g.closed;
            others = inr (other, subst (λ text. AreTokensAfter text (chars old.cursor.rest.now) rest) (ap chars whole) t);
          },
          refl,
        );
  }

-- Nothing is consumed.
pub takes_none : (reader : Reader) (Is : List TokenView → List TokenView → Type 0) → IsAtPlace reader → ((tokens : List TokenView) → HasTokensLeft reader tokens → Is tokens tokens) → Consumes reader reader Is
takes_none reader Is stands is = record {
  whole = refl;
  stands = stands;
  left = omega arith;
  gives = λ rest g. (rest, g, is rest g);
}

pub takes_then : (a b c : Reader) (P Q R : List TokenView → List TokenView → Type 0) → Consumes a b P → Consumes b c Q →
    ((x y z : List TokenView) → HasTokensLeft a x → HasTokensLeft b y → HasTokensLeft c z → P x y → Q y z → R x z) → Consumes a c R
takes_then a b c P Q R first second joined = record {
  whole = second.whole ∙ first.whole;
  stands = second.stands;
  left = omega (arith, first.left, second.left);
  gives = λ rest g.
      let y = second.gives rest g in
      let x = first.gives y.0 y.1 in
      (x.0, x.1, joined x.0 y.0 rest x.1 y.1 g x.2 y.2);
}

pub takes_weaker : (a b : Reader) (P Q : List TokenView → List TokenView → Type 0) → Consumes a b P →
    ((x y : List TokenView) → HasTokensLeft a x → HasTokensLeft b y → P x y → Q x y) → Consumes a b Q
takes_weaker a b P Q t weaker = record {
  whole = t.whole;
  stands = t.stands;
  left = t.left;
  gives = λ rest g.
      let x = t.gives rest g in
      (x.0, x.1, weaker x.0 rest x.1 g x.2);
}

-- A reader at the first token of the text.
pub starts : (text : List ℕ) (reader : Reader) (rest : List ℕ) → reader_text reader ≡ text → IsPlace text (chars reader.cursor.rest.now) → Skips text rest → IsTokenAfter text rest (token_view reader.token) (chars reader.cursor.rest.now) → StartsText text reader
starts text reader rest whole place skips after = record {
  whole = whole;
  stands = record {
    place = subst (λ x. IsPlace x (chars reader.cursor.rest.now)) (sym whole) place;
    mark = mark_after text rest (chars reader.cursor.rest.now) (token_view reader.token) after;
    name = name_after text rest (chars reader.cursor.rest.now) (token_view reader.token) after;
  };
  all = λ tokens g.
      tokens_first text rest tokens skips
      (subst (λ x. AreTokensAfter x rest tokens) whole
      (given_after reader rest tokens (subst (λ x. IsTokenAfter x rest (token_view reader.token) (chars reader.cursor.rest.now)) (sym whole) after) g));
}
