-- Lemmas on runs of characters that stand for themselves.
use Rattle.std.proofs.Common.{rules, ◌≡◌, ℕ, ◌+◌, ◌-◌, ◌<◌, ◌≤◌, ◌≢◌, ◌⊎◌, true, false, List, [], ◌∷◌, ◌++◌, length, refl, sym, ap, ◌∙◌, subst, inl, inr, arith, append_assoc}
use Rattle.std.specs.Prelude.{IsTrue, codes}
use Rattle.std.specs.List.{list_all}
use Rattle.std.proofs.lemmas.Bool.{and_from, and_parts, both_ways}
use Rattle.std.proofs.lemmas.List.Folds.{list_all-append}
use Rattle.std.specs.Str.{chars}
use Rattle.std.proofs.lemmas.List.{append_cancel_right}
use Rattle.urlpattern_parser.specs.declared.parser.pieces.Reader.{Reader}
use Rattle.urlpattern_syntax.specs.declared.tokenizer.TokenType.{TokenType}
use Rattle.urlpattern_syntax.specs.declared.tokenizer.TokenType.TheVariants.{Asterisk, Char, Close, End, EscapedChar, InvalidChar, Name, Open, OtherModifier, Regexp}
use Rattle.urlpattern_syntax.specs.Cursors.{AreCharactersBefore, AreTokensAfter, IsPlace, IsTokenAfter, is_char_token, tokens_left}
use Rattle.urlpattern_syntax.specs.Parsing.{BeginsWithRow, BeginsWithCharacters}
use Rattle.urlpattern_parser.specs.Readers.{HasTokensLeft, IsAtPlace, Consumes, reader_left, reader_text}
use Rattle.urlpattern_syntax.specs.Pieces.{AreTexts, BeginsWithKind, is_text}
use Rattle.urlpattern_syntax.specs.Text.{BeginsAt, BeginsWith, byte_len, is_among}
use Rattle.urlpattern_syntax.specs.Tokens.{IsLexed, Spells, TokenView, is_ignored, marks, token_view}
use Rattle.urlpattern_syntax.proofs.PieceLemmas.{IsTokenList-more, are_token_list_after}
use Rattle.urlpattern_parser.proofs.ReaderLemmas.{after_other, cut_shorter, given_after, mark_after, name_after, one_left, place_next, takes_weaker}
use Rattle.urlpattern_syntax.proofs.TokenExamples.{literals}
use Rattle.urlpattern_syntax.proofs.TokenLemmas.{SkipsBy-none, Spells-char, character_lexed}

-- The text begins with characters that stand for themselves. The last of these is before the rest,
-- if there is one.
pub record LeavesLast (text last rest : List ℕ) : Type 0 where
  pub characters : List ℕ
  pub cut : text ≡ characters ++ last
  pub stand : IsTrue (list_all is_char_token characters)
  pub one : ((characters ≡ []) × (last ≡ rest)) ⊎ ((c : ℕ) × (last ≡ c ∷ rest) × IsTrue (is_char_token c))

-- The next character stands for itself too.
pub leaves_next : (text last rest after : List ℕ) (c : ℕ) → LeavesLast text last rest → rest ≡ c ∷ after → is_char_token c ≡ true → LeavesLast text rest after
leaves_next text last rest after c h e stands = by_one h.one
  where
    by_one : ((h.characters ≡ []) × (last ≡ rest)) ⊎ ((d : ℕ) × (last ≡ d ∷ rest) × IsTrue (is_char_token d)) → LeavesLast text rest after
    by_one (inl g) = record { characters = h.characters; cut = h.cut ∙ ap (λ x. h.characters ++ x) g.1; stand = h.stand; one = inr (c, e, stands) }
    by_one (inr g) = record {
      characters = h.characters ++ g.0 ∷ [];
      cut = h.cut ∙ ap (λ x. h.characters ++ x) g.1 ∙ sym (append_assoc h.characters (g.0 ∷ []) rest);
      stand = list_all-append is_char_token h.characters (g.0 ∷ []) ∙ and_from _ _ h.stand (and_from _ _ g.2 refl);
      one = inr (c, e, stands);
    }

pub characters_before : (text value last rest : List ℕ) → LeavesLast text last rest → text ≡ value ++ last → AreCharactersBefore text value last
characters_before text value last rest h e = record {
  cut = e;
  stand = subst (λ x. IsTrue (list_all is_char_token x)) (sym same) h.stand;
  more = by_one h.one;
}
  where
    same : value ≡ h.characters
    same = append_cancel_right value h.characters last (sym e ∙ h.cut)

    by_one : ((h.characters ≡ []) × (last ≡ rest)) ⊎ ((c : ℕ) × (last ≡ c ∷ rest) × IsTrue (is_char_token c)) → (value ≡ []) ⊎ BeginsWith is_char_token last
    by_one (inl g) = inl (same ∙ g.0)
    by_one (inr g) = inr (subst (BeginsWith is_char_token) (sym g.1) g.2)

-- ---- tokens of characters

not_mark : (c : ℕ) → is_char_token c ≡ true → is_among marks c ≡ false
not_mark c h = search rules

not_skipped : (c : ℕ) → is_char_token c ≡ true → is_ignored c ≡ false
not_skipped c h = search rules

pub stands_there : (text : List ℕ) → BeginsWith is_char_token text → ¬ BeginsWith is_ignored text
stands_there [] h g = both_ways false refl h
stands_there (c ∷ text) h g = both_ways (is_ignored c) (not_skipped c h) g

-- The rest begins with these texts, the tokens of these characters.
pub record BeginsWithTokens (whole rest characters next : List ℕ) : Type 0 where
  pub row : List TokenView
  pub place : IsPlace whole next
  pub are_texts : AreTexts row characters
  pub none : characters ≡ [] → row ≡ []
  pub after : (tokens : List TokenView) → AreTokensAfter whole next tokens → AreTokensAfter whole rest (row ++ tokens)

one_row : (whole rest next : List ℕ) → IsPlace whole rest → rest ≡ next → BeginsWithTokens whole rest [] next
one_row whole rest next place e = record {
  row = [];
  place = subst (IsPlace whole) e place;
  are_texts = (refl, refl);
  none = λ _. refl;
  after = λ tokens t. subst (λ x. AreTokensAfter whole x tokens) (sym e) t;
}

module _ (whole rest characters next : List ℕ) (c : ℕ) (place : IsPlace whole rest) (h : AreCharactersBefore rest (c ∷ characters) next) where
  abbrev behind : List ℕ
  behind = characters ++ next

  first_stands : is_char_token c ≡ true
  first_stands = (and_parts _ _ h.stand).0

  others_stand : IsTrue (list_all is_char_token characters)
  others_stand = (and_parts _ _ h.stand).1

  next_stands : BeginsWith is_char_token next
  next_stands = by_more h.more
    where
      by_more : (c ∷ characters ≡ []) ⊎ BeginsWith is_char_token next → BeginsWith is_char_token next
      by_more (inl e) = absurd (cc e)
      by_more (inr g) = g

  after_before : AreCharactersBefore behind characters next
  after_before = record { cut = refl; stand = others_stand; more = inr next_stands }

  abbrev token : TokenView
  token = record { kind = Char; index = byte_len whole - byte_len rest; value = c ∷ [] }

  index_place : BeginsAt whole rest (byte_len whole - byte_len rest)
  index_place =
      let within = cut_shorter whole whole rest place.front place.cut in
      omega (arith, within)

  lexed : IsLexed rest Char (c ∷ []) behind
  lexed = character_lexed Char rest (c ∷ []) behind c h.cut h.cut (Spells-char c (not_mark c first_stands) (both_ways (is_ignored c) (not_skipped c first_stands))) tt

  after_stands : (text : List ℕ) → IsTrue (list_all is_char_token text) → BeginsWith is_char_token (text ++ next)
  after_stands [] g = next_stands
  after_stands (d ∷ text) g = (and_parts _ _ g).0

  after_place : IsPlace whole behind
  after_place = place_next whole rest (c ∷ []) behind behind Char (byte_len whole - byte_len rest) place lexed index_place (SkipsBy-none is_ignored behind) (stands_there behind (after_stands characters others_stand))

  one_more : BeginsWithTokens whole behind characters next → BeginsWithTokens whole rest (c ∷ characters) next
  one_more others = record {
    row = token ∷ others.row;
    place = others.place;
    are_texts = (and_from _ _ refl others.are_texts.0, ap (λ x. c ∷ x) others.are_texts.1);
    none = λ e. absurd (cc e);
    after = λ tokens t. after_other whole rest behind token (others.row ++ tokens) (inr (behind, record { lexed = lexed; place = index_place }, SkipsBy-none is_ignored behind)) (λ e. absurd (cc e)) (others.after tokens t);
  }

pub character_tokens : (whole rest characters next : List ℕ) → IsPlace whole rest → AreCharactersBefore rest characters next → BeginsWithTokens whole rest characters next
character_tokens whole rest [] next place h = one_row whole rest next place h.cut
character_tokens whole rest (c ∷ characters) next place h =
    one_more whole rest characters next c place h
    (character_tokens whole (characters ++ next) characters next (after_place whole rest characters next c place h) (after_before whole rest characters next c place h))

-- ---- the token that such a character begins

first_of : (m c : ℕ) (value spelling rest more : List ℕ) → spelling ≡ m ∷ value → spelling ++ rest ≡ c ∷ more → m ≡ c
first_of m c value spelling rest more e f = cc (sym (ap (λ x. x ++ rest) e) ∙ f)

no_mark : (m c : ℕ) → is_char_token m ≡ false → m ≡ c → ¬ IsTrue (is_char_token c)
no_mark m c none e h = both_ways (is_char_token m) none (subst (λ x. is_char_token x ≡ true) (sym e) h)

spelled_text : (kind : TokenType) (value spelling rest more : List ℕ) (c : ℕ) → Spells kind value spelling → spelling ++ rest ≡ c ∷ more → IsTrue (is_char_token c) → IsTrue (is_text kind)
unfolding literals
spelled_text Char value spelling rest more c h e stands = refl
spelled_text EscapedChar value spelling rest more c h e stands = refl
spelled_text Open value spelling rest more c h e stands = absurd (no_mark _ c refl (first_of _ c [] spelling rest more h.1 e) stands)
spelled_text Close value spelling rest more c h e stands = absurd (no_mark _ c refl (first_of _ c [] spelling rest more h.1 e) stands)
spelled_text Asterisk value spelling rest more c h e stands = absurd (no_mark _ c refl (first_of _ c [] spelling rest more h.1 e) stands)
spelled_text OtherModifier value spelling rest more c (same, inl plus) e stands = absurd (no_mark _ c refl (first_of _ c [] spelling rest more plus e) stands)
spelled_text OtherModifier value spelling rest more c (same, inr mark) e stands = absurd (no_mark _ c refl (first_of _ c [] spelling rest more mark e) stands)
spelled_text Name value spelling rest more c h e stands = absurd (no_mark _ c refl (first_of _ c value spelling rest more h.0 e) stands)
spelled_text Regexp value spelling rest more c h e stands = absurd (no_mark _ c refl (first_of _ c (value ++ codes ")") spelling rest more h.0 e) stands)
spelled_text End value spelling rest more c h e stands = absurd h
spelled_text InvalidChar value spelling rest more c h e stands = absurd h

pub text_after : (whole rest next : List ℕ) (token : TokenView) → IsTokenAfter whole rest token next → BeginsWith is_char_token rest → IsTrue (is_text token.kind)
text_after whole [] next token h stands = absurd (both_ways false refl stands)
text_after whole (c ∷ rest) next token (inl h) stands = absurd (cc h.0)
text_after whole (c ∷ rest) next token (inr h) stands =
    spelled_text token.kind token.value h.1.lexed.spelling h.0 rest c h.1.lexed.spells (sym h.1.lexed.cut) stands

-- ---- characters that are consumed

-- Consuming characters leaves fewer tokens.
pub row_less : (old new : Reader) (middle : List ℕ) → length middle ≤ length old.cursor.rest.now → length new.cursor.rest.now + tokens_left new.token.kind ≤ length middle → old.token.kind ≢ End → reader_left new < reader_left old
row_less old new middle le len other =
    let one = one_left old.token.kind other in
    omega (arith, one, len, le)

module _ (old new : Reader) (middle : List ℕ) (more : List ℕ) (whole : new.cursor.input.now ≡ old.cursor.input.now)
    (before : AreCharactersBefore (chars old.cursor.rest.now) more (chars middle)) (place : IsPlace (reader_text old) (chars new.cursor.rest.now))
    (after : IsTokenAfter (reader_text old) (chars middle) (token_view new.token) (chars new.cursor.rest.now))
    (le : length middle ≤ length old.cursor.rest.now) (len : length new.cursor.rest.now + tokens_left new.token.kind ≤ length middle) (stands : IsAtPlace old) (other : old.token.kind ≢ End) where
  begins : BeginsWithTokens (reader_text old) (chars old.cursor.rest.now) more (chars middle)
  begins = character_tokens (reader_text old) (chars old.cursor.rest.now) more (chars middle) stands.place before

  goes_on : (rest : List TokenView) → HasTokensLeft new rest → (more ≡ []) ⊎ BeginsWithKind is_text rest
  goes_on rest g = by_more before.more
    where
      by_more : (more ≡ []) ⊎ BeginsWith is_char_token (chars middle) → (more ≡ []) ⊎ BeginsWithKind is_text rest
      by_more (inl e) = inl e
      by_more (inr h) = inr (subst (BeginsWithKind is_text) (sym g.first) (text_after (reader_text old) (chars middle) (chars new.cursor.rest.now) (token_view new.token) after h))

  pub takes_row : Consumes old new (λ tokens rest. BeginsWithCharacters tokens (token_view old.token) more rest)
  takes_row = record {
    whole = whole;
    stands = record {
      place = subst (λ text. IsPlace text (chars new.cursor.rest.now)) (sym (ap chars whole)) place;
      mark = mark_after (reader_text old) (chars middle) (chars new.cursor.rest.now) (token_view new.token) after;
      name = name_after (reader_text old) (chars middle) (chars new.cursor.rest.now) (token_view new.token) after;
    };
    left =
        let one = one_left old.token.kind other in
        omega (arith, one, len, le);
    gives = λ rest g.
        let t : AreTokensAfter (reader_text new) (chars middle) rest =
        given_after new (chars middle) rest
        (subst (λ text. IsTokenAfter text (chars middle) (token_view new.token) (chars new.cursor.rest.now)) (sym (ap chars whole)) after) g in
        let u : AreTokensAfter (reader_text old) (chars old.cursor.rest.now) (begins.row ++ rest) =
        begins.after rest (subst (λ text. AreTokensAfter text (chars middle) rest) (ap chars whole) t) in (
          token_view old.token ∷ begins.row ++ rest,
          record {
            more = begins.row ++ rest;
            first = refl;
            closed = IsTokenList-more (token_view old.token) (begins.row ++ rest) other stands.mark (are_token_list_after (reader_text old) (chars old.cursor.rest.now) (begins.row ++ rest) u);
            others = inr (other, u);
          },
          record { row = begins.row; cut = refl; are_texts = begins.are_texts; none = begins.none; goes_on = goes_on rest g },
        );
  }

-- No character is consumed after the first.
pub row_alone : (old new : Reader) (more : List ℕ) → Consumes old new (λ tokens rest. BeginsWithCharacters tokens (token_view old.token) more rest) → more ≡ [] → Consumes old new (λ tokens rest. tokens ≡ token_view old.token ∷ rest)
row_alone old new more t e =
    takes_weaker old new (λ tokens rest. BeginsWithCharacters tokens (token_view old.token) more rest) (λ tokens rest. tokens ≡ token_view old.token ∷ rest) t
    (λ tokens rest g h r. r.cut ∙ ap (λ row. token_view old.token ∷ row ++ rest) (r.none e))

-- Characters are consumed after the first.
pub row_texts : (old new : Reader) (first more : List ℕ) → Consumes old new (λ tokens rest. BeginsWithCharacters tokens (token_view old.token) more rest) → ¬ (more ≡ []) → first ≡ (token_view old.token).value → IsTrue (is_text old.token.kind) → Consumes old new (λ tokens rest. BeginsWithRow tokens (first ++ more) rest)
row_texts old new first more t some value text =
    takes_weaker old new (λ tokens rest. BeginsWithCharacters tokens (token_view old.token) more rest) (λ tokens rest. BeginsWithRow tokens (first ++ more) rest) t
    (λ tokens rest g h r. record {
      row = token_view old.token ∷ r.row;
      cut = r.cut;
      are_texts = (and_from _ _ text r.are_texts.0, ap (λ x. x ++ more) value ∙ ap (λ x. (token_view old.token).value ++ x) r.are_texts.1);
      goes_on = others rest r.goes_on;
    })
  where
    others : (rest : List TokenView) → (more ≡ []) ⊎ BeginsWithKind is_text rest → BeginsWithKind is_text rest
    others rest (inl e) = absurd (some e)
    others rest (inr h) = h
