-- The text between two lenient tokens: it exists, and its ends are boundaries of characters.
use Rattle.std.proofs.Common.{◌≡◌, ℕ, zero, suc, ◌+◌, ◌-◌, ◌<◌, ◌≤◌, ◌⊎◌, true, false, Some, List, [], ◌∷◌, ◌++◌, length, get_or, take, drop, refl, sym, ap, ◌∙◌, subst, inl, inr, arith, append_assoc, length-append}
use Rattle.std.proofs.Math.Seq.{take-append_seam}
use Rattle.std.proofs.lemmas.Bool.{and_from, and_parts, both_ways}
use Rattle.std.proofs.lemmas.List.{append-nil, length-map}
use Rattle.std.proofs.lemmas.Str.{chars-encodes, encodes-append, encodes-chars, IsCharBoundary-at_seam}
use Rattle.std.specs.Prelude.{encode_utf8_all, IsTrue, IsSomeAnd, slice_get, slice_range}
use Rattle.std.specs.Str.{chars, IsCharBoundary, IsUtf8}
use lib.Utf8.{scalars}
use Rattle.urlpattern_constructor.specs.Split.{IsTextBetween, ends_at, is_end}
use Rattle.urlpattern_constructor.proofs.ClosedTokens.{IsClosed}
use Rattle.urlpattern_constructor.specs.Splitting.{IsSource, text_of_source, tokens_of}
use Rattle.urlpattern_constructor.specs.declared.tokens.Source.{Source}
use Rattle.urlpattern_constructor.proofs.TokenPlaces.{no_token, view_read}
use Rattle.urlpattern_syntax.specs.Text.{byte_len, BeginsAt}
use Rattle.urlpattern_syntax.specs.Tokens.{AreLenientTokens, IsCut, IsInvalidCharOf, IsTokenOf, Spells, TokenView, end_of, token_view}
use Rattle.urlpattern_syntax.specs.declared.tokenizer.TokenType.{TokenType}
use Rattle.urlpattern_syntax.specs.declared.tokenizer.TokenType.TheVariants.{End}
use Rattle.urlpattern_syntax.proofs.TextLemmas.{byte_len-append}

-- A lenient token of the whole text.
abbrev pub IsLenient : (whole start : List ℕ) → TokenView → List ℕ → Type 0
IsLenient whole start token rest = IsTokenOf whole start token rest ⊎ IsInvalidCharOf whole start token rest

-- ---- End is last

spelled_not_end : (kind : TokenType) (value spelling : List ℕ) → Spells kind value spelling → is_end kind ≡ false
spelled_not_end End value spelling h = absurd h
spelled_not_end kind value spelling h = refl

pub lenient_not_end : (whole start : List ℕ) (token : TokenView) (rest : List ℕ) → IsLenient whole start token rest → is_end token.kind ≡ false
lenient_not_end whole start token rest (inl h) = spelled_not_end token.kind token.value h.lexed.spelling h.lexed.spells
lenient_not_end whole start token rest (inr h) = ap (λ (t : TokenView). is_end t.kind) h.is_token

last_is_end : (whole text : List ℕ) (front : List TokenView) (place : ℕ) → IsCut (IsLenient whole) text front [] → place < length (front ++ end_of whole ∷ []) → IsTrue (ends_at (front ++ end_of whole ∷ []) place) → place + 1 ≡ length (front ++ end_of whole ∷ [])
last_is_end whole text [] zero cut within h = refl
last_is_end whole text [] (suc place) cut within h = absurd (omega arith)
last_is_end whole text (token ∷ front) zero cut within h = absurd (both_ways (is_end token.kind) (lenient_not_end whole cut.0 token cut.1 cut.3) h)
last_is_end whole text (token ∷ front) (suc place) cut within h =
    let e = last_is_end whole cut.1 front place cut.4 (omega arith) h in
    omega arith

others_go_on : (whole : List ℕ) (front : List TokenView) (place : ℕ) → place < length (front ++ end_of whole ∷ []) → ¬ IsTrue (ends_at (front ++ end_of whole ∷ []) place) → place + 1 < length (front ++ end_of whole ∷ [])
others_go_on whole [] zero within h = absurd (h refl)
others_go_on whole [] (suc place) within h = absurd (omega arith)
others_go_on whole (token ∷ front) zero within h =
    let e = length-append front (end_of whole ∷ []) in
    omega arith
others_go_on whole (token ∷ front) (suc place) within h =
    let e = others_go_on whole front place (omega arith) h in
    omega arith

-- Of lenient tokens End is the last and only the last.
pub are_closed : (text : List ℕ) (tokens : List TokenView) → AreLenientTokens text tokens → IsClosed tokens
are_closed text tokens h = subst IsClosed (sym h.all) (record {
  last = λ place within end. last_is_end text text h.front place h.cut within end;
  goes_on = λ place within other. others_go_on text h.front place within other;
})

-- ---- places of tokens

-- The token at the position is after this beginning of the text.
pub record BeginsAfter (tokens : List TokenView) (i : ℕ) (front : List ℕ) : Type 0 where
  pub index : IsSomeAnd (slice_get tokens i) (λ token. token.index ≡ byte_len front)

-- A lenient token begins the text with its spelling.
taken : (whole start : List ℕ) (token : TokenView) (rest : List ℕ) → IsLenient whole start token rest → (spelling : List ℕ) × (start ≡ spelling ++ rest)
taken whole start token rest (inl h) = (h.lexed.spelling, h.lexed.cut)
taken whole start token rest (inr h) = (h.character ∷ [], h.cut)

placed : (whole start : List ℕ) (token : TokenView) (rest : List ℕ) → IsLenient whole start token rest → BeginsAt whole start token.index
placed whole start token rest (inl h) = h.place
placed whole start token rest (inr h) = h.place

-- The text before a place.
front_len : (whole front rest : List ℕ) (place : ℕ) → whole ≡ front ++ rest → BeginsAt whole rest place → place ≡ byte_len front
front_len whole front rest place e h =
    let n = ap byte_len e ∙ byte_len-append front rest in
    omega arith

-- A token of a cut is after a beginning of the text.
front_of : (whole before text : List ℕ) (front : List TokenView) (i : ℕ) → whole ≡ before ++ text → IsCut (IsLenient whole) text front [] → i < length (front ++ end_of whole ∷ []) → (pre post : List ℕ) × (text ≡ pre ++ post) × BeginsAfter (front ++ end_of whole ∷ []) i (before ++ pre)
front_of whole before text [] zero e cut within = (text, [], sym (append-nil text), record { index = ap byte_len e })
front_of whole before text [] (suc i) e cut within = absurd (omega arith)
front_of whole before text (token ∷ front) zero e cut within =
    let skipped = cut.2 in
    let all : whole ≡ (before ++ skipped.0) ++ cut.0 = e ∙ ap (λ x. before ++ x) skipped.1 ∙ sym (append_assoc before skipped.0 cut.0) in
    (skipped.0, cut.0, skipped.1, record { index = front_len whole (before ++ skipped.0) cut.0 token.index all (placed whole cut.0 token cut.1 cut.3) })
front_of whole before text (token ∷ front) (suc i) e cut within =
    let skipped = cut.2 in
    let spelling = taken whole cut.0 token cut.1 cut.3 in
    let text_is : text ≡ (skipped.0 ++ spelling.0) ++ cut.1 = skipped.1 ∙ ap (λ x. skipped.0 ++ x) spelling.1 ∙ sym (append_assoc skipped.0 spelling.0 cut.1) in
    let all : whole ≡ (before ++ (skipped.0 ++ spelling.0)) ++ cut.1 = e ∙ ap (λ x. before ++ x) text_is ∙ sym (append_assoc before (skipped.0 ++ spelling.0) cut.1) in
    let found = front_of whole (before ++ (skipped.0 ++ spelling.0)) cut.1 front i all cut.4 (omega arith) in (
      (skipped.0 ++ spelling.0) ++ found.0,
      found.1,
      text_is ∙ ap (λ x. (skipped.0 ++ spelling.0) ++ x) found.2 ∙ sym (append_assoc (skipped.0 ++ spelling.0) found.0 found.1),
      record { index = subst (λ x. IsSomeAnd (slice_get (front ++ end_of whole ∷ []) i) (λ t. t.index ≡ byte_len x)) (append_assoc before (skipped.0 ++ spelling.0) found.0) found.3.index },
    )

-- Two tokens are after two beginnings of the text, the second an extension of the first.
fronts_of : (whole before text : List ℕ) (front : List TokenView) (i j : ℕ) → whole ≡ before ++ text → IsCut (IsLenient whole) text front [] → i ≤ j → j < length (front ++ end_of whole ∷ []) → (pre mid post : List ℕ) × (text ≡ pre ++ (mid ++ post)) × BeginsAfter (front ++ end_of whole ∷ []) i (before ++ pre) × BeginsAfter (front ++ end_of whole ∷ []) j ((before ++ pre) ++ mid)
fronts_of whole before text [] zero zero e cut le within =
    (text, [], [], sym (append-nil text), record { index = ap byte_len e }, record { index = ap byte_len (e ∙ sym (append-nil (before ++ text))) })
fronts_of whole before text [] i (suc j) e cut le within = absurd (omega arith)
fronts_of whole before text [] (suc i) zero e cut le within = absurd (omega arith)
fronts_of whole before text (token ∷ front) (suc i) zero e cut le within = absurd (omega arith)
fronts_of whole before text (token ∷ front) zero zero e cut le within =
    let found = front_of whole before text (token ∷ front) zero e cut within in (
      found.0,
      [],
      found.1,
      found.2,
      found.3,
      record { index = subst (λ x. IsSomeAnd (slice_get ((token ∷ front) ++ end_of whole ∷ []) zero) (λ t. t.index ≡ byte_len x)) (sym (append-nil (before ++ found.0))) found.3.index },
    )
fronts_of whole before text (token ∷ front) zero (suc j) e cut le within =
    let skipped = cut.2 in
    let spelling = taken whole cut.0 token cut.1 cut.3 in
    let first : whole ≡ (before ++ skipped.0) ++ cut.0 = e ∙ ap (λ x. before ++ x) skipped.1 ∙ sym (append_assoc before skipped.0 cut.0) in
    let all : whole ≡ ((before ++ skipped.0) ++ spelling.0) ++ cut.1 = first ∙ ap (λ x. (before ++ skipped.0) ++ x) spelling.1 ∙ sym (append_assoc (before ++ skipped.0) spelling.0 cut.1) in
    let found = front_of whole ((before ++ skipped.0) ++ spelling.0) cut.1 front j all cut.4 (omega arith) in (
      skipped.0,
      spelling.0 ++ found.0,
      found.1,
      skipped.1 ∙ ap (λ x. skipped.0 ++ x) (spelling.1 ∙ ap (λ x. spelling.0 ++ x) found.2 ∙ sym (append_assoc spelling.0 found.0 found.1)),
      record { index = front_len whole (before ++ skipped.0) cut.0 token.index first (placed whole cut.0 token cut.1 cut.3) },
      record { index = subst (λ x. IsSomeAnd (slice_get (front ++ end_of whole ∷ []) j) (λ t. t.index ≡ byte_len x)) (append_assoc (before ++ skipped.0) spelling.0 found.0) found.3.index },
    )
fronts_of whole before text (token ∷ front) (suc i) (suc j) e cut le within =
    let skipped = cut.2 in
    let spelling = taken whole cut.0 token cut.1 cut.3 in
    let text_is : text ≡ (skipped.0 ++ spelling.0) ++ cut.1 = skipped.1 ∙ ap (λ x. skipped.0 ++ x) spelling.1 ∙ sym (append_assoc skipped.0 spelling.0 cut.1) in
    let all : whole ≡ (before ++ (skipped.0 ++ spelling.0)) ++ cut.1 = e ∙ ap (λ x. before ++ x) text_is ∙ sym (append_assoc before (skipped.0 ++ spelling.0) cut.1) in
    let found = fronts_of whole (before ++ (skipped.0 ++ spelling.0)) cut.1 front i j all cut.4 (omega arith) (omega arith) in
    let same = append_assoc before (skipped.0 ++ spelling.0) found.0 in (
      (skipped.0 ++ spelling.0) ++ found.0,
      found.1,
      found.2,
      text_is ∙ ap (λ x. (skipped.0 ++ spelling.0) ++ x) found.3 ∙ sym (append_assoc (skipped.0 ++ spelling.0) found.0 (found.1 ++ found.2)),
      record { index = subst (λ x. IsSomeAnd (slice_get (front ++ end_of whole ∷ []) i) (λ t. t.index ≡ byte_len x)) same found.4.index },
      record { index = subst (λ x. IsSomeAnd (slice_get (front ++ end_of whole ∷ []) j) (λ t. t.index ≡ byte_len (x ++ found.1))) same found.5.index },
    )

index_at : (tokens : List TokenView) (i n : ℕ) (front : List ℕ) → byte_len front ≡ n → BeginsAfter tokens i front → IsSomeAnd (slice_get tokens i) (λ token. token.index ≡ n)
index_at tokens i n front e h = subst (λ m. IsSomeAnd (slice_get tokens i) (λ token. token.index ≡ m)) e h.index

-- The text between two lenient tokens exists.
pub text_between : (text : List ℕ) (tokens : List TokenView) (from until : ℕ) → AreLenientTokens text tokens → from ≤ until → until < length tokens → (between : List ℕ) × IsTextBetween text tokens from until between
text_between text tokens from until h le within =
    let inside : until < length (h.front ++ end_of text ∷ []) = subst (λ (ts : List TokenView). until < length ts) h.all within in
    let found = fronts_of text [] text h.front from until refl h.cut le inside in (
      found.1,
      subst (λ ts. IsTextBetween text ts from until found.1) (sym h.all) (record {
        front = found.0;
        rest = found.2;
        cut = found.3 ∙ sym (append_assoc found.0 found.1 found.2);
        begins = found.4.index;
        ends = index_at _ until _ (found.0 ++ found.1) (byte_len-append found.0 found.1) found.5;
      }),
    )

-- ---- bytes

scalar_parts : (xs ys : List ℕ) → scalars (xs ++ ys) ≡ true → (scalars xs ≡ true) × (scalars ys ≡ true)
scalar_parts [] ys h = (refl, h)
scalar_parts (x ∷ xs) ys h =
    let parts = and_parts _ _ h in
    let rest = scalar_parts xs ys parts.1 in
    (and_from _ _ parts.0 rest.0, rest.1)

-- A part of a text, in bytes.
pub record IsByteCut (bytes front between rest : List ℕ) : Type 0 where
  pub cut : bytes ≡ encode_utf8_all front ++ (encode_utf8_all between ++ encode_utf8_all rest)
  pub utf8 : IsUtf8 (encode_utf8_all between ++ encode_utf8_all rest)
  pub utf8_rest : IsUtf8 (encode_utf8_all rest)
  pub characters : chars (encode_utf8_all between) ≡ between

pub byte_cut : (bytes front between rest : List ℕ) → IsUtf8 bytes → chars bytes ≡ front ++ (between ++ rest) → IsByteCut bytes front between rest
byte_cut bytes front between rest u e =
    let cs : u.0 ≡ front ++ (between ++ rest) = sym (chars-encodes u.0 u.1.0) ∙ ap chars u.1.1 ∙ e in
    let ok = scalar_parts front (between ++ rest) (ap scalars (sym cs) ∙ u.1.0) in
    let ok_more = scalar_parts between rest ok.1 in
    record {
      cut = sym (encodes-chars bytes u) ∙ ap encode_utf8_all e ∙ encodes-append front (between ++ rest) ∙ ap (λ x. encode_utf8_all front ++ x) (encodes-append between rest);
      utf8 = (between ++ rest, (ok.1, encodes-append between rest));
      utf8_rest = (rest, (ok_more.1, refl));
      characters = chars-encodes between ok_more.0;
    }

-- The middle of three lists by its bounds.
pub middle : (xs ys zs : List ℕ) (i j : ℕ) → i ≡ length xs → j ≡ length xs + length ys → slice_range (xs ++ (ys ++ zs)) i j ≡ ys
middle xs ys zs i j e f =
    let n : j - i ≡ length ys = omega arith in
    ap (λ k. take k (drop i (xs ++ (ys ++ zs)))) n
    ∙ ap (λ k. take (length ys) (drop k (xs ++ (ys ++ zs)))) e
    ∙ ap (take (length ys)) (drop_seam xs (ys ++ zs))
    ∙ take-append_seam ys zs
  where
    drop_seam : (us vs : List ℕ) → drop (length us) (us ++ vs) ≡ vs
    drop_seam [] vs = refl
    drop_seam (u ∷ us) vs = drop_seam us vs

-- The premises and the result of a slice of the text between two byte indexes.
pub record IsStretch (bytes : List ℕ) (i j : ℕ) (between : List ℕ) : Type 0 where
  pub order : i ≤ j
  pub start : IsCharBoundary bytes i
  pub end : IsCharBoundary bytes j
  pub characters : chars (slice_range bytes i j) ≡ between

index_of : (tokens : List TokenView) (i n : ℕ) (token : TokenView) → slice_get tokens i ≡ Some token → IsSomeAnd (slice_get tokens i) (λ t. t.index ≡ n) → token.index ≡ n
index_of tokens i n token is h = rw is at h

pub stretch_of : (bytes : List ℕ) (tokens : List TokenView) (from until : ℕ) (first last : TokenView) (between : List ℕ) → IsUtf8 bytes → IsTextBetween (chars bytes) tokens from until between → slice_get tokens from ≡ Some first → slice_get tokens until ≡ Some last → IsStretch bytes first.index last.index between
unfolding byte_len
stretch_of bytes tokens from until first last between utf8 h first_is last_is =
    let cut = byte_cut bytes h.front between h.rest utf8 (h.cut ∙ append_assoc h.front between h.rest) in
    let i : first.index ≡ length (encode_utf8_all h.front) = index_of tokens from _ first first_is h.begins in
    let j : last.index ≡ length (encode_utf8_all h.front) + length (encode_utf8_all between) = index_of tokens until _ last last_is h.ends in
    let n = length-append (encode_utf8_all h.front) (encode_utf8_all between) in
    let k : length (encode_utf8_all h.front ++ encode_utf8_all between) ≡ last.index = omega arith in
    record {
      order = omega arith;
      start = subst (IsCharBoundary bytes) (sym i) (IsCharBoundary-at_seam bytes (encode_utf8_all h.front) _ cut.cut cut.utf8);
      end = subst (IsCharBoundary bytes) k (IsCharBoundary-at_seam bytes (encode_utf8_all h.front ++ encode_utf8_all between) (encode_utf8_all h.rest) (cut.cut ∙ sym (append_assoc (encode_utf8_all h.front) (encode_utf8_all between) (encode_utf8_all h.rest))) cut.utf8_rest);
      characters = ap (λ xs. chars (slice_range xs first.index last.index)) cut.cut ∙ ap chars (middle (encode_utf8_all h.front) (encode_utf8_all between) (encode_utf8_all h.rest) first.index last.index i j) ∙ cut.characters;
    }

-- The text between two tokens of a source, as the code reads them.
pub source_stretch : (source : Source) (from until : ℕ) → IsUtf8 source.input.now → IsSource source → from ≤ until → until < length source.tokens.now → (between : List ℕ) × IsTextBetween (text_of_source source) (tokens_of source) from until between × IsStretch source.input.now (get_or source.tokens.now from no_token).index (get_or source.tokens.now until no_token).index between
source_stretch source from until utf8 is_source le within =
    let size = length-map source.tokens.now token_view in
    let found = text_between (text_of_source source) (tokens_of source) from until is_source le (omega arith) in (
      found.0,
      found.1,
      stretch_of source.input.now (tokens_of source) from until (token_view (get_or source.tokens.now from no_token)) (token_view (get_or source.tokens.now until no_token)) found.0 utf8 found.1
          (view_read source.tokens.now from no_token (omega arith)) (view_read source.tokens.now until no_token within),
    )

-- A source has as many tokens as the code counts.
pub tokens_len : (source : Source) → length (tokens_of source) ≡ length source.tokens.now
tokens_len source = length-map source.tokens.now token_view

-- The tokens of a source end with End.
pub source_closed : (source : Source) → IsSource source → IsClosed (tokens_of source)
source_closed source h = are_closed (text_of_source source) (tokens_of source) h

-- The token at which a part of the text begins, as the code reads it.
pub begins_at : (source : Source) (from until : ℕ) (between : List ℕ) → from < length source.tokens.now → (is : IsTextBetween (text_of_source source) (tokens_of source) from until between) → (get_or source.tokens.now from no_token).index ≡ byte_len is.front
begins_at source from until between within is =
    index_of (tokens_of source) from (byte_len is.front) (token_view (get_or source.tokens.now from no_token)) (view_read source.tokens.now from no_token within) is.begins
