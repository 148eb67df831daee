-- Each list of tokens has pieces, up to where they end.
use Rattle.std.proofs.Common.{◌≡◌, ◌≢◌, ℕ, suc, zero, ◌≤◌, Bool, true, false, List, [], ◌∷◌, ◌++◌, length, Option, Some, None, refl, sym, ap, ◌∙◌, subst, inl, inr, append_assoc, arith, length-append}
use Rattle.std.specs.Prelude.{codes, IsTrue}
use Rattle.std.specs.List.{list_all}
use Rattle.std.specs.Str.{bytes_eq}
use Rattle.std.proofs.lemmas.Bool.{both_ways, false≢true, and_from}
use Rattle.std.proofs.lemmas.Slice.Eq.{bytes_eq-Decides}
use Rattle.urlpattern_syntax.specs.declared.parser.PartModifier.{PartModifier}
use Rattle.urlpattern_syntax.specs.declared.parser.PartModifier.TheVariants as modifiers
use Rattle.urlpattern_syntax.specs.declared.tokenizer.TokenType.{TokenType}
use Rattle.urlpattern_syntax.specs.declared.tokenizer.TokenType.TheVariants.{Asterisk, Char, Close, End, EscapedChar, Name, Open, OtherModifier, Regexp}
use Rattle.urlpattern_syntax.proofs.TokenWords.{joined_values}
use Rattle.urlpattern_syntax.specs.Parsing.{BeginsWithPlaceholder, BeginsWithModifier, IsTokenList}
use Rattle.urlpattern_syntax.specs.Pieces.{Piece, Ending, Stops, LacksClose, Placeholder, PlaceholderKindView, ArePieces, IsPiece, IsEnding, IsBare, IsBraced, IsFilled, IsPrefixOf, IsPlaceholderOf, TakesPrefix, TakesRegexp, BeginsWithKind, is_text, is_placeholder, is_modifier, is_stop, PlaceholderKindView as matched, Piece as pieces}
use Rattle.urlpattern_syntax.specs.Tokens.{TokenView}
use Rattle.urlpattern_syntax.proofs.PieceLemmas.{IsTokenList-rest, IsTokenList-texts, bare_piece, named, named_regexp, narrower, one_or_more, open_texts, optional, unnamed_regexp, wildcard, zero_or_more}

-- ---- kinds

-- A test that holds of a known kind.
tested : (test : TokenType → Bool) (kind known : TokenType) → kind ≡ known → IsTrue (test known) → IsTrue (test kind)
tested test kind known e h = subst (λ k. IsTrue (test k)) (sym e) h

-- A test that fails for a known kind.
failed : (test : TokenType → Bool) (kind known : TokenType) → kind ≡ known → test known ≡ false → ¬ IsTrue (test kind)
failed test kind known e f h = both_ways (test known) f (subst (λ k. IsTrue (test k)) e h)

not_end : (kind : TokenType) → IsTrue (is_text kind) → kind ≢ End
not_end kind h e = false≢true (subst (λ k. is_text k ≡ true) e h)

-- ---- what tokens begin with

-- A modifier, if there is one, and the tokens after it.
record ModifierAt (tokens : List TokenView) : Type 0 where
  pub modifier : PartModifier
  pub rest : List TokenView
  pub begins : BeginsWithModifier tokens modifier rest

no_modifier : (tokens : List TokenView) → IsTokenList tokens → ¬ BeginsWithKind is_modifier tokens → ModifierAt tokens
no_modifier tokens h none = record {
  modifier = modifiers.None;
  rest = tokens;
  begins = record { front = []; cut = refl; is_modifier = refl; takes_modifier = none; closed = h };
}

modifier_at : (tokens : List TokenView) → IsTokenList tokens → ModifierAt tokens
modifier_at [] h = absurd h
modifier_at (token ∷ rest) h = by_kind token.kind refl
  where
    marked : (b : Bool) → bytes_eq token.value (codes "?") ≡ b → token.kind ≡ OtherModifier → ModifierAt (token ∷ rest)
    marked true v e = record {
      modifier = modifiers.Optional;
      rest = rest;
      begins = optional (token ∷ rest) rest token h refl e ((bytes_eq-Decides token.value (codes "?")).0 v);
    }
    marked false v e = record {
      modifier = modifiers.OneOrMore;
      rest = rest;
      begins = one_or_more (token ∷ rest) rest token h refl e (λ w. both_ways _ v ((bytes_eq-Decides token.value (codes "?")).1 w));
    }

    by_kind : (kind : TokenType) → token.kind ≡ kind → ModifierAt (token ∷ rest)
    by_kind OtherModifier e = marked (bytes_eq token.value (codes "?")) refl e
    by_kind Asterisk e = record { modifier = modifiers.ZeroOrMore; rest = rest; begins = zero_or_more (token ∷ rest) rest token h refl e }
    by_kind other e = no_modifier (token ∷ rest) h (failed is_modifier token.kind other e refl)

-- A placeholder, and the tokens after it.
record PlaceholderAt (tokens : List TokenView) : Type 0 where
  pub placeholder : Placeholder
  pub rest : List TokenView
  pub begins : BeginsWithPlaceholder tokens placeholder rest

name_at : (token : TokenView) (rest : List TokenView) → token.kind ≡ Name → PlaceholderAt (token ∷ rest)
name_at token [] e = record { placeholder = _; rest = []; begins = named (token ∷ []) [] token refl e (λ h. h) }
name_at token (next ∷ rest) e = by_kind next.kind refl
  where
    by_kind : (kind : TokenType) → next.kind ≡ kind → PlaceholderAt (token ∷ next ∷ rest)
    by_kind Regexp f = record {
      placeholder = _;
      rest = rest;
      begins = named_regexp (token ∷ next ∷ rest) (next ∷ rest) rest token next refl e refl f;
    }
    by_kind other f = record {
      placeholder = _;
      rest = next ∷ rest;
      begins = named (token ∷ next ∷ rest) (next ∷ rest) token refl e (λ g. cc (f, g));
    }

placeholder_at : (tokens : List TokenView) → BeginsWithKind is_placeholder tokens → PlaceholderAt tokens
placeholder_at [] h = absurd h
placeholder_at (token ∷ rest) h = by_kind token.kind refl
  where
    by_kind : (kind : TokenType) → token.kind ≡ kind → PlaceholderAt (token ∷ rest)
    by_kind Name e = name_at token rest e
    by_kind Regexp e = record { placeholder = _; rest = rest; begins = unnamed_regexp (token ∷ rest) rest token refl e }
    by_kind Asterisk e = record { placeholder = _; rest = rest; begins = wildcard (token ∷ rest) rest token refl e }
    by_kind other e = absurd (failed is_placeholder token.kind other e refl h)

-- All texts at the start, and the tokens after them.
record TextsAt (tokens : List TokenView) : Type 0 where
  pub front : List TokenView
  pub rest : List TokenView
  pub cut : tokens ≡ front ++ rest
  pub all : IsTrue (list_all (λ token. is_text token.kind) front)
  pub none : ¬ BeginsWithKind is_text rest

more_texts : (token : TokenView) (tokens : List TokenView) → IsTrue (is_text token.kind) → TextsAt tokens → TextsAt (token ∷ tokens)
more_texts token tokens h t = record {
  front = token ∷ t.front;
  rest = t.rest;
  cut = ap (λ x. token ∷ x) t.cut;
  all = and_from (is_text token.kind) (list_all (λ (t : TokenView). is_text t.kind) t.front) h t.all;
  none = t.none;
}

text_or_not : (token : TokenView) (tokens : List TokenView) (b : Bool) → is_text token.kind ≡ b → TextsAt tokens → TextsAt (token ∷ tokens)
text_or_not token tokens true e t = more_texts token tokens e t
text_or_not token tokens false e t = record { front = []; rest = token ∷ tokens; cut = refl; all = refl; none = both_ways (is_text token.kind) e }

texts_at : (tokens : List TokenView) → TextsAt tokens
texts_at [] = record { front = []; rest = []; cut = refl; all = refl; none = λ h. h }
texts_at (token ∷ tokens) = text_or_not token tokens (is_text token.kind) refl (texts_at tokens)

-- ---- a step

-- A piece with fewer tokens after it, or the end of the pieces.
data Step (point : List ℕ) (tokens : List TokenView) : Type 0 where
  ends : (ending : Ending) → IsEnding tokens ending → Step point tokens
  goes_on : (front rest : List TokenView) (piece : Piece) → tokens ≡ front ++ rest → IsPiece point front piece rest → IsTokenList rest → ¬ (front ≡ []) → Step point tokens

some_placeholder : (tokens : List TokenView) (name : Option (List ℕ)) (what : PlaceholderKindView) → IsPlaceholderOf tokens name what → ¬ (tokens ≡ [])
some_placeholder (token ∷ tokens) name what h e = cc e
some_placeholder [] (Some name) matched.Segment h e = cc (h.0)
some_placeholder [] (Some name) (matched.Custom body) h e = cc (h.0)
some_placeholder [] (Some name) matched.Anything h e = h
some_placeholder [] None matched.Segment h e = h
some_placeholder [] None (matched.Custom body) h e = cc (h.0)
some_placeholder [] None matched.Anything h e = cc h

no_front : (front middle back : List TokenView) → front ++ middle ++ back ≡ [] → middle ≡ []
no_front [] [] back e = refl
no_front [] (token ∷ middle) back e = absurd (cc e)
no_front (token ∷ front) middle back e = absurd (cc e)

some_bare : (point prefix : List ℕ) (tokens rest : List TokenView) (placeholder : Placeholder) (modifier : PartModifier) → IsBare point tokens prefix placeholder modifier rest → ¬ (tokens ≡ [])
some_bare point prefix tokens rest placeholder modifier b e =
    some_placeholder b.middle placeholder.name placeholder.matched b.is_placeholder (no_front b.front b.middle b.back (sym b.cut ∙ e))

bare_step : (point prefix : List ℕ) (before tokens : List TokenView) → IsPrefixOf point before prefix → IsTokenList tokens → PlaceholderAt tokens → Step point (before ++ tokens)
bare_step point prefix before tokens is_prefix h found = with_modifier (modifier_at found.rest (found.begins.closed h))
  where
    with_modifier : ModifierAt found.rest → Step point (before ++ tokens)
    with_modifier m =
        let begins = bare_piece point before tokens found.rest m.rest prefix found.placeholder m.modifier is_prefix found.begins m.begins in
        goes_on begins.0 m.rest (pieces.Bare prefix found.placeholder m.modifier) begins.1 begins.2 m.begins.closed
        (some_bare point prefix begins.0 m.rest found.placeholder m.modifier begins.2)

text_step : (point : List ℕ) (token : TokenView) (rest : List TokenView) → IsTrue (is_text token.kind) → TakesPrefix point token rest → IsTokenList (token ∷ rest) → Step point (token ∷ rest)
text_step point token rest text alone h =
    goes_on (token ∷ []) rest (pieces.Text token.value) refl (token, refl, text, refl, alone)
    (IsTokenList-rest token rest h (not_end token.kind text)) (λ e. cc e)

char_step : (point : List ℕ) (token : TokenView) (rest : List TokenView) → token.kind ≡ Char → IsTokenList (token ∷ rest) → Step point (token ∷ rest)
char_step point token [] e h = absurd (cc (e, h))
char_step point token (next ∷ rest) e h = before_placeholder (is_placeholder next.kind) refl
  where
    text : IsTrue (is_text token.kind)
    text = tested is_text token.kind Char e refl

    is_point : (b : Bool) → bytes_eq token.value point ≡ b → IsTrue (is_placeholder next.kind) → Step point (token ∷ next ∷ rest)
    is_point true v g =
        bare_step point token.value (token ∷ []) (next ∷ rest)
        (inr (ap (λ kind. kind ∷ []) e, refl, (bytes_eq-Decides token.value point).0 v))
        (IsTokenList-rest token (next ∷ rest) h (not_end token.kind text)) (placeholder_at (next ∷ rest) g)
    is_point false v g = text_step point token (next ∷ rest) text (λ k w. absurd (both_ways _ v ((bytes_eq-Decides token.value point).1 w))) h

    before_placeholder : (b : Bool) → is_placeholder next.kind ≡ b → Step point (token ∷ next ∷ rest)
    before_placeholder true g = is_point (bytes_eq token.value point) refl g
    before_placeholder false g = text_step point token (next ∷ rest) text (λ k w. both_ways (is_placeholder next.kind) g) h

-- ---- groups

-- Braces, with the piece that they make of their content.
group_step : (point : List ℕ) (opening closing : TokenView) (inner behind : List TokenView) (piece : PartModifier → Piece) → opening.kind ≡ Open → closing.kind ≡ Close →
    ((tokens rest : List TokenView) (modifier : PartModifier) → (braces : IsBraced tokens inner modifier rest) → braces.closing ≡ closing → IsPiece point tokens (piece modifier) rest) →
    IsTokenList behind → Step point (opening ∷ inner ++ closing ∷ behind)
group_step point opening closing inner behind piece k l is h = with_modifier (modifier_at behind h)
  where
    with_modifier : ModifierAt behind → Step point (opening ∷ inner ++ closing ∷ behind)
    with_modifier m =
        let q = m.begins in
        goes_on (opening ∷ inner ++ closing ∷ q.front) m.rest (piece m.modifier)
        (ap (λ x. opening ∷ inner ++ closing ∷ x) q.cut ∙ ap (λ x. opening ∷ x) (sym (append_assoc inner (closing ∷ q.front) m.rest)))
        (is (opening ∷ inner ++ closing ∷ q.front) m.rest m.modifier (record {
          opening = opening;
          closing = closing;
          back = q.front;
          cut = refl;
          is_open = k;
          is_close = l;
          is_modifier = q.is_modifier;
          takes_modifier = q.takes_modifier;
        }) refl)
        q.closed (λ e. cc e)

-- The step after the texts that follow the placeholder of a group.
filled_step : (point : List ℕ) (opening : TokenView) (inner : List TokenView) (before after : List ℕ) (placeholder : Placeholder) (rest : List TokenView) → opening.kind ≡ Open → IsFilled inner before placeholder after rest → ¬ BeginsWithKind is_text rest → IsTokenList rest → Step point (opening ∷ inner ++ rest)
filled_step point opening inner before after placeholder [] k f none h = absurd h
filled_step point opening inner before after placeholder (found ∷ behind) k f none h = by_kind found.kind refl
  where
    by_kind : (kind : TokenType) → found.kind ≡ kind → Step point (opening ∷ inner ++ found ∷ behind)
    by_kind Close e =
        group_step point opening found inner behind (λ modifier. pieces.Group before placeholder after modifier) k e
        (λ tokens rest modifier braces same.
        (inner, braces, subst (λ closing. IsFilled inner before placeholder after (closing ∷ [])) (sym same) (narrower inner before after behind found placeholder f)))
        (IsTokenList-rest found behind h (λ g. cc (e, g)))
    by_kind other e = ends (LacksClose found) (opening, inner, behind, refl, k, (none, inr (before, after, placeholder, f)), λ g. cc (e, g))

-- The step after the placeholder of a group.
placeholder_step : (point : List ℕ) (opening : TokenView) (before tokens : List TokenView) → opening.kind ≡ Open → IsTrue (list_all (λ token. is_text token.kind) before) → IsTokenList tokens → (found : PlaceholderAt tokens) → TextsAt found.rest → Step point (opening ∷ before ++ tokens)
placeholder_step point opening before tokens k all h found t =
    let p = found.begins in
    let fills : IsFilled (before ++ p.front ++ t.front) (joined_values before) found.placeholder (joined_values t.front) t.rest = record {
      front = before;
      middle = p.front;
      back = t.front;
      cut = refl;
      are_texts_before = (all, refl);
      is_placeholder = p.is_placeholder;
      takes_regexp = subst (TakesRegexp found.placeholder.matched) t.cut p.takes_regexp;
      are_texts_after = (t.all, refl);
    } in
    subst (λ x. Step point (opening ∷ x))
    (append_assoc (before ++ p.front) t.front t.rest ∙ ap (λ x. before ++ p.front ++ x) (sym t.cut)
    ∙ append_assoc before p.front found.rest ∙ ap (λ x. before ++ x) (sym p.cut))
    (filled_step point opening (before ++ p.front ++ t.front) (joined_values before) (joined_values t.front) found.placeholder t.rest k fills t.none
    (IsTokenList-texts t.front t.rest t.all (subst IsTokenList t.cut (p.closed h))))

-- The step after the texts at the start of a group.
open_step : (point : List ℕ) (opening : TokenView) (inner rest : List TokenView) → opening.kind ≡ Open → IsTrue (list_all (λ token. is_text token.kind) inner) → ¬ BeginsWithKind is_text rest → IsTokenList rest → Step point (opening ∷ inner ++ rest)
open_step point opening inner [] k all none h = absurd h
open_step point opening inner (found ∷ behind) k all none h = by_kind found.kind refl
  where
    to_placeholder : IsTrue (is_placeholder found.kind) → Step point (opening ∷ inner ++ found ∷ behind)
    to_placeholder g =
        let p = placeholder_at (found ∷ behind) g in
        placeholder_step point opening inner (found ∷ behind) k all h p (texts_at p.rest)

    by_kind : (kind : TokenType) → found.kind ≡ kind → Step point (opening ∷ inner ++ found ∷ behind)
    by_kind Close e =
        group_step point opening found inner behind (λ modifier. pieces.TextGroup (joined_values inner) modifier) k e
        (λ tokens rest modifier braces same. (inner, braces, (all, refl))) (IsTokenList-rest found behind h (λ g. cc (e, g)))
    by_kind Name e = to_placeholder (tested is_placeholder found.kind Name e refl)
    by_kind Regexp e = to_placeholder (tested is_placeholder found.kind Regexp e refl)
    by_kind Asterisk e = to_placeholder (tested is_placeholder found.kind Asterisk e refl)
    by_kind Char e = absurd (none (tested is_text found.kind Char e refl))
    by_kind EscapedChar e = absurd (none (tested is_text found.kind EscapedChar e refl))
    by_kind other e =
        ends (LacksClose found)
        (opening, inner, behind, refl, k, open_texts inner (found ∷ behind) (all, refl) none (failed is_placeholder found.kind other e refl), λ g. cc (e, g))

open_or_group : (point : List ℕ) (opening : TokenView) (tokens : List TokenView) → opening.kind ≡ Open → IsTokenList tokens → TextsAt tokens → Step point (opening ∷ tokens)
open_or_group point opening tokens k h t =
    subst (λ x. Step point (opening ∷ x)) (sym t.cut)
    (open_step point opening t.front t.rest k t.all t.none (IsTokenList-texts t.front t.rest t.all (subst IsTokenList t.cut h)))

step : (point : List ℕ) (tokens : List TokenView) → IsTokenList tokens → Step point tokens
step point [] h = absurd h
step point (token ∷ rest) h = by_kind token.kind refl
  where
    by_kind : (kind : TokenType) → token.kind ≡ kind → Step point (token ∷ rest)
    by_kind Char e = char_step point token rest e h
    by_kind EscapedChar e = text_step point token rest (tested is_text token.kind EscapedChar e refl) (λ k. absurd (cc (e, k))) h
    by_kind Name e = bare_step point [] [] (token ∷ rest) (inl (refl, refl)) h (placeholder_at (token ∷ rest) (tested is_placeholder token.kind Name e refl))
    by_kind Regexp e = bare_step point [] [] (token ∷ rest) (inl (refl, refl)) h (placeholder_at (token ∷ rest) (tested is_placeholder token.kind Regexp e refl))
    by_kind Asterisk e = bare_step point [] [] (token ∷ rest) (inl (refl, refl)) h (placeholder_at (token ∷ rest) (tested is_placeholder token.kind Asterisk e refl))
    by_kind Open e = open_or_group point token rest e (IsTokenList-rest token rest h (λ f. cc (e, f))) (texts_at rest)
    by_kind stop e = ends (Stops token) (rest, refl, tested is_stop token.kind stop e refl)

-- ---- all pieces

-- The pieces of a list of tokens, up to where they end.
record PiecesOf (point : List ℕ) (tokens : List TokenView) : Type 0 where
  pub pieces : List Piece
  pub ending : Ending
  pub are_pieces : ArePieces point tokens pieces ending

shorter : (tokens front rest : List TokenView) (n : ℕ) → tokens ≡ front ++ rest → ¬ (front ≡ []) → length tokens ≤ suc n → length rest ≤ n
shorter tokens [] rest n e some le = absurd (some refl)
shorter tokens (token ∷ front) rest n e some le =
    let l = ap length e in
    let m = length-append front rest in
    omega (arith, l, m, le)

exist_within : (n : ℕ) (point : List ℕ) (tokens : List TokenView) → length tokens ≤ n → IsTokenList tokens → PiecesOf point tokens
exist_within zero point [] le h = absurd h
exist_within zero point (token ∷ tokens) le h = absurd (omega arith)
exist_within (suc n) point tokens le h = elim (step point tokens h) [
  | ends ending is ↦ record { pieces = []; ending = ending; are_pieces = is }
  | goes_on front rest piece cut is closed some ↦
      let more = exist_within n point rest (shorter tokens front rest n cut some le) closed in
      record { pieces = piece ∷ more.pieces; ending = more.ending; are_pieces = (front, rest, cut, is, more.are_pieces) }
]

pub pieces_exist : (point : List ℕ) (tokens : List TokenView) → IsTokenList tokens → (pieces : List Piece) × (ending : Ending) × ArePieces point tokens pieces ending
pieces_exist point tokens h =
    let all = exist_within (length tokens) point tokens (omega arith) h in
    (all.pieces, all.ending, all.are_pieces)
