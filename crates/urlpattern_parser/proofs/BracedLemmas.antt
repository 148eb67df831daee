-- Lemmas on a group that is read token by token, up to the place of its closing brace.
use Rattle.std.proofs.Common.{◌≡◌, ◌≢◌, List, ℕ, false, ◌∷◌, ◌++◌, inl, inr, ap, ◌∙◌, sym, subst}
use Rattle.urlpattern_syntax.specs.declared.parser.PartModifier.{PartModifier}
use Rattle.urlpattern_parser.specs.declared.parser.pieces.Reader.{Reader}
use Rattle.urlpattern_syntax.specs.declared.tokenizer.TokenType.TheVariants.{Close, Open}
use Rattle.urlpattern_syntax.specs.Parsing.{BeginsWithClose, BeginsWithPiece, BeginsWithPlaceholder, BeginsWithTexts, HasEndingAt}
use Rattle.urlpattern_parser.specs.Readers.{Consumes}
use Rattle.urlpattern_syntax.specs.Pieces.{BeginsWithKind, IsFilled, Placeholder, is_placeholder, is_text, Ending as endings, Piece as pieces}
use Rattle.urlpattern_syntax.specs.Tokens.{TokenView, token_view}
use Rattle.urlpattern_syntax.proofs.PieceLemmas.{filled, filled_cut, filled_group, not_first, open_ending, text_group}
use Rattle.urlpattern_parser.proofs.ReaderLemmas.{takes_then}

-- The tokens begin with this opening brace and texts.
abbrev pub BeginsWithFront : (opening : TokenView) → (before : List ℕ) → (tokens rest : List TokenView) → Type 0
BeginsWithFront opening before tokens rest =
    (behind : List TokenView) × (tokens ≡ opening ∷ behind) × BeginsWithTexts behind before rest

-- The tokens begin with this opening brace and a placeholder between texts, up to the rest.
pub record BeginsWithInner (opening : TokenView) (before : List ℕ) (placeholder : Placeholder) (after : List ℕ) (tokens rest : List TokenView) : Type 0 where
  pub inner : List TokenView
  pub behind : List TokenView
  pub first : tokens ≡ opening ∷ behind
  pub cut : behind ≡ inner ++ rest
  pub is_filled : IsFilled inner before placeholder after rest
  pub all : ¬ BeginsWithKind is_text rest

pub takes_front : (a b c : Reader) (opening : TokenView) (before : List ℕ) → Consumes a b (λ tokens rest. tokens ≡ opening ∷ rest) → Consumes b c (λ tokens rest. BeginsWithTexts tokens before rest) →
    Consumes a c (BeginsWithFront opening before)
takes_front a b c opening before brace texts =
    takes_then a b c (λ tokens rest. tokens ≡ opening ∷ rest) (λ tokens rest. BeginsWithTexts tokens before rest) (BeginsWithFront opening before) brace texts
    (λ x y z gx gy gz p q. (y, p, q))

pub takes_inner : (a b c d : Reader) (opening : TokenView) (before : List ℕ) (placeholder : Placeholder) (after : List ℕ) → Consumes a b (BeginsWithFront opening before) →
    Consumes b c (λ tokens rest. BeginsWithPlaceholder tokens placeholder rest) → Consumes c d (λ tokens rest. BeginsWithTexts tokens after rest) → Consumes a d (BeginsWithInner opening before placeholder after)
takes_inner a b c d opening before placeholder after front middle back =
    let Half : List TokenView → List TokenView → Type 0 = λ tokens rest. (behind others : List TokenView) × (tokens ≡ opening ∷ behind) × BeginsWithTexts behind before others × BeginsWithPlaceholder others placeholder rest in
    let half : Consumes a c Half =
    takes_then a b c (BeginsWithFront opening before) (λ tokens rest. BeginsWithPlaceholder tokens placeholder rest) Half front middle
    (λ x y z gx gy gz p q. (p.0, y, p.1, p.2, q)) in
    takes_then a c d Half (λ tokens rest. BeginsWithTexts tokens after rest) (BeginsWithInner opening before placeholder after) half back
    (λ x y z gx gy gz p q. record {
      inner = p.3.front ++ p.4.front ++ q.front;
      behind = p.0;
      first = p.2;
      cut = filled_cut p.0 p.1 y z before after placeholder p.3 p.4 q;
      is_filled = filled p.0 p.1 y z before after placeholder p.3 p.4 q;
      all = q.all;
    })

-- ---- the four ends of a group

-- Texts in braces, and a modifier.
pub takes_text_group : (old mid new : Reader) (before : List ℕ) (modifier : PartModifier) → old.token.kind ≡ Open →
    Consumes old mid (BeginsWithFront (token_view old.token) before) → Consumes mid new (λ tokens rest. BeginsWithClose tokens modifier rest) →
    Consumes old new (λ tokens rest. (point : List ℕ) → BeginsWithPiece point tokens (pieces.TextGroup before modifier) rest)
takes_text_group old mid new before modifier is_open front closes =
    takes_then old mid new (BeginsWithFront (token_view old.token) before) (λ tokens rest. BeginsWithClose tokens modifier rest)
    (λ tokens rest. (point : List ℕ) → BeginsWithPiece point tokens (pieces.TextGroup before modifier) rest) front closes
    (λ x y z gx gy gz p q point. subst (λ w. BeginsWithPiece point w (pieces.TextGroup before modifier) z) (sym p.1)
    (text_group (token_view old.token) p.2.front p.0 y z modifier is_open p.2.cut q point before p.2.are_texts))

-- Texts after a brace that is not closed.
pub takes_open_texts : (old mid new : Reader) (before : List ℕ) → old.token.kind ≡ Open → is_placeholder mid.token.kind ≡ false → new.token.kind ≢ Close →
    Consumes old mid (BeginsWithFront (token_view old.token) before) → Consumes mid new (λ tokens rest. tokens ≡ rest) →
    Consumes old new (λ tokens rest. List ℕ → HasEndingAt tokens endings.LacksClose rest)
takes_open_texts old mid new before is_open none other front lacks =
    takes_then old mid new (BeginsWithFront (token_view old.token) before) (λ tokens rest. tokens ≡ rest)
    (λ tokens rest. List ℕ → HasEndingAt tokens endings.LacksClose rest) front lacks
    (λ x y z gx gy gz p q point. subst (λ w. HasEndingAt w endings.LacksClose z) (sym p.1)
    (open_ending (token_view old.token) p.2.front p.0 z gz.more (token_view new.token) is_open (p.2.cut ∙ ap (λ w. p.2.front ++ w) q) gz.first (
      subst (λ w. ¬ BeginsWithKind is_text w) q p.2.all,
      inl (
        before,
        p.2.are_texts,
        subst (λ w. ¬ BeginsWithKind is_placeholder w) q (not_first is_placeholder (token_view mid.token) gy.more y gy.first none),
      ),
    )
    other))

-- A placeholder between texts in braces, and a modifier.
pub takes_filled_group : (old mid new : Reader) (before : List ℕ) (placeholder : Placeholder) (after : List ℕ) (modifier : PartModifier) → old.token.kind ≡ Open →
    Consumes old mid (BeginsWithInner (token_view old.token) before placeholder after) → Consumes mid new (λ tokens rest. BeginsWithClose tokens modifier rest) →
    Consumes old new (λ tokens rest. (point : List ℕ) → BeginsWithPiece point tokens (pieces.Group before placeholder after modifier) rest)
takes_filled_group old mid new before placeholder after modifier is_open inner closes =
    let Piece : List TokenView → List TokenView → Type 0 = λ tokens rest. (point : List ℕ) → BeginsWithPiece point tokens (pieces.Group before placeholder after modifier) rest in
    takes_then old mid new (BeginsWithInner (token_view old.token) before placeholder after) (λ tokens rest. BeginsWithClose tokens modifier rest) Piece inner closes
    (λ x y z gx gy gz p q point. subst (λ w. BeginsWithPiece point w (pieces.Group before placeholder after modifier) z) (sym p.first)
    (filled_group (token_view old.token) p.inner p.behind y z modifier is_open p.cut q point before after placeholder (subst (IsFilled p.inner before placeholder after) q.cut p.is_filled)))

-- A placeholder between texts after a brace that is not closed.
pub takes_open_filled : (old mid new : Reader) (before : List ℕ) (placeholder : Placeholder) (after : List ℕ) → old.token.kind ≡ Open → new.token.kind ≢ Close →
    Consumes old mid (BeginsWithInner (token_view old.token) before placeholder after) → Consumes mid new (λ tokens rest. tokens ≡ rest) →
    Consumes old new (λ tokens rest. List ℕ → HasEndingAt tokens endings.LacksClose rest)
takes_open_filled old mid new before placeholder after is_open other inner lacks =
    takes_then old mid new (BeginsWithInner (token_view old.token) before placeholder after) (λ tokens rest. tokens ≡ rest)
    (λ tokens rest. List ℕ → HasEndingAt tokens endings.LacksClose rest) inner lacks
    (λ x y z gx gy gz p q point. subst (λ w. HasEndingAt w endings.LacksClose z) (sym p.first)
    (open_ending (token_view old.token) p.inner p.behind z gz.more (token_view new.token) is_open (p.cut ∙ ap (λ w. p.inner ++ w) q) gz.first (
      subst (λ w. ¬ BeginsWithKind is_text w) q p.all,
      inr (before, after, placeholder, subst (IsFilled p.inner before placeholder after) q p.is_filled),
    )
    other))
