-- A text has one outcome, a reading or a rejection.
use Rattle.std.proofs.Common.{◌≡◌, ℕ, List, [], ◌∷◌, sym, ap, ◌∙◌, subst, inl, inr}
use Rattle.std.specs.Prelude.{Ok, Err}
use Rattle.urlpattern_meaning.proofs.PiecesUnique.{pieces_one}
use Rattle.urlpattern_meaning.proofs.TokensUnique.{fault_one, tokens_one, tokens_or_fault}
use Rattle.urlpattern_syntax.specs.Errors.{ErrorView, ErrorView as views}
use Rattle.urlpattern_meaning.specs.Laws.{ReturnsOnce}
use Rattle.urlpattern_syntax.specs.Options.{OptionsView}
use Rattle.urlpattern_syntax.specs.Parts.{PartView, fixed_text}
use Rattle.urlpattern_syntax.specs.Pieces.{ArePieces, Ending, Piece, Ending as endings}
use Rattle.urlpattern_syntax.specs.Reading.{AreMet, AreParts, Capture, Demand, Encode, Encoding, Expect, Fails, FailsDemand, FirstFails, Fixed, IsMet, Item, NewName, Reads, Rejects, capture_part, demands, items_of}
use Rattle.urlpattern_syntax.specs.Tokens.{AreTokens, TokenView}

module _ (options : OptionsView) (encoding : Encoding) (once : ReturnsOnce encoding) where
  answer_one : (text answer other : List ℕ) → encoding text (Ok answer) → encoding text (Ok other) → answer ≡ other
  answer_one text answer other h g = let e : Ok answer ≡ Ok other = once text (Ok answer) (Ok other) h g in cc e

  parts_one : (items : List Item) (parts others : List PartView) → AreParts options encoding items parts → AreParts options encoding items others → parts ≡ others
  parts_one [] parts others h g = h ∙ sym g
  parts_one (Fixed [] modifier ∷ items) parts others h g = parts_one items parts others h g
  parts_one (Fixed (c ∷ text) modifier ∷ items) parts others h g =
      h.2 ∙ ap (λ x. fixed_text x modifier ∷ h.1) (answer_one (c ∷ text) h.0 g.0 h.3 g.3)
      ∙ ap (λ x. fixed_text g.0 modifier ∷ x) (parts_one items h.1 g.1 h.4 g.4) ∙ sym g.2
  parts_one (Capture prefix name match suffix modifier ∷ items) parts others h g =
      h.3 ∙ ap (λ x. capture_part options x name match h.1 modifier ∷ h.2) (answer_one prefix h.0 g.0 h.4 g.4)
      ∙ ap (λ x. capture_part options g.0 name match x modifier ∷ h.2) (answer_one suffix h.1 g.1 h.5 g.5)
      ∙ ap (λ x. capture_part options g.0 name match g.1 modifier ∷ x) (parts_one items h.2 g.2 h.6 g.6) ∙ sym g.3

  met_or_fails : (demand : Demand) (error : ErrorView) → IsMet encoding demand → Fails encoding demand error → ⊥
  met_or_fails (Encode text) error m f = let e : Ok m.0 ≡ Err error = once text (Ok m.0) (Err error) m.1 f in cc e
  met_or_fails (NewName earlier name) error m f = m f.0
  met_or_fails (Expect kind token) error m f = f.0 m

  failure_one : (demand : Demand) (error other : ErrorView) → Fails encoding demand error → Fails encoding demand other → error ≡ other
  failure_one (Encode text) error other h g = let e : Err error ≡ Err other = once text (Err error) (Err other) h g in cc e
  failure_one (NewName earlier name) error other h g = h.1 ∙ sym g.1
  failure_one (Expect kind token) error other h g = h.1 ∙ sym g.1

  first_one : (all : List Demand) (error other : ErrorView) → FirstFails encoding all error → FirstFails encoding all other → error ≡ other
  first_one [] error other h g = absurd h
  first_one (demand ∷ rest) error other (inl h) (inl g) = failure_one demand error other h g
  first_one (demand ∷ rest) error other (inl h) (inr g) = absurd (met_or_fails demand error g.0 h)
  first_one (demand ∷ rest) error other (inr h) (inl g) = absurd (met_or_fails demand other h.0 g)
  first_one (demand ∷ rest) error other (inr h) (inr g) = first_one rest error other h.1 g.1

  all_or_first : (all : List Demand) (error : ErrorView) → AreMet encoding all → FirstFails encoding all error → ⊥
  all_or_first [] error m f = f
  all_or_first (demand ∷ rest) error m (inl f) = met_or_fails demand error m.0 f
  all_or_first (demand ∷ rest) error m (inr f) = all_or_first rest error m.1 f.1

-- A text has at most one list of pieces, with one ending.
pub text_pieces_one : (text point : List ℕ) (tokens others : List TokenView) (pieces more : List Piece) (ending other : Ending) → AreTokens text tokens → AreTokens text others → ArePieces point tokens pieces ending → ArePieces point others more other → (pieces ≡ more) × (ending ≡ other)
text_pieces_one text point tokens others pieces more ending other h g p q =
    pieces_one point others pieces more ending other (subst (λ x. ArePieces point x pieces ending) (tokens_one text tokens others h g) p) q

module _ (text : List ℕ) (options : OptionsView) (encoding : Encoding) where
  pub reading_one : (parts others : List PartView) → ReturnsOnce encoding → Reads text options encoding parts → Reads text options encoding others → parts ≡ others
  reading_one parts others once h g =
      let e = text_pieces_one text options.prefix h.tokens g.tokens h.pieces g.pieces (endings.Stops h.found) (endings.Stops g.found) h.are_tokens g.are_tokens h.are_pieces g.are_pieces in
      parts_one options encoding once (items_of g.pieces) parts others (subst (λ x. AreParts options encoding (items_of x) parts) e.0 h.are_parts) g.are_parts

  demand_one : (error other : ErrorView) → ReturnsOnce encoding → FailsDemand text options encoding error → FailsDemand text options encoding other → error ≡ other
  demand_one error other once h g =
      let e = text_pieces_one text options.prefix h.tokens g.tokens h.pieces g.pieces h.ending g.ending h.are_tokens g.are_tokens h.are_pieces g.are_pieces in
      first_one options encoding once (demands (items_of g.pieces) g.ending) error other
      (subst (λ x. FirstFails encoding (demands (items_of g.pieces) x) error) e.1 (subst (λ x. FirstFails encoding (demands (items_of x) h.ending) error) e.0 h.fails)) g.fails

  pub refusal_one : (error other : ErrorView) → ReturnsOnce encoding → Rejects text options encoding error → Rejects text options encoding other → error ≡ other
  refusal_one error other once (inl h) (inl g) =
      let e = fault_one text h.0 g.0 h.1 g.1 h.2 g.2 in
      h.3 ∙ ap (λ x. views.Tokenizer x h.1) e.0 ∙ ap (λ x. views.Tokenizer g.0 x) e.1 ∙ sym g.3
  refusal_one error other once (inl h) (inr g) = absurd (tokens_or_fault text g.tokens h.0 h.1 g.are_tokens h.2)
  refusal_one error other once (inr h) (inl g) = absurd (tokens_or_fault text h.tokens g.0 g.1 h.are_tokens g.2)
  refusal_one error other once (inr h) (inr g) = demand_one error other once h g

  pub reading_or_refusal : (parts : List PartView) (error : ErrorView) → ReturnsOnce encoding → Reads text options encoding parts → Rejects text options encoding error → ⊥
  reading_or_refusal parts error once h (inl g) = tokens_or_fault text h.tokens g.0 g.1 h.are_tokens g.2
  reading_or_refusal parts error once h (inr g) =
      let e = text_pieces_one text options.prefix g.tokens h.tokens g.pieces h.pieces g.ending (endings.Stops h.found) g.are_tokens h.are_tokens g.are_pieces h.are_pieces in
      all_or_first options encoding once (demands (items_of h.pieces) (endings.Stops h.found)) error h.are_met
      (subst (λ x. FirstFails encoding (demands (items_of h.pieces) x) error) e.1 (subst (λ x. FirstFails encoding (demands (items_of x) g.ending) error) e.0 g.fails))
