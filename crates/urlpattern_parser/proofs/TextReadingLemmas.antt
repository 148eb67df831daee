-- Lemmas on reading a text piece by piece, for any tokens that are left.
use Rattle.std.proofs.Common.{◌≡◌, ◌⊎◌, ℕ, List, [], ◌∷◌, ◌++◌, refl, sym, ap, ◌∙◌, subst, inl, inr}
use Rattle.urlpattern_syntax.specs.declared.error.Error.{Error}
use Rattle.urlpattern_syntax.specs.declared.error.Error.TheVariants as errors
use Rattle.std.specs.Str.{chars}
use Rattle.urlpattern_parser.specs.declared.parser.pieces.Next.{Next}
use Rattle.urlpattern_parser.specs.declared.parser.pieces.Reader.{Reader}
use Rattle.urlpattern_syntax.specs.declared.tokenizer.TokenType.TheVariants.{Close, End}
use Rattle.urlpattern_syntax.specs.Errors.{ErrorView, error_view, ErrorView as error_views}
use Rattle.urlpattern_syntax.specs.Options.{OptionsView}
use Rattle.urlpattern_syntax.proofs.TokenWords.{FailsTokens, ReadsTokens}
use Rattle.urlpattern_syntax.specs.Parsing.{AddsItem, AddsParts, BeginsWithPiece, BeginsWithRow, HasEndingAt, FailsItem, PartListView, pending_items}
use Rattle.urlpattern_syntax.specs.Errors.{MemoryOr}
use Rattle.urlpattern_parser.specs.Readers.{FaultOr, HasTokensLeft, IsNext, StartsText, Consumes, reader_text}
use Rattle.urlpattern_syntax.specs.Pieces.{IsEnding, Piece, Ending as endings}
use Rattle.urlpattern_syntax.specs.Reading.{Encoding, Expect, FirstFails, Reads, Rejects, fixed_text_demands, item, number_after}
use Rattle.urlpattern_syntax.specs.Tokens.{AreTokens, ReportsFault, TokenView, fault_view, token_view}
use Rattle.urlpattern_parser.proofs.PartListLemmas.{HasRead, fails_end, fails_open, fails_piece, nothing_read, reads_end, reads_piece, reads_row}
use Rattle.urlpattern_syntax.proofs.ReadingLemmas.{MemoryOr-weaker}

-- A fault that is reported is a rejection.
pub reports_refuses : (text : List ℕ) (options : OptionsView) (encoding : Encoding) (error : Error) → ReportsFault text error → MemoryOr (Rejects text options encoding) error
reports_refuses text options encoding (errors.Tokenizer fault place) h = inr (inl (fault_view fault, place, h, refl))
reports_refuses text options encoding errors.OutOfMemory h = inl refl
reports_refuses text options encoding errors.BaseUrlRequired h = absurd h
reports_refuses text options encoding errors.BaseUrlWithInit h = absurd h
reports_refuses text options encoding (errors.Parser error) h = absurd h
reports_refuses text options encoding (errors.Url error) h = absurd h
reports_refuses text options encoding (errors.RegExp error) h = absurd h

-- A demand of the tokens that fails is a rejection.
pub tokens_refuse : (text : List ℕ) (tokens : List TokenView) (options : OptionsView) (encoding : Encoding) (error : Error) → AreTokens text tokens → MemoryOr (FailsTokens tokens options encoding) error → MemoryOr (Rejects text options encoding) error
tokens_refuse text tokens options encoding error t h =
    MemoryOr-weaker (FailsTokens tokens options encoding) (Rejects text options encoding) error
    (λ view f. inr (record { tokens = tokens; pieces = f.pieces; ending = f.ending; are_tokens = t; are_pieces = f.are_pieces; fails = f.fails })) h

MemoryOr-same : (P : ErrorView → Type 0) (error other : Error) → error_view other ≡ error_view error → MemoryOr P error → MemoryOr P other
MemoryOr-same P error other e h = subst (λ view. (view ≡ error_views.OutOfMemory) ⊎ P view) (sym e) h

-- The token at which tokens end is the first that is left.
same_found : (reader : Reader) (rest : List TokenView) (found : TokenView) (more : List TokenView) → rest ≡ found ∷ more → HasTokensLeft reader rest → found ≡ token_view reader.token
same_found reader rest found more e g = let f = sym e ∙ g.first in cc f

-- For any tokens that are left, the list is what is read of the tokens before them.
abbrev pub HasReadUpTo : OptionsView → Encoding → (text : List ℕ) → Reader → PartListView → Type 0
HasReadUpTo options encoding text reader list =
    (rest : List TokenView) → HasTokensLeft reader rest → (tokens : List TokenView) × AreTokens text tokens × HasRead options encoding tokens rest list

-- Consuming tokens, with other names for the prefix code point and for the value that was written.
pub takes_as : (old new : Reader) (bytes point : List ℕ) (written next : Next) → chars bytes ≡ point → written ≡ next →
    Consumes old new (λ tokens rest. IsNext (chars bytes) tokens written rest) → Consumes old new (λ tokens rest. IsNext point tokens next rest)
takes_as old new bytes point written next e f h =
    subst (λ x. Consumes old new (λ tokens rest. IsNext point tokens x rest)) f
    (subst (λ x. Consumes old new (λ tokens rest. IsNext x tokens written rest)) e h)

module _ (options : OptionsView) (encoding : Encoding) (text : List ℕ) where
  pub nothing_read_yet : (reader : Reader) → StartsText text reader → HasReadUpTo options encoding text reader (record { parts = []; pending = []; number = 0 })
  nothing_read_yet reader s rest g = (rest, s.all rest g, nothing_read options encoding rest)

  module _ (old new : Reader) (list : PartListView) (read : HasReadUpTo options encoding text old list) where
    -- The next piece.
    pub piece_read : (piece : Piece) (next : PartListView) → Consumes old new (λ tokens rest. BeginsWithPiece options.prefix tokens piece rest) → next.number ≡ number_after list.number piece → AddsItem options encoding list (item list.number piece) next → HasReadUpTo options encoding text new next
    piece_read piece next takes number added rest g =
        let t = takes.gives rest g in
        let r = read t.0 t.1 in
        (r.0, r.1, reads_piece options encoding r.0 t.0 list r.2 t.2.0 rest piece t.2.1 t.2.2 next number added)

    -- The next row of characters.
    pub row_read : (characters : List ℕ) (next : PartListView) → Consumes old new (λ tokens rest. BeginsWithRow tokens characters rest) → next.parts ≡ list.parts → next.number ≡ list.number → next.pending ≡ list.pending ++ characters → HasReadUpTo options encoding text new next
    row_read characters next takes parts number pending rest g =
        let t = takes.gives rest g in
        let r = read t.0 t.1 in
        let row = t.2 in (
          r.0,
          r.1,
          reads_row options encoding r.0 row.row rest list next (subst (λ x. HasRead options encoding r.0 x list) row.cut r.2) row.are_texts.0 row.goes_on parts number
              (pending ∙ ap (λ x. list.pending ++ x) row.are_texts.1),
        )

    -- A piece that is not added.
    pub piece_fails : (piece : Piece) (error other : Error) → Consumes old new (λ tokens rest. BeginsWithPiece options.prefix tokens piece rest) → FailsItem encoding list (item list.number piece) error → reader_text old ≡ text → FaultOr new (λ view. view ≡ error_view error) other → MemoryOr (Rejects text options encoding) other
    piece_fails piece error other takes failed same (inl h) = reports_refuses text options encoding other (subst (λ x. ReportsFault x other) (ap chars takes.whole ∙ same) h)
    piece_fails piece error other takes failed same (inr (left, inl h)) = inl h
    piece_fails piece error other takes failed same (inr (left, inr h)) =
        let t = takes.gives left.0 left.1 in
        let r = read t.0 t.1 in
        MemoryOr-same (Rejects text options encoding) error other h
        (tokens_refuse text r.0 options encoding error r.1
        (fails_piece options encoding r.0 t.0 list r.2 t.2.0 left.0 piece t.2.1 t.2.2 error left.1.closed failed))

    -- A group without its closing brace.
    pub group_fails : (error : Error) → Consumes old new (λ tokens rest. HasEndingAt tokens endings.LacksClose rest) → (tokens : List TokenView) × HasTokensLeft new tokens → MemoryOr (λ view. view ≡ error_views.ExpectedToken Close (token_view new.token).kind (token_view new.token).value) error → MemoryOr (Rejects text options encoding) error
    group_fails error takes left h =
        let t = takes.gives left.0 left.1 in
        let r = read t.0 t.1 in
        let same = same_found new left.0 t.2.0 t.2.1 t.2.2 left.1 in
        tokens_refuse text r.0 options encoding error r.1
        (fails_open options encoding r.0 t.0 list r.2 (token_view new.token) error (subst (λ found. IsEnding t.0 (endings.LacksClose found)) same t.2.3) h)

    -- The end.
    pub end_read : (next : PartListView) → Consumes old new (λ tokens rest. HasEndingAt tokens endings.Stops rest) → (tokens : List TokenView) × HasTokensLeft new tokens → new.token.kind ≡ End → AddsParts options encoding list (pending_items list.pending) next → Reads text options encoding next.parts
    end_read next takes left is_end added =
        let t = takes.gives left.0 left.1 in
        let r = read t.0 t.1 in
        let same = same_found new left.0 t.2.0 t.2.1 t.2.2 left.1 in
        let reads : ReadsTokens r.0 options encoding next.parts =
        reads_end options encoding r.0 t.0 list r.2 (token_view new.token) next (subst (λ found. IsEnding t.0 (endings.Stops found)) same t.2.3) is_end added in
        record {
          tokens = r.0;
          pieces = reads.pieces;
          found = reads.found;
          are_tokens = r.1;
          are_pieces = reads.are_pieces;
          are_met = reads.are_met;
          are_parts = reads.are_parts;
        }

    pub end_fails : (error : Error) → Consumes old new (λ tokens rest. HasEndingAt tokens endings.Stops rest) → reader_text old ≡ text → FaultOr new (FirstFails encoding (fixed_text_demands list.pending ++ Expect End (token_view new.token) ∷ [])) error → MemoryOr (Rejects text options encoding) error
    end_fails error takes same (inl h) = reports_refuses text options encoding error (subst (λ x. ReportsFault x error) (ap chars takes.whole ∙ same) h)
    end_fails error takes same (inr (left, h)) =
        let t = takes.gives left.0 left.1 in
        let r = read t.0 t.1 in
        let is = same_found new left.0 t.2.0 t.2.1 t.2.2 left.1 in
        tokens_refuse text r.0 options encoding error r.1
        (fails_end options encoding r.0 t.0 list r.2 (token_view new.token) error (subst (λ found. IsEnding t.0 (endings.Stops found)) is t.2.3) h)

-- At the end no other token is left.
pub gives_end : (reader : Reader) → reader.token.kind ≡ End → (tokens : List TokenView) × HasTokensLeft reader tokens
gives_end reader e = (token_view reader.token ∷ [], record { more = []; first = refl; closed = e; others = inl (e, refl) })
