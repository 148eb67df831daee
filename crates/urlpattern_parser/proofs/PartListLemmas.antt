-- Lemmas on reading a list of tokens piece by piece: the pieces so far, one more piece, and the
-- end.
use Rattle.std.proofs.Common.{◌≡◌, ℕ, ◌+◌, ◌≤◌, List, [], ◌∷◌, ◌++◌, false, Option, Some, None, refl, sym, ap, ◌∙◌, subst, inl, append_assoc, arith}
use Rattle.urlpattern_syntax.specs.declared.error.Error.{Error}
use Rattle.urlpattern_syntax.specs.declared.parser.PartModifier.TheVariants as modifiers
use Rattle.std.specs.Prelude.{IsTrue}
use Rattle.std.specs.List.{list_all}
use Rattle.std.proofs.lemmas.Bool.{and_parts, both_ways}
use Rattle.std.proofs.lemmas.List.{append-nil}
use Rattle.urlpattern_syntax.specs.declared.tokenizer.TokenType.{TokenType}
use Rattle.urlpattern_syntax.specs.declared.tokenizer.TokenType.TheVariants.{Asterisk, Char, Close, End, EscapedChar, InvalidChar, Name, Open, OtherModifier, Regexp}
use Rattle.urlpattern_syntax.specs.Errors.{ErrorView, ErrorView as error_views}
use Rattle.urlpattern_syntax.specs.Options.{OptionsView}
use Rattle.urlpattern_syntax.proofs.TokenWords.{FailsTokens, ReadsTokens, joined_values}
use Rattle.urlpattern_syntax.specs.Parsing.{AddsItem, AddsParts, FailsItem, IsTokenList, PartListView, item_demands, pending_items}
use Rattle.urlpattern_syntax.specs.Errors.{MemoryOr}
use Rattle.urlpattern_syntax.specs.Pieces.{ArePieces, BeginsWithKind, Ending, IsEnding, IsPiece, Piece, is_placeholder, is_text, Ending as endings, Piece as kinds_of_piece}
use Rattle.urlpattern_syntax.specs.Reading.{AreMet, AreParts, Capture, Encoding, Expect, FirstFails, Fixed, Item, demands, demands_after, fixed_text_demands, item, items_from, items_of, joined_items, next_number, number_after, with_text}
use Rattle.urlpattern_syntax.specs.RegexpText.{group_names}
use Rattle.urlpattern_syntax.specs.Tokens.{TokenView}
use Rattle.urlpattern_syntax.proofs.PiecesExist.{pieces_exist}
use Rattle.urlpattern_syntax.proofs.ReadingLemmas.{AreMet-append, AreParts-append, EndsOther, EndsOther-push, FirstFails-before, FirstFails-behind, IsPlain, MemoryOr-weaker, demands-lacking, demands-pending, demands-split, item_demands-append, item_names, joined-other, names-AreParts, with_text-nil, with_text-other, with_text-twice}

-- ---- numbers

next_number_most : (name : Option (List ℕ)) (number : ℕ) → next_number name number ≤ number + 1
next_number_most None number = omega arith
next_number_most (Some name) number = omega arith

pub number_most : (piece : Piece) (number : ℕ) → number_after number piece ≤ number + 1
number_most (kinds_of_piece.Text text) number = omega arith
number_most (kinds_of_piece.TextGroup text modifier) number = omega arith
number_most (kinds_of_piece.Bare prefix placeholder modifier) number = next_number_most placeholder.name number
number_most (kinds_of_piece.Group before placeholder after modifier) number = next_number_most placeholder.name number

-- ---- the pieces so far

-- The tokens up to the rest are pieces, which have these items: those whose parts are read, and the
-- pending text.
pub record HasRead (options : OptionsView) (encoding : Encoding) (tokens rest : List TokenView) (list : PartListView) : Type 0 where
  pub pieces : List Piece
  pub items : List Item
  pub cut : (more : List Piece) (ending : Ending) → ArePieces options.prefix rest more ending → ArePieces options.prefix tokens (pieces ++ more) ending
  pub joined : (more : List Piece) → items_of (pieces ++ more) ≡ items ++ with_text list.pending (joined_items (items_from list.number more))
  pub ends_other : EndsOther items
  pub are_parts : AreParts options encoding items list.parts
  pub are_met : AreMet encoding (item_demands [] items)

pub nothing_read : (options : OptionsView) (encoding : Encoding) (tokens : List TokenView) → HasRead options encoding tokens tokens (record { parts = []; pending = []; number = 0 })
nothing_read options encoding tokens = record {
  pieces = [];
  items = [];
  cut = λ more ending h. h;
  joined = λ more. refl;
  ends_other = tt;
  are_parts = refl;
  are_met = tt;
}

module _ (options : OptionsView) (encoding : Encoding) (tokens rest : List TokenView) (old : PartListView) (r : HasRead options encoding tokens rest old) where
  names_read : group_names old.parts ≡ item_names r.items
  names_read = names-AreParts options encoding r.items old.parts r.are_parts

  -- A demand after those of the items fails.
  fails_after : (more : List Piece) (ending : Ending) (left : List Item) (error : ErrorView) → ArePieces options.prefix rest more ending → with_text old.pending (joined_items (items_from old.number more)) ≡ left → FirstFails encoding (demands_after (item_names r.items) left ending) error → FailsTokens tokens options encoding error
  fails_after more ending left error are_pieces e h = record {
    pieces = r.pieces ++ more;
    ending = ending;
    are_pieces = r.cut more ending are_pieces;
    fails = subst (λ x. FirstFails encoding x error)
        (sym (ap (λ x. demands_after [] x ending) (r.joined more ∙ ap (λ x. r.items ++ x) e) ∙ demands-split [] r.items left ending r.ends_other))
        (FirstFails-behind encoding error _ _ r.are_met h);
  }

  -- ---- one more piece

  module _ (front behind : List TokenView) (piece : Piece) (cut : rest ≡ front ++ behind) (is_piece : IsPiece options.prefix front piece behind) where
    cut_more : (more : List Piece) (ending : Ending) → ArePieces options.prefix behind more ending → ArePieces options.prefix tokens ((r.pieces ++ piece ∷ []) ++ more) ending
    cut_more more ending h =
        subst (λ x. ArePieces options.prefix tokens x ending) (sym (append_assoc r.pieces (piece ∷ []) more))
        (r.cut (piece ∷ more) ending (front, behind, cut, is_piece, h))

    joined_more : (more : List Piece) → items_of ((r.pieces ++ piece ∷ []) ++ more) ≡ r.items ++ with_text old.pending (joined_items (item old.number piece ∷ items_from (number_after old.number piece) more))
    joined_more more = ap items_of (append_assoc r.pieces (piece ∷ []) more) ∙ r.joined (piece ∷ more)

    reads_plain : (new : PartListView) (text : List ℕ) → item old.number piece ≡ Fixed text modifiers.None → new.number ≡ number_after old.number piece → new.parts ≡ old.parts → new.pending ≡ old.pending ++ text → HasRead options encoding tokens behind new
    reads_plain new text is number parts pending = record {
      pieces = r.pieces ++ piece ∷ [];
      items = r.items;
      cut = cut_more;
      joined = λ more.
          joined_more more ∙ ap (λ x. r.items ++ with_text old.pending (joined_items (x ∷ items_from (number_after old.number piece) more))) is
          ∙ ap (λ x. r.items ++ x) (with_text-twice old.pending text (joined_items (items_from (number_after old.number piece) more)))
          ∙ ap (λ x. r.items ++ with_text x (joined_items (items_from (number_after old.number piece) more))) (sym pending)
          ∙ ap (λ n. r.items ++ with_text new.pending (joined_items (items_from n more))) (sym number);
      ends_other = r.ends_other;
      are_parts = subst (AreParts options encoding r.items) (sym parts) r.are_parts;
      are_met = r.are_met;
    }

    reads_other : (new : PartListView) (x : Item) → item old.number piece ≡ x → ¬ IsPlain x → new.number ≡ number_after old.number piece → AddsParts options encoding old (pending_items old.pending ++ x ∷ []) new → HasRead options encoding tokens behind new
    reads_other new x is other number a = record {
      pieces = r.pieces ++ piece ∷ [];
      items = r.items ++ (pending_items old.pending ++ x ∷ []);
      cut = cut_more;
      joined = λ more.
          let left = joined_items (items_from new.number more) in
          joined_more more ∙ ap (λ y. r.items ++ with_text old.pending (joined_items (y ∷ items_from (number_after old.number piece) more))) is
          ∙ ap (λ n. r.items ++ with_text old.pending (joined_items (x ∷ items_from n more))) (sym number)
          ∙ ap (λ y. r.items ++ with_text old.pending y) (joined-other x (items_from new.number more) other)
          ∙ ap (λ y. r.items ++ y) (with_text-other old.pending x left other ∙ sym (append_assoc (pending_items old.pending) (x ∷ []) left))
          ∙ sym (append_assoc r.items (pending_items old.pending ++ x ∷ []) left)
          ∙ ap (λ y. r.items ++ (pending_items old.pending ++ x ∷ []) ++ with_text y left) (sym a.pending);
      ends_other = subst EndsOther (append_assoc r.items (pending_items old.pending) (x ∷ [])) (EndsOther-push (r.items ++ pending_items old.pending) x other);
      are_parts = subst (AreParts options encoding (r.items ++ (pending_items old.pending ++ x ∷ []))) (sym a.parts)
          (AreParts-append options encoding r.items (pending_items old.pending ++ x ∷ []) old.parts a.added r.are_parts a.are_parts);
      are_met = subst (AreMet encoding) (sym (item_demands-append [] r.items (pending_items old.pending ++ x ∷ [])))
          (AreMet-append encoding _ _ r.are_met (subst (λ names. AreMet encoding (item_demands names (pending_items old.pending ++ x ∷ []))) names_read a.are_met));
    }

    pub reads_piece : (new : PartListView) → new.number ≡ number_after old.number piece → AddsItem options encoding old (item old.number piece) new → HasRead options encoding tokens behind new
    reads_piece new number added = by_item (item old.number piece) refl added
      where
        by_item : (x : Item) → item old.number piece ≡ x → AddsItem options encoding old x new → HasRead options encoding tokens behind new
        by_item (Fixed text modifiers.None) e h = reads_plain new text e number h.0 h.1
        by_item (Fixed text modifiers.Optional) e h = reads_other new (Fixed text modifiers.Optional) e (λ p. p) number h
        by_item (Fixed text modifiers.ZeroOrMore) e h = reads_other new (Fixed text modifiers.ZeroOrMore) e (λ p. p) number h
        by_item (Fixed text modifiers.OneOrMore) e h = reads_other new (Fixed text modifiers.OneOrMore) e (λ p. p) number h
        by_item (Capture prefix name match suffix modifier) e h = reads_other new (Capture prefix name match suffix modifier) e (λ p. p) number h

    fails_other : (x : Item) (error : ErrorView) → item old.number piece ≡ x → ¬ IsPlain x → IsTokenList behind → FirstFails encoding (item_demands (group_names old.parts) (pending_items old.pending ++ x ∷ [])) error → FailsTokens tokens options encoding error
    fails_other x error is other closed h =
        let more = pieces_exist options.prefix behind closed in
        let left = joined_items (items_from (number_after old.number piece) more.0) in
        let items = pending_items old.pending ++ x ∷ [] in
        fails_after (piece ∷ more.0) more.1 (items ++ left) error (front, behind, cut, is_piece, more.2)
        (ap (λ y. with_text old.pending (joined_items (y ∷ items_from (number_after old.number piece) more.0))) is
        ∙ ap (with_text old.pending) (joined-other x (items_from (number_after old.number piece) more.0) other)
        ∙ with_text-other old.pending x left other ∙ sym (append_assoc (pending_items old.pending) (x ∷ []) left))
        (subst (λ y. FirstFails encoding y error) (sym (demands-split (item_names r.items) items left more.1 (EndsOther-push (pending_items old.pending) x other)))
        (FirstFails-before encoding error _ _ (subst (λ names. FirstFails encoding (item_demands names items) error) names_read h)))

    pub fails_piece : (error : Error) → IsTokenList behind → FailsItem encoding old (item old.number piece) error → MemoryOr (FailsTokens tokens options encoding) error
    fails_piece error closed failed = by_item (item old.number piece) refl failed
      where
        other_item : (x : Item) → item old.number piece ≡ x → ¬ IsPlain x → MemoryOr (FirstFails encoding (item_demands (group_names old.parts) (pending_items old.pending ++ x ∷ []))) error → MemoryOr (FailsTokens tokens options encoding) error
        other_item x e other h =
            MemoryOr-weaker (FirstFails encoding (item_demands (group_names old.parts) (pending_items old.pending ++ x ∷ []))) (FailsTokens tokens options encoding) error
            (λ view f. fails_other x view e other closed f) h

        by_item : (x : Item) → item old.number piece ≡ x → FailsItem encoding old x error → MemoryOr (FailsTokens tokens options encoding) error
        by_item (Fixed text modifiers.None) e h = inl h
        by_item (Fixed text modifiers.Optional) e h = other_item (Fixed text modifiers.Optional) e (λ p. p) h
        by_item (Fixed text modifiers.ZeroOrMore) e h = other_item (Fixed text modifiers.ZeroOrMore) e (λ p. p) h
        by_item (Fixed text modifiers.OneOrMore) e h = other_item (Fixed text modifiers.OneOrMore) e (λ p. p) h
        by_item (Capture prefix name match suffix modifier) e h = other_item (Capture prefix name match suffix modifier) e (λ p. p) h

  -- ---- the end

  met_pending : (names : List (List ℕ)) (pending : List ℕ) (found : TokenView) → found.kind ≡ End → AreMet encoding (item_demands names (pending_items pending)) → AreMet encoding (fixed_text_demands pending ++ Expect End found ∷ [])
  met_pending names [] found e h = (e, tt)
  met_pending names (c ∷ pending) found e h = (h.0, (e, tt))

  pub reads_end : (found : TokenView) (new : PartListView) → IsEnding rest (endings.Stops found) → found.kind ≡ End → AddsParts options encoding old (pending_items old.pending) new → ReadsTokens tokens options encoding new.parts
  reads_end found new is_ending is_end a =
      let items : items_of (r.pieces ++ []) ≡ r.items ++ pending_items old.pending = r.joined [] ∙ ap (λ x. r.items ++ x) (with_text-nil old.pending) in
      record {
        pieces = r.pieces ++ [];
        found = found;
        are_pieces = r.cut [] (endings.Stops found) is_ending;
        are_met = subst (AreMet encoding)
            (sym (ap (λ x. demands x (endings.Stops found)) items ∙ demands-split [] r.items (pending_items old.pending) (endings.Stops found) r.ends_other
            ∙ ap (λ x. item_demands [] r.items ++ x) (demands-pending (item_names r.items) old.pending found)))
            (AreMet-append encoding _ _ r.are_met (met_pending (group_names old.parts) old.pending found is_end a.are_met));
        are_parts = subst (λ x. AreParts options encoding x new.parts) (sym items)
            (subst (AreParts options encoding (r.items ++ pending_items old.pending)) (sym a.parts)
            (AreParts-append options encoding r.items (pending_items old.pending) old.parts a.added r.are_parts a.are_parts));
      }

  pub fails_end : (found : TokenView) (error : Error) → IsEnding rest (endings.Stops found) → MemoryOr (FirstFails encoding (fixed_text_demands old.pending ++ Expect End found ∷ [])) error → MemoryOr (FailsTokens tokens options encoding) error
  fails_end found error is_ending h =
      MemoryOr-weaker (FirstFails encoding (fixed_text_demands old.pending ++ Expect End found ∷ [])) (FailsTokens tokens options encoding) error
      (λ view f. fails_after [] (endings.Stops found) (pending_items old.pending) view is_ending (with_text-nil old.pending)
      (subst (λ x. FirstFails encoding x view) (sym (demands-pending (item_names r.items) old.pending found)) f)) h

  pub fails_open : (found : TokenView) (error : Error) → IsEnding rest (endings.LacksClose found) → MemoryOr (λ view. view ≡ error_views.ExpectedToken Close found.kind found.value) error → MemoryOr (FailsTokens tokens options encoding) error
  fails_open found error is_ending h =
      MemoryOr-weaker (λ view. view ≡ error_views.ExpectedToken Close found.kind found.value) (FailsTokens tokens options encoding) error
      (λ view e. fails_after [] (endings.LacksClose found) (pending_items old.pending) view is_ending (with_text-nil old.pending)
      (subst (λ x. FirstFails encoding x view) (sym (demands-lacking (item_names r.items) old.pending found)) (inl (is_ending.6, e)))) h

-- ---- a row of characters

text_no_placeholder : (kind : TokenType) → IsTrue (is_text kind) → is_placeholder kind ≡ false
text_no_placeholder Char h = refl
text_no_placeholder EscapedChar h = refl
text_no_placeholder Open h = refl
text_no_placeholder Close h = refl
text_no_placeholder OtherModifier h = refl
text_no_placeholder End h = refl
text_no_placeholder InvalidChar h = refl
text_no_placeholder Regexp h = absurd (both_ways false refl h)
text_no_placeholder Name h = absurd (both_ways false refl h)
text_no_placeholder Asterisk h = absurd (both_ways false refl h)

pub no_placeholder : (tokens : List TokenView) → BeginsWithKind is_text tokens → ¬ BeginsWithKind is_placeholder tokens
no_placeholder [] h g = g
no_placeholder (token ∷ tokens) h g = both_ways (is_placeholder token.kind) (text_no_placeholder token.kind h) g

pub row_goes_on : (row behind : List TokenView) → IsTrue (list_all (λ (token : TokenView). is_text token.kind) row) → BeginsWithKind is_text behind → BeginsWithKind is_text (row ++ behind)
row_goes_on [] behind h g = g
row_goes_on (token ∷ row) behind h g = (and_parts _ _ h).0

pub reads_row : (options : OptionsView) (encoding : Encoding) (tokens row behind : List TokenView) (old new : PartListView) → HasRead options encoding tokens (row ++ behind) old →
    IsTrue (list_all (λ (token : TokenView). is_text token.kind) row) → BeginsWithKind is_text behind → new.parts ≡ old.parts → new.number ≡ old.number → new.pending ≡ old.pending ++ joined_values row → HasRead options encoding tokens behind new
reads_row options encoding tokens [] behind old new read texts next parts number pending =
    let same : old ≡ new = λ i. record { parts = sym parts i; pending = sym (pending ∙ append-nil old.pending) i; number = sym number i } in
    subst (HasRead options encoding tokens behind) same read
reads_row options encoding tokens (token ∷ row) behind old new read texts next parts number pending =
    let both = and_parts _ _ texts in
    let mid : PartListView = record { parts = old.parts; pending = old.pending ++ token.value; number = old.number } in
    let first = reads_piece options encoding tokens (token ∷ row ++ behind) old read (token ∷ []) (row ++ behind) (kinds_of_piece.Text token.value) refl
    (token, refl, both.0, refl, λ k v. no_placeholder (row ++ behind) (row_goes_on row behind both.1 next)) mid refl (refl, refl) in
    reads_row options encoding tokens row behind mid new first both.1 next parts number (pending ∙ sym (append_assoc old.pending token.value (joined_values row)))
