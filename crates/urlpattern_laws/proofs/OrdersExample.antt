-- Worked example: the pattern `https://example.com/orders/:id(\d+)`, whose path is `/orders/` and
-- ASCII digits.
use Rattle.std.proofs.Common.{◌≡◌, ◌≢◌, ◌<◌, ℕ, zero, suc, true, List, [], ◌∷◌, ◌++◌, refl, sym, subst, append-nil, inl, inr, Some, Ok, codes, nat_lt, ◌∙◌, arith}
use Rattle.std.proofs.lemmas.Bool.{and_from, lt-ltb}
use Rattle.std.proofs.lemmas.Bool.Decides.{nat_tests}
use Rattle.std.proofs.lemmas.List.Elements.{All-cons, All-head, All-nil, All-tail}
use Rattle.std.specs.Bool.{beq}
use Rattle.std.specs.Char.{encode_utf8, is_ascii_digit}
use Rattle.std.specs.Prelude.{All, IsTrue}
use Rattle.std.specs.Str.{all_scalars, chars}
use lib.Utf8.{scalars}
use Rattle.regex_class.specs.Ranges.{in_ranges}
use Rattle.regex_hir.specs.Meaning.{repeat}
use Rattle.regex_hir.specs.Re.{char_in, plus}
use Rattle.regex_syntax.proofs.SetLemmas.{in_ranges-members}
use Rattle.regex_syntax.specs.Escapes.{escape, one_letter}
use Rattle.regex_syntax.specs.Grammar.{read, branches, items, item, atom, piece_meaning, join_parts, with_repetitions, repetitions, bounds, names_below}
use Rattle.regex_syntax.specs.Reading.{first, skip}
use Rattle.regex_syntax.specs.Sets.{members, negate_if, one_of}
use Rattle.ucd_perl.proofs.PerlLemmas.{is_digit_char_stepped}
use Rattle.ucd_perl.specs.Perl.{is_digit_char}
use Rattle.ucd_table.proofs.Computing.{tables}
use Rattle.ucd_table.proofs.Facts.{Stepped-below, same_from_beq}
use Rattle.url.proofs.OnLiterals.{url_on_literals}
use Rattle.urlpattern_canonical.specs.Canonical.{canonical_pathname}
use Rattle.urlpattern_compile.specs.Compiled.{canonical_encoding}
use Rattle.urlpattern_expressions.specs.Expressions.{ExpressionMatches}
use Rattle.urlpattern_expressions.specs.MatchedPartTexts.{PartsMatch}
use Rattle.urlpattern_expressions.specs.PartCaptures.{PartsCapture}
use Rattle.urlpattern_expressions.specs.SimpleExpressions.{AreSimple, is_simple, is_simple_by}
use Rattle.urlpattern_laws.proofs.RouteSplits.{digits_body, orders_split, orders_text}
use Rattle.urlpattern_init.specs.Inheritance.{processed_values}
use Rattle.urlpattern_init.specs.SpecialProtocol.{IsSpecialTo}
use Rattle.urlpattern_engine.proofs.TreesRead.{scalars_parts}
use Rattle.urlpattern_engine.specs.PatternRegexps.{pattern_engine}
use Rattle.urlpattern_laws.proofs.CustomRouteExamples.{digits_read, expression_matches, order_id, order_parts, orders_captured}
use Rattle.urlpattern_laws.proofs.ReadTexts.{canonical_value}
use Rattle.urlpattern_laws.proofs.SiteRoutes.{IsRoute, IsSimplePart}
use Rattle.urlpattern_laws.proofs.Takes.{Takes}
use Rattle.urlpattern_laws.proofs.UsersExample.{canonical_slash}
use Rattle.urlpattern_meaning.proofs.MatchingLaws.{part_of}
use Rattle.urlpattern_meaning.proofs.PlainTexts.{parts_of}
use Rattle.urlpattern_meaning.specs.PartMeaning.{Captures}
use Rattle.urlpattern_syntax.proofs.PieceExamples.{PieceCut, bare, ends, piece, pieces_of}
use Rattle.urlpattern_syntax.proofs.ReadingExamples.{tokens_of}
use Rattle.urlpattern_syntax.proofs.TokenExamples.{char, done, literals, name, next, no, regexp, token}
use Rattle.urlpattern_syntax.specs.Options.{pathname_options}
use Rattle.urlpattern_syntax.specs.Parts.{PartView, fixed_text}
use Rattle.urlpattern_syntax.specs.Pieces.{Bare, Custom, Piece, Stops, Text}
use Rattle.urlpattern_syntax.specs.Reading.{AreParts, Reads, items_of}
use Rattle.urlpattern_syntax.specs.RegexpText.{escaped}
use Rattle.urlpattern_syntax.specs.Text.{IsRepeated}
use Rattle.urlpattern_syntax.specs.Tokens.{AreTokens, TokenView}
use Rattle.urlpattern_syntax.specs.declared.parser.PartModifier.TheVariants as modifiers
use Rattle.urlpattern_syntax.specs.declared.parser.PartType.TheVariants as kinds
use Rattle.urlpattern_syntax.specs.declared.tokenizer.TokenType.TheVariants.{Char, End, Name, Regexp}

-- ---- the parts of the path

canonical_orders : canonical_pathname (codes "/orders") ≡ Ok (codes "/orders")
unfolding url_on_literals encode_utf8
canonical_orders = refl

abbrev orders_front : List TokenView
orders_front =
    token Char 0 (codes "/") ∷ token Char 1 (codes "o") ∷ token Char 2 (codes "r") ∷ token Char 3 (codes "d")
    ∷ token Char 4 (codes "e") ∷ token Char 5 (codes "r") ∷ token Char 6 (codes "s") ∷ token Char 7 (codes "/")
    ∷ token Name 8 (codes "id") ∷ token Regexp 11 (codes "\\d+") ∷ []

orders_tokens : AreTokens (codes "/orders/:id(\\d+)") (orders_front ++ token End 16 [] ∷ [])
unfolding literals
orders_tokens =
    tokens_of orders_front (next (char refl refl refl) (next (char refl refl refl) (next (char refl refl refl)
    (next (char refl refl refl) (next (char refl refl refl) (next (char refl refl refl)
    (next (char refl refl refl) (next (char refl refl refl)
    (next (name (codes "id") (refl, refl) no refl) (next (regexp (codes "\\d+") digits_body refl) done))))))))))

abbrev orders_pieces : List Piece
orders_pieces =
    Text (codes "/") ∷ Text (codes "o") ∷ Text (codes "r") ∷ Text (codes "d") ∷ Text (codes "e") ∷ Text (codes "r") ∷ Text (codes "s")
    ∷ Bare (codes "/") (record { name = Some (codes "id"); matched = Custom (codes "\\d+") }) modifiers.None ∷ []

orders_cut : PieceCut (codes "/") (Stops (token End 16 [])) (orders_front ++ token End 16 [] ∷ []) orders_pieces
orders_cut =
    piece 1 (_, refl, refl, refl, λ k v. no) (piece 1 (_, refl, refl, refl, λ k v. no) (piece 1 (_, refl, refl, refl, λ k v. no)
    (piece 1 (_, refl, refl, refl, λ k v. no) (piece 1 (_, refl, refl, refl, λ k v. no) (piece 1 (_, refl, refl, refl, λ k v. no)
    (piece 1 (_, refl, refl, refl, λ k v. no) (piece 3 (bare 1 2 (inr (refl, refl, refl)) (refl, refl) refl tt no) (ends (_, refl, refl)))))))))

orders_read : (parts : List PartView) → Reads (codes "/orders/:id(\\d+)") pathname_options (canonical_encoding canonical_pathname) parts → parts ≡ order_parts
unfolding escaped encode_utf8 chars
orders_read parts reads =
    let are : AreParts pathname_options (canonical_encoding canonical_pathname) (items_of orders_pieces) parts =
    parts_of (orders_front ++ token End 16 [] ∷ []) orders_pieces (token End 16 []) orders_tokens (pieces_of orders_cut) reads in
    let before = canonical_value canonical_pathname (codes "/orders") are.0 (codes "/orders") refl canonical_orders are.3 in
    let prefix = canonical_value canonical_pathname (codes "/") are.4.0 (codes "/") refl canonical_slash are.4.4 in
    let suffix = canonical_value canonical_pathname [] are.4.1 [] refl refl are.4.5 in
    let first_part : parts ≡ fixed_text are.0 modifiers.None ∷ are.1 = are.2 in
    let found : are.1 ≡ part_of kinds.Regexp modifiers.None (codes "\\d+") (codes "id") are.4.0 are.4.1 ∷ are.4.2 = are.4.3 in
    let ended : are.4.2 ≡ [] = are.4.6 in
    cc

digits_simple : IsTrue (is_simple (codes "\\d+"))
unfolding is_simple_by read branches items item atom piece_meaning join_parts with_repetitions repetitions bounds repeat first skip escape one_letter negate_if one_of names_below
digits_simple = refl

orders_simple : AreSimple order_parts
orders_simple =
    All-cons IsSimplePart (fixed_text (codes "/orders") modifiers.None) (order_id ∷ []) tt (All-cons IsSimplePart order_id [] digits_simple (All-nil IsSimplePart))

-- The text is split into `https://example.com` and this path, which reads as these parts.
pub orders_route : IsRoute orders_text (codes "/orders/:id(\\d+)") order_parts
unfolding processed_values
orders_route = record {
  split = orders_split (IsSpecialTo pattern_engine);
  processed = refl;
  slash = refl;
  read = orders_read;
  simple = orders_simple;
}

-- ---- digits

abbrev IsDigitChar : ℕ → Type 0
IsDigitChar c = is_digit_char c ≡ true

abbrev pub IsAsciiDigit : ℕ → Type 0
IsAsciiDigit c = IsTrue (is_ascii_digit c)

abbrev pub IsAsciiChar : ℕ → Type 0
IsAsciiChar c = c < 128

-- Of ASCII characters, `\d` matches the ten digits.
digit_ascii : (c : ℕ) → c < 128 → is_digit_char c ≡ is_ascii_digit c
unfolding tables is_digit_char_stepped
digit_ascii c low =
    same_from_beq _ _ (Stepped-below is_digit_char is_digit_char_stepped (λ x v. beq v (is_ascii_digit x)) 128 refl c low)

below_ascii : (c : ℕ) → is_ascii_digit c ≡ true → c < 128
below_ascii c is = grind (arith, nat_tests)

ascii_digits : (text : List ℕ) → All IsDigitChar text → All IsAsciiChar text → All IsAsciiDigit text
ascii_digits [] digits ascii = All-nil IsAsciiDigit
ascii_digits (c ∷ text) digits ascii =
    All-cons IsAsciiDigit c text (sym (digit_ascii c (All-head IsAsciiChar c text ascii)) ∙ All-head IsDigitChar c text digits)
    (ascii_digits text (All-tail IsDigitChar c text digits) (All-tail IsAsciiChar c text ascii))

-- What holds of each character of a text holds of those after its front.
after_front : (P : ℕ → Type 0) (front rest : List ℕ) → All P (front ++ rest) → All P rest
after_front P [] rest all = all
after_front P (c ∷ front) rest all = after_front P front rest (All-tail P c (front ++ rest) all)

-- The digit is among those that `\d` stands for.
among : (c : ℕ) → IsAsciiDigit c → in_ranges (members is_digit_char) c ≡ true
among c is =
    let low : c < 128 = below_ascii c is in
    in_ranges-members is_digit_char c
    ∙ and_from (nat_lt c 0x11_0000) (is_digit_char c) (lt-ltb c 0x11_0000 (omega (arith, low))) (digit_ascii c low ∙ is)

digits_repeated : (text : List ℕ) → All IsAsciiDigit text → (n : ℕ) × IsRepeated (Takes (char_in (members is_digit_char))) n text
digits_repeated [] all = (zero, refl)
digits_repeated (c ∷ text) all =
    let more = digits_repeated text (All-tail IsAsciiDigit c text all) in
    (suc more.0, (c ∷ [], text, refl, (c, refl, among c (All-head IsAsciiDigit c text all)), more.1))

digits_take : (text : List ℕ) → text ≢ [] → All IsAsciiDigit text → Takes (plus true (char_in (members is_digit_char))) text
digits_take [] some all = absurd (some refl)
digits_take (c ∷ text) some all =
    let more = digits_repeated text (All-tail IsAsciiDigit c text all) in
    (more.0, (c ∷ [], text, refl, (c, refl, among c (All-head IsAsciiDigit c text all)), more.1))

-- ---- paths

-- The text is `/orders/` and the id, which is ASCII digits, at least one.
pub record IsOrderPath (text id : List ℕ) : Type 0 where
  pub path : text ≡ codes "/orders/" ++ id
  pub not_empty : id ≢ []
  pub digits : All IsAsciiDigit id

-- The captures that the parts have in an ASCII text: its id.
pub order_captured : (text : List ℕ) (captures : Captures) → all_scalars text ≡ true → All IsAsciiChar text → PartsCapture pathname_options order_parts text captures →
    (id : List ℕ) × IsOrderPath text id × (captures ≡ Some id ∷ [])
order_captured text captures good ascii captured =
    let order = orders_captured text captures good captured in (
      order.id,
      record {
        path = order.path;
        not_empty = order.digits.0;
        digits = ascii_digits order.id order.digits.1 (after_front IsAsciiChar (codes "/orders/") order.id (subst (λ (t : List ℕ). All IsAsciiChar t) order.path ascii));
      },
      order.captured,
    )

-- The parts match the path of an order.
pub order_matched : (text id : List ℕ) → all_scalars text ≡ true → IsOrderPath text id → PartsMatch pathname_options order_parts text
order_matched text id good order =
    let fine : scalars id ≡ true = (scalars_parts (codes "/orders/") id (subst (λ (t : List ℕ). scalars t ≡ true) order.path good)).1 in
    let matches : ExpressionMatches (codes "\\d+") id =
    expression_matches (codes "\\d+") _ _ digits_read refl id fine (inl (id, [], sym (append-nil id), digits_take id order.not_empty order.digits, refl)) in
    let segment = sym (append-nil (codes "/" ++ id)) in (
      codes "/orders",
      codes "/" ++ id,
      order.path,
      (1, refl, (codes "/orders", [], refl, refl, refl)),
      (codes "/" ++ id, [], segment, (1, refl, (codes "/" ++ id, [], segment, (id, segment, matches), refl)), refl),
    )
