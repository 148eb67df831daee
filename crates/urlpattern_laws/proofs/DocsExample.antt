-- Worked example: the pattern `https://example.com/:lang(en|fr)?/docs`, whose path is `/docs`,
-- `/en/docs` or `/fr/docs`.
use Rattle.std.proofs.Common.{◌≡◌, ◌⊎◌, ◌↔◌, ◌≤◌, ℕ, zero, suc, true, List, [], ◌∷◌, ◌++◌, Option, refl, sym, ap, ap₂, ◌∙◌, subst, append-nil, drop, inl, inr, lit≤, Some, None, Ok, codes, arith}
use Rattle.std.proofs.lemmas.List.Elements.{All-cons, All-nil}
use Rattle.std.proofs.lemmas.Option.{same_Some}
use Rattle.std.specs.Char.{encode_utf8}
use Rattle.std.specs.Prelude.{IsTrue}
use Rattle.std.specs.Str.{all_scalars, chars}
use lib.Utf8.{encode, scalars}
use Rattle.regex_hir.specs.Re.{Re, empty, literal, byte_in, cat, alt}
use Rattle.regex_hir.specs.Text.{char_at, has_bytes_at}
use Rattle.regex_syntax.specs.Grammar.{read, branches, items, item, atom, char_meaning, join_parts, with_repetitions, repetitions, names_below}
use Rattle.regex_syntax.specs.Reading.{first, skip}
use Rattle.regex_syntax.specs.Sets.{verbatim}
use Rattle.regex_syntax.specs.Verdict.{default_config}
use Rattle.url.proofs.OnLiterals.{url_on_literals}
use Rattle.urlpattern_canonical.specs.Canonical.{canonical_pathname}
use Rattle.urlpattern_compile.specs.Compiled.{canonical_encoding}
use Rattle.urlpattern_engine.proofs.TreesRead.{scalars_parts}
use Rattle.urlpattern_engine.specs.PatternRegexps.{pattern_engine}
use Rattle.urlpattern_expressions.specs.Expressions.{ExpressionMatches, matches_characters}
use Rattle.urlpattern_expressions.specs.MatchedPartTexts.{IsMatchedCopy, PartsMatch}
use Rattle.urlpattern_expressions.specs.PartCaptures.{PartsCapture}
use Rattle.urlpattern_expressions.specs.SimpleExpressions.{AreSimple, is_simple, is_simple_by}
use Rattle.urlpattern_laws.proofs.RouteSplits.{docs_split, docs_text, languages_body}
use Rattle.urlpattern_init.specs.Inheritance.{processed_values}
use Rattle.urlpattern_init.specs.SpecialProtocol.{IsSpecialTo}
use Rattle.urlpattern_laws.proofs.CustomRouteExamples.{expression_matches, expression_takes}
use Rattle.urlpattern_laws.proofs.ReadTexts.{canonical_value}
use Rattle.urlpattern_laws.proofs.SiteRoutes.{IsRoute, IsSimplePart, literal_captured, literal_matched}
use Rattle.urlpattern_laws.proofs.Takes.{Takes}
use Rattle.urlpattern_laws.proofs.UsersExample.{canonical_slash}
use Rattle.urlpattern_meaning.proofs.MatchingLaws.{part_of}
use Rattle.urlpattern_meaning.proofs.PlainTexts.{parts_of}
use Rattle.urlpattern_meaning.specs.PartMeaning.{Captures, IsCapture}
use Rattle.urlpattern_syntax.proofs.PieceExamples.{PieceCut, bare, ends, piece, pieces_of}
use Rattle.urlpattern_syntax.proofs.ReadingExamples.{tokens_of}
use Rattle.urlpattern_syntax.proofs.TokenExamples.{char, done, literals, mark, name, next, no, regexp, token}
use Rattle.urlpattern_syntax.specs.Options.{pathname_options}
use Rattle.urlpattern_syntax.specs.Parts.{PartView, fixed_text}
use Rattle.urlpattern_syntax.specs.Pieces.{Bare, Custom, Piece, Stops, Text}
use Rattle.urlpattern_syntax.specs.Reading.{AreParts, Reads, items_of}
use Rattle.urlpattern_syntax.specs.RegexpText.{escaped}
use Rattle.urlpattern_syntax.specs.Text.{IsRepeated}
use Rattle.urlpattern_syntax.specs.Tokens.{AreTokens, TokenView}
use Rattle.urlpattern_syntax.specs.declared.parser.PartModifier.TheVariants as modifiers
use Rattle.urlpattern_syntax.specs.declared.parser.PartType.TheVariants as kinds
use Rattle.urlpattern_syntax.specs.declared.tokenizer.TokenType.TheVariants.{Char, End, Name, OtherModifier, Regexp}

-- ---- the parts of the path

canonical_docs : canonical_pathname (codes "/docs") ≡ Ok (codes "/docs")
unfolding url_on_literals encode_utf8
canonical_docs = refl

abbrev pub language_part : PartView
language_part = part_of kinds.Regexp modifiers.Optional (codes "en|fr") (codes "lang") (codes "/") []

abbrev pub docs_parts : List PartView
docs_parts = language_part ∷ fixed_text (codes "/docs") modifiers.None ∷ []

abbrev docs_front : List TokenView
docs_front =
    token Char 0 (codes "/") ∷ token Name 1 (codes "lang") ∷ token Regexp 6 (codes "en|fr") ∷ token OtherModifier 13 (codes "?")
    ∷ token Char 14 (codes "/") ∷ token Char 15 (codes "d") ∷ token Char 16 (codes "o") ∷ token Char 17 (codes "c") ∷ token Char 18 (codes "s") ∷ []

docs_tokens : AreTokens (codes "/:lang(en|fr)?/docs") (docs_front ++ token End 19 [] ∷ [])
unfolding literals
docs_tokens =
    tokens_of docs_front (next (char refl refl refl) (next (name (codes "lang") (refl, refl) no refl)
    (next (regexp (codes "en|fr") languages_body refl) (next (mark (refl, inr refl) tt refl)
    (next (char refl refl refl) (next (char refl refl refl) (next (char refl refl refl) (next (char refl refl refl) (next (char refl refl refl) done)))))))))

abbrev docs_pieces : List Piece
docs_pieces =
    Bare (codes "/") (record { name = Some (codes "lang"); matched = Custom (codes "en|fr") }) modifiers.Optional
    ∷ Text (codes "/") ∷ Text (codes "d") ∷ Text (codes "o") ∷ Text (codes "c") ∷ Text (codes "s") ∷ []

docs_cut : PieceCut (codes "/") (Stops (token End 19 [])) (docs_front ++ token End 19 [] ∷ []) docs_pieces
docs_cut =
    piece 4 (bare 1 2 (inr (refl, refl, refl)) (refl, refl) (refl, refl) tt tt)
    (piece 1 (_, refl, refl, refl, λ k v. no) (piece 1 (_, refl, refl, refl, λ k v. no) (piece 1 (_, refl, refl, refl, λ k v. no)
    (piece 1 (_, refl, refl, refl, λ k v. no) (piece 1 (_, refl, refl, refl, λ k v. no) (ends (_, refl, refl)))))))

docs_read : (parts : List PartView) → Reads (codes "/:lang(en|fr)?/docs") pathname_options (canonical_encoding canonical_pathname) parts → parts ≡ docs_parts
unfolding escaped encode_utf8 chars
docs_read parts reads =
    let are : AreParts pathname_options (canonical_encoding canonical_pathname) (items_of docs_pieces) parts =
    parts_of (docs_front ++ token End 19 [] ∷ []) docs_pieces (token End 19 []) docs_tokens (pieces_of docs_cut) reads in
    let prefix = canonical_value canonical_pathname (codes "/") are.0 (codes "/") refl canonical_slash are.4 in
    let suffix = canonical_value canonical_pathname [] are.1 [] refl refl are.5 in
    let after = canonical_value canonical_pathname (codes "/docs") are.6.0 (codes "/docs") refl canonical_docs are.6.3 in
    let found : parts ≡ part_of kinds.Regexp modifiers.Optional (codes "en|fr") (codes "lang") are.0 are.1 ∷ are.2 = are.3 in
    let last : are.2 ≡ fixed_text are.6.0 modifiers.None ∷ are.6.1 = are.6.2 in
    let ended : are.6.1 ≡ [] = are.6.4 in
    cc

languages_simple : IsTrue (is_simple (codes "en|fr"))
unfolding is_simple_by read branches items item atom char_meaning join_parts with_repetitions repetitions first skip verbatim names_below char_at has_bytes_at chars encode
languages_simple = refl

docs_simple : AreSimple docs_parts
docs_simple =
    All-cons IsSimplePart language_part (fixed_text (codes "/docs") modifiers.None ∷ []) languages_simple
    (All-cons IsSimplePart (fixed_text (codes "/docs") modifiers.None) [] tt (All-nil IsSimplePart))

-- The text is split into `https://example.com` and this path, which reads as these parts.
pub docs_route : IsRoute docs_text (codes "/:lang(en|fr)?/docs") docs_parts
unfolding processed_values
docs_route = record {
  split = docs_split (IsSpecialTo pattern_engine);
  processed = refl;
  slash = refl;
  read = docs_read;
  simple = docs_simple;
}

-- ---- languages

-- The text is one of the two languages.
abbrev pub IsLanguage : List ℕ → Type 0
IsLanguage text = (text ≡ codes "en") ⊎ (text ≡ codes "fr")

-- What the grammar reads in `en|fr`.
abbrev languages : Re
languages =
    alt (cat (literal (codes "e")) (cat (literal (codes "n")) empty))
    (alt (cat (literal (codes "f")) (cat (literal (codes "r")) empty)) (byte_in []))

languages_read : read default_config (codes "en|fr") ≡ Some (record { value = languages; depth = 2 }, None ∷ [])
unfolding read branches items item atom char_meaning join_parts with_repetitions repetitions first skip verbatim names_below char_at has_bytes_at chars encode
languages_read = refl

languages_plain : matches_characters languages ≡ true
unfolding char_at has_bytes_at chars encode
languages_plain = refl

-- The literal of a single character.
letter : (bytes text : List ℕ) (c : ℕ) → char_at bytes 0 ≡ Some c → Takes (literal bytes) text → text ≡ c ∷ []
letter bytes text c e (d, one, is) = one ∙ ap (λ (x : ℕ). x ∷ []) (same_Some d c (sym is ∙ e))

-- The literals of two characters.
two_letters : (one other text : List ℕ) (c d : ℕ) → char_at one 0 ≡ Some c → char_at other 0 ≡ Some d → Takes (cat (literal one) (cat (literal other) empty)) text ↔ (text ≡ c ∷ d ∷ [])
two_letters one other text c d e f = (
  λ (front, rest, cut, begins, (second, last, more, ends_with, ended)).
      cut ∙ ap₂ ◌++◌ (letter one front c e begins) (more ∙ ap₂ ◌++◌ (letter other second d f ends_with) ended),
  λ is. (c ∷ [], d ∷ [], is, (c, refl, e), (d ∷ [], [], refl, (d, refl, f), refl)),
)

language_of : (text : List ℕ) → Takes languages text → IsLanguage text
unfolding char_at has_bytes_at chars encode
language_of text (inl is) = inl ((two_letters (codes "e") (codes "n") text 0x65 0x6E refl refl).0 is)
language_of text (inr (inl is)) = inr ((two_letters (codes "f") (codes "r") text 0x66 0x72 refl refl).0 is)
language_of text (inr (inr none)) = absurd none

language_takes : (text : List ℕ) → IsLanguage text → Takes languages text
unfolding char_at has_bytes_at chars encode
language_takes text (inl is) = inl ((two_letters (codes "e") (codes "n") text 0x65 0x6E refl refl).1 is)
language_takes text (inr is) = inr (inl ((two_letters (codes "f") (codes "r") text 0x66 0x72 refl refl).1 is))

language_characters : (text : List ℕ) → IsLanguage text → scalars text ≡ true
language_characters text (inl is) = ap scalars is
language_characters text (inr is) = ap scalars is

-- ---- paths

-- The text is the path of the pages in this language, or without one.
abbrev pub IsDocsPath : (text : List ℕ) → (language : Option (List ℕ)) → Type 0
IsDocsPath text None = text ≡ codes "/docs"
IsDocsPath text (Some language) = IsLanguage language × (text ≡ codes "/" ++ language ++ codes "/docs")

-- Copies of the part of the language, at most one, before `/docs`.
docs_of : (count : ℕ) (text front : List ℕ) (capture : Option (List ℕ)) → text ≡ front ++ codes "/docs" → all_scalars text ≡ true → count ≤ 1 →
    IsRepeated (IsMatchedCopy pathname_options kinds.Regexp language_part) count front → IsCapture language_part count front capture → IsDocsPath text capture
docs_of zero text front capture cut good allowed ended none =
    subst (λ (c : Option (List ℕ)). IsDocsPath text c) (sym none) (cut ∙ ap (λ (t : List ℕ). t ++ codes "/docs") ended)
docs_of (suc zero) text front capture cut good allowed (copy, tail, whole, (found, is_found, matched), no_tail) (language, is_language, captured) =
    let copy_is : front ≡ codes "/" ++ found ++ [] = whole ∙ ap (λ (t : List ℕ). copy ++ t) no_tail ∙ append-nil copy ∙ is_found in
    let same : language ≡ found = sym (append-nil language) ∙ ap (drop 1) (sym is_language ∙ copy_is) ∙ append-nil found in
    let segment : front ≡ codes "/" ++ language = is_language ∙ append-nil (codes "/" ++ language) in
    let fine_front : scalars front ≡ true = (scalars_parts front (codes "/docs") (ap scalars (sym cut) ∙ good)).0 in
    let fine : scalars language ≡ true = (scalars_parts (codes "/") language (ap scalars (sym segment) ∙ fine_front)).1 in
    let takes : Takes languages language =
    expression_takes (codes "en|fr") _ _ languages_read languages_plain language fine (subst (λ (t : List ℕ). ExpressionMatches (codes "en|fr") t) (sym same) matched) in
    subst (λ (c : Option (List ℕ)). IsDocsPath text c) (sym captured) (language_of language takes, cut ∙ ap (λ (t : List ℕ). t ++ codes "/docs") segment)
docs_of (suc (suc n)) text front capture cut good allowed copies is = absurd (omega (arith, allowed))

-- The captures that the parts have in a text: its language.
pub docs_captured : (text : List ℕ) (captures : Captures) → all_scalars text ≡ true → PartsCapture pathname_options docs_parts text captures →
    (language : Option (List ℕ)) × IsDocsPath text language × (captures ≡ language ∷ [])
docs_captured text captures good (front, rest, own, others, cut, all, one, (second, last, mine, more, inner, both, two, (ended, nothing))) =
    let (capture, is_capture, is_own) = one.are_captures in
    let rest_is : rest ≡ codes "/docs" =
    literal_captured pathname_options (codes "/docs") rest others (second, last, mine, more, inner, both, two, (ended, nothing)) in
    let others_are : others ≡ [] = both ∙ ap₂ ◌++◌ two.are_captures nothing in (
      capture,
      docs_of one.count text front capture (cut ∙ ap (λ (t : List ℕ). front ++ t) rest_is) good one.allowed one.are_copies is_capture,
      all ∙ ap₂ ◌++◌ is_own others_are,
    )

-- The parts match the path of the pages in a language, or without one.
pub docs_matched : (text : List ℕ) (language : Option (List ℕ)) → IsDocsPath text language → PartsMatch pathname_options docs_parts text
docs_matched text None is = ([], codes "/docs", is, (0, lit≤ tt, refl), literal_matched pathname_options (codes "/docs") (codes "/docs") refl)
docs_matched text (Some language) (is_language, is) =
    let matches : ExpressionMatches (codes "en|fr") language =
    expression_matches (codes "en|fr") _ _ languages_read languages_plain language (language_characters language is_language) (language_takes language is_language) in
    let segment = sym (append-nil (codes "/" ++ language)) in (
      codes "/" ++ language,
      codes "/docs",
      is,
      (1, lit≤ tt, (codes "/" ++ language, [], segment, (language, segment, matches), refl)),
      literal_matched pathname_options (codes "/docs") (codes "/docs") refl,
    )
