-- Worked example: the texts and captures of the parts of `/orders/:id(\d+)`, in words of texts
-- alone.
use Rattle.std.proofs.Common.{◌≡◌, ◌≢◌, ℕ, zero, suc, true, List, [], ◌∷◌, ◌++◌, Option, Some, None, codes, refl, sym, ap, ap₂, ◌∙◌, subst, append-nil, drop, inl, inr, nat_lt}
use Rattle.std.proofs.lemmas.Bool.{and_parts}
use Rattle.std.proofs.lemmas.List.Elements.{All-cons, All-nil}
use Rattle.std.specs.Prelude.{All}
use lib.Utf8.{scalars}
use Rattle.regex_hir.specs.Meaning.{repeat}
use Rattle.regex_hir.specs.Re.{Re, empty, byte_in, char_in, cat, alt, plus}
use Rattle.regex_syntax.proofs.SetLemmas.{in_ranges-members}
use Rattle.regex_syntax.specs.Brackets.{Nested}
use Rattle.regex_syntax.specs.Escapes.{escape, one_letter}
use Rattle.regex_syntax.specs.Grammar.{Names, read, branches, items, item, atom, piece_meaning, join_parts, with_repetitions, repetitions, bounds, names_below}
use Rattle.regex_syntax.specs.Reading.{first, skip}
use Rattle.regex_syntax.specs.Sets.{members, negate_if, one_of}
use Rattle.regex_syntax.specs.Verdict.{default_config}
use Rattle.ucd_perl.specs.Perl.{is_digit_char}
use Rattle.urlpattern_engine.proofs.TreesRead.{scalars_parts}
use Rattle.urlpattern_expressions.specs.Expressions.{ExpressionMatches, matches_characters}
use Rattle.urlpattern_expressions.specs.PartCaptures.{PartsCapture}
use Rattle.urlpattern_laws.proofs.CustomGroups.{whole_takes}
use Rattle.urlpattern_laws.proofs.Takes.{Takes}
use Rattle.urlpattern_meaning.proofs.MatchingLaws.{part_of}
use Rattle.urlpattern_meaning.specs.PartMeaning.{Captures, IsCapture}
use Rattle.urlpattern_syntax.specs.Options.{pathname_options}
use Rattle.urlpattern_syntax.specs.Parts.{PartView, fixed_text}
use Rattle.urlpattern_syntax.specs.Text.{IsRepeated}
use Rattle.urlpattern_syntax.specs.declared.parser.PartModifier.TheVariants as modifiers
use Rattle.urlpattern_syntax.specs.declared.parser.PartType.TheVariants.{Regexp}

-- ---- expressions

-- An expression matches the texts that its pattern matches character by character.
pub expression_takes : (expression : List ℕ) (pattern : Nested Re) (names : Names) → read default_config expression ≡ Some (pattern, names) → matches_characters pattern.value ≡ true → (text : List ℕ) → scalars text ≡ true
    → ExpressionMatches expression text → Takes pattern.value text
expression_takes expression pattern names e plain text good is = (whole_takes pattern.value plain text good).1 (rw e at is)

-- A text that the pattern of an expression matches character by character is a match of the
-- expression.
pub expression_matches : (expression : List ℕ) (pattern : Nested Re) (names : Names) → read default_config expression ≡ Some (pattern, names) → matches_characters pattern.value ≡ true → (text : List ℕ) → scalars text ≡ true
    → Takes pattern.value text → ExpressionMatches expression text
expression_matches expression pattern names e plain text good takes = rw e ((whole_takes pattern.value plain text good).0 takes)

pub digits_read : read default_config (codes "\\d+") ≡ Some (record { value = alt (cat (plus true (char_in (members is_digit_char))) empty) (byte_in []); depth = 1 }, None ∷ [])
unfolding read branches items item atom piece_meaning join_parts with_repetitions repetitions bounds repeat first skip escape one_letter negate_if one_of names_below
digits_read = refl

-- The text is digits, at least one.
abbrev pub AreDigits : List ℕ → Type 0
AreDigits text = (text ≢ []) × All (λ c. is_digit_char c ≡ true) text

digits_all : (n : ℕ) (text : List ℕ) → IsRepeated (Takes (char_in (members is_digit_char))) n text → All (λ c. is_digit_char c ≡ true) text
digits_all zero text ended = subst (λ t. All (λ c. is_digit_char c ≡ true) t) (sym ended) (All-nil (λ c. is_digit_char c ≡ true))
digits_all (suc n) text (first, rest, cut, (c, one, among), more) =
    let is : text ≡ c ∷ rest = cut ∙ ap (λ t. t ++ rest) one in
    let digit : is_digit_char c ≡ true = (and_parts (nat_lt c 0x11_0000) (is_digit_char c) (sym (in_ranges-members is_digit_char c) ∙ among)).1 in
    subst (λ t. All (λ d. is_digit_char d ≡ true) t) (sym is) (All-cons (λ d. is_digit_char d ≡ true) c rest digit (digits_all n rest more))

digits_taken : (text : List ℕ) → Takes (alt (cat (plus true (char_in (members is_digit_char))) empty) (byte_in [])) text → AreDigits text
digits_taken text (inr none) = absurd none
digits_taken text (inl (first, rest, cut, (n, (c, others, is, (d, one, among), more)), none)) =
    let same : text ≡ first = cut ∙ ap (λ t. first ++ t) none ∙ append-nil first in
    let begins : first ≡ d ∷ others = is ∙ ap (λ t. t ++ others) one in
    subst AreDigits (sym same) (λ e. absurd cc, digits_all (suc n) first (c, others, is, (d, one, among), more))

-- ---- parts

abbrev pub order_id : PartView
order_id = part_of Regexp modifiers.None (codes "\\d+") (codes "id") (codes "/") []

abbrev pub order_parts : List PartView
order_parts = fixed_text (codes "/orders") modifiers.None ∷ order_id ∷ []

-- `text` is the path of the order `id`.
pub record IsOrder (text : List ℕ) (captures : Captures) : Type 0 where
  pub id : List ℕ
  pub path : text ≡ codes "/orders/" ++ id
  pub digits : AreDigits id
  pub captured : captures ≡ Some id ∷ []

pub orders_captured : (text : List ℕ) (captures : Captures) → scalars text ≡ true → PartsCapture pathname_options order_parts text captures → IsOrder text captures
orders_captured text captures good (first, rest, own, others, cut, all, one, (second, last, mine, more, inner, both, two, (ended, nothing))) =
    let (front, left, is_front, value, none) = subst (λ n. IsRepeated (λ t. t ≡ codes "/orders") n first) one.allowed one.are_copies in
    let (copy, tail, is_copy, (piece, is_piece, matched), no_tail) =
    subst (λ n. IsRepeated (λ t. (p : List ℕ) × (t ≡ codes "/" ++ p ++ []) × ExpressionMatches (codes "\\d+") p) n second) two.allowed two.are_copies in
    let (capture, is_capture, is_mine) = two.are_captures in
    let (id, is_id, captured) = subst (λ n. IsCapture order_id n second capture) two.allowed is_capture in
    let front_is : first ≡ codes "/orders" = is_front ∙ ap (λ t. front ++ t) none ∙ append-nil front ∙ value in
    let copy_is : second ≡ codes "/" ++ piece ++ [] = is_copy ∙ ap (λ t. copy ++ t) no_tail ∙ append-nil copy ∙ is_piece in
    let same : id ≡ piece = sym (append-nil id) ∙ ap (drop 1) (sym is_id ∙ copy_is) ∙ append-nil piece in
    let rest_is : rest ≡ codes "/" ++ id = inner ∙ ap (λ t. second ++ t) ended ∙ append-nil second ∙ is_id ∙ append-nil (codes "/" ++ id) in
    let path : text ≡ codes "/orders/" ++ id = cut ∙ ap₂ ◌++◌ front_is rest_is in
    let fine : scalars id ≡ true = (scalars_parts (codes "/orders/") id (ap scalars (sym path) ∙ good)).1 in
    record {
      id = id;
      path = path;
      digits = digits_taken id (expression_takes (codes "\\d+") _ _ digits_read refl id fine (subst (ExpressionMatches (codes "\\d+")) (sym same) matched));
      captured = all ∙ ap₂ ◌++◌ one.are_captures (both ∙ ap₂ ◌++◌ (is_mine ∙ ap (λ (c : Option (List ℕ)). c ∷ []) captured) nothing);
    }
