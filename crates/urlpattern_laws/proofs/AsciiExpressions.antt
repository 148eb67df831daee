-- The regular expression of parts whose texts are ASCII is ASCII.
use Rattle.std.proofs.Common.{◌≡◌, ℕ, zero, suc, ◌<◌, Bool, true, false, ◌&&◌, All, List, [], ◌∷◌, ◌++◌, Option, Some, None, codes, if◌then◌else◌, refl, arith, ltb-true}
use Rattle.std.proofs.lemmas.Bool.{and_parts}
use Rattle.std.proofs.lemmas.List.Elements.{All-head, All-tail}
use Rattle.std.specs.Char.{is_ascii}
use Rattle.std.specs.List.{flat_map, list_all}
use Rattle.std.specs.Prelude.{IfSome, IsAscii}
use Rattle.urlpattern_expressions.specs.SimpleExpressions.{HasAsciiTexts}
use Rattle.urlpattern_syntax.specs.Options.{OptionsView}
use Rattle.urlpattern_syntax.specs.Parts.{PartView}
use Rattle.urlpattern_syntax.specs.RegexpText.{affixed_regexp, bare_regexp, captured, escaped, escaped_marks, escaped_regexp, fixed_regexp, grouped, is_empty, is_fixed_text, matched_by, part_regexp, part_regexp_of, regexp_text, repeated_regexp, segment_wildcard_of}
use Rattle.urlpattern_syntax.specs.Text.{is_among}
use Rattle.urlpattern_syntax.specs.declared.parser.PartModifier.{PartModifier}
use Rattle.urlpattern_syntax.specs.declared.parser.PartModifier.TheVariants as modifiers
use Rattle.urlpattern_syntax.specs.declared.parser.PartType.{PartType}
use Rattle.urlpattern_syntax.specs.declared.parser.PartType.TheVariants.{FixedText, Regexp, SegmentWildcard, FullWildcard}
use Rattle.urlpattern_syntax.specs.declared.parser.RegexSyntax.{RegexSyntax}

-- ---- texts

listed_ascii : (text : List ℕ) → list_all is_ascii text ≡ true → IsAscii text
listed_ascii [] h i = omega arith
listed_ascii (c ∷ text) h zero = ltb-true c 128 (and_parts (is_ascii c) (list_all is_ascii text) h).0
listed_ascii (c ∷ text) h (suc i) = listed_ascii text (and_parts (is_ascii c) (list_all is_ascii text) h).1 i

joined_ascii : (text more : List ℕ) → IsAscii text → IsAscii more → IsAscii (text ++ more)
joined_ascii [] more p q i = q i
joined_ascii (c ∷ text) more p q zero = p zero
joined_ascii (c ∷ text) more p q (suc i) = joined_ascii text more (λ j. p (suc j)) q i

one_ascii : (c : ℕ) → c < 128 → IsAscii (c ∷ [])
one_ascii c h zero = h
one_ascii c h (suc i) = omega arith

escaped_ascii : (marks text : List ℕ) → IsAscii text → IsAscii (escaped marks text)
unfolding escaped
escaped_ascii marks [] h = h
escaped_ascii marks (c ∷ text) h =
    joined_ascii (if is_among marks c then codes "\\" ++ c ∷ [] else c ∷ []) _ (by (is_among marks c)) (escaped_ascii marks text (λ i. h (suc i)))
  where
    by : (b : Bool) → IsAscii (if b then codes "\\" ++ c ∷ [] else c ∷ [])
    by true = joined_ascii (codes "\\") (c ∷ []) (listed_ascii (codes "\\") refl) (one_ascii c (h zero))
    by false = one_ascii c (h zero)

-- ---- groups

captured_ascii : (text : List ℕ) → IsAscii text → IsAscii (captured text)
captured_ascii text h = joined_ascii (codes "(") (text ++ codes ")") (listed_ascii (codes "(") refl) (joined_ascii text (codes ")") h (listed_ascii (codes ")") refl))

grouped_ascii : (text : List ℕ) → IsAscii text → IsAscii (grouped text)
grouped_ascii text h = joined_ascii (codes "(?:") (text ++ codes ")") (listed_ascii (codes "(?:") refl) (joined_ascii text (codes ")") h (listed_ascii (codes ")") refl))

-- A text, and then a sign.
signed_ascii : (text sign : List ℕ) → IsAscii text → list_all is_ascii sign ≡ true → IsAscii (text ++ sign)
signed_ascii text sign h is = joined_ascii text sign h (listed_ascii sign is)

fixed_ascii : (modifier : PartModifier) (text : List ℕ) → IsAscii text → IsAscii (fixed_regexp modifier text)
fixed_ascii modifiers.None text h = h
fixed_ascii modifiers.Optional text h = signed_ascii (grouped text) (codes "?") (grouped_ascii text h) refl
fixed_ascii modifiers.ZeroOrMore text h = signed_ascii (grouped text) (codes "*") (grouped_ascii text h) refl
fixed_ascii modifiers.OneOrMore text h = signed_ascii (grouped text) (codes "+") (grouped_ascii text h) refl

bare_ascii : (modifier : PartModifier) (text : List ℕ) → IsAscii text → IsAscii (bare_regexp modifier text)
bare_ascii modifiers.None text h = captured_ascii text h
bare_ascii modifiers.Optional text h = signed_ascii (captured text) (codes "?") (captured_ascii text h) refl
bare_ascii modifiers.ZeroOrMore text h = captured_ascii (grouped text ++ codes "*") (signed_ascii (grouped text) (codes "*") (grouped_ascii text h) refl)
bare_ascii modifiers.OneOrMore text h = captured_ascii (grouped text ++ codes "+") (signed_ascii (grouped text) (codes "+") (grouped_ascii text h) refl)

module _ (prefix text suffix : List ℕ) (p : IsAscii prefix) (h : IsAscii text) (s : IsAscii suffix) where
  between_ascii : (core : List ℕ) → IsAscii core → IsAscii (grouped (prefix ++ captured core ++ suffix))
  between_ascii core is =
      grouped_ascii (prefix ++ captured core ++ suffix) (joined_ascii (prefix ++ captured core) suffix (joined_ascii prefix (captured core) p (captured_ascii core is)) s)

  repeated_ascii : IsAscii (repeated_regexp prefix text suffix)
  repeated_ascii =
      let again : List ℕ = suffix ++ prefix ++ grouped text in
      let further : IsAscii again = joined_ascii (suffix ++ prefix) (grouped text) (joined_ascii suffix prefix s p) (grouped_ascii text h) in
      between_ascii (grouped text ++ grouped again ++ codes "*")
      (signed_ascii (grouped text ++ grouped again) (codes "*") (joined_ascii (grouped text) (grouped again) (grouped_ascii text h) (grouped_ascii again further)) refl)

  affixed_ascii : (modifier : PartModifier) → IsAscii (affixed_regexp modifier prefix text suffix)
  affixed_ascii modifiers.None = between_ascii text h
  affixed_ascii modifiers.Optional = signed_ascii (grouped (prefix ++ captured text ++ suffix)) (codes "?") (between_ascii text h) refl
  affixed_ascii modifiers.OneOrMore = repeated_ascii
  affixed_ascii modifiers.ZeroOrMore = signed_ascii (repeated_regexp prefix text suffix) (codes "?") repeated_ascii refl

-- ---- parts

segment_ascii : (syntax : RegexSyntax) (delimiter : Option ℕ) → IfSome delimiter (λ c. c < 128) → IsAscii (segment_wildcard_of syntax delimiter)
segment_ascii syntax None h = listed_ascii (codes ".+?") refl
segment_ascii syntax (Some c) h =
    signed_ascii (codes "[^" ++ escaped (escaped_marks syntax) (c ∷ [])) (codes "]+?")
    (joined_ascii (codes "[^") (escaped (escaped_marks syntax) (c ∷ [])) (listed_ascii (codes "[^") refl) (escaped_ascii (escaped_marks syntax) (c ∷ []) (one_ascii c h))) refl

module _ (options : OptionsView) (delimited : IfSome options.delimiter (λ c. c < 128)) where
  matched_ascii : (kind : PartType) (value : List ℕ) → IsAscii value → IsAscii (matched_by options kind value)
  matched_ascii FixedText value h = escaped_ascii (escaped_marks options.syntax) value h
  matched_ascii Regexp value h = h
  matched_ascii SegmentWildcard value h = segment_ascii options.syntax options.delimiter delimited
  matched_ascii FullWildcard value h = listed_ascii (codes ".*") refl

  part_ascii : (part : PartView) → HasAsciiTexts part → IsAscii (part_regexp options part)
  unfolding part_regexp
  part_ascii part spelled = by (is_fixed_text part.kind)
    where
      group : (is_bare : Bool) → IsAscii (if is_bare then bare_regexp part.modifier (matched_by options part.kind part.value)
          else affixed_regexp part.modifier (escaped_regexp options part.prefix) (matched_by options part.kind part.value) (escaped_regexp options part.suffix))
      group true = bare_ascii part.modifier _ (matched_ascii part.kind part.value spelled.0)
      group false =
          affixed_ascii (escaped_regexp options part.prefix) (matched_by options part.kind part.value) (escaped_regexp options part.suffix)
          (escaped_ascii (escaped_marks options.syntax) part.prefix spelled.1) (matched_ascii part.kind part.value spelled.0)
          (escaped_ascii (escaped_marks options.syntax) part.suffix spelled.2) part.modifier

      by : (fixed : Bool) → IsAscii (part_regexp_of options part fixed)
      by true = fixed_ascii part.modifier (escaped_regexp options part.value) (escaped_ascii (escaped_marks options.syntax) part.value spelled.0)
      by false = group (is_empty part.prefix && is_empty part.suffix)

  parts_ascii : (parts : List PartView) → All HasAsciiTexts parts → IsAscii (flat_map (part_regexp options) parts)
  parts_ascii [] spelled = λ i. omega arith
  parts_ascii (part ∷ parts) spelled =
      joined_ascii (part_regexp options part) (flat_map (part_regexp options) parts) (part_ascii part (All-head HasAsciiTexts part parts spelled))
      (parts_ascii parts (All-tail HasAsciiTexts part parts spelled))

  pub regexp_ascii : (parts : List PartView) → All HasAsciiTexts parts → IsAscii (regexp_text options parts)
  regexp_ascii parts spelled =
      signed_ascii (codes "^" ++ flat_map (part_regexp options) parts) (codes "$")
      (joined_ascii (codes "^") (flat_map (part_regexp options) parts) (listed_ascii (codes "^") refl) (parts_ascii parts spelled)) refl
