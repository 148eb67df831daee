-- Which texts a custom regular expression matches from start to end, if the grammar of the crate
-- `regex` reads the expression alone.
use Rattle.std.specs.Prelude.{ℕ, ◌+◌, ◌*◌, Bool, true, false, ◌&&◌, ◌==◌, List, [], ◌∷◌, length, None, IsSomeAnd, encode_utf8_all}
use Rattle.std.specs.Char.{len_utf8}
use Rattle.regex_hir.specs.Matches.{Matches}
use Rattle.regex_hir.specs.Meaning.{alt_all}
use Rattle.regex_hir.specs.Re.{Re, empty, literal, byte_in, char_in, look, cat, alt, group, plus}
use Rattle.regex_hir.specs.Text.{char_at, is_some_and}
use Rattle.regex_syntax.specs.Brackets.{join}
use Rattle.regex_syntax.specs.Grammar.{branches, read}
use Rattle.regex_syntax.specs.Verdict.{default_config, default_flags}
use Rattle.regex_syntax.specs.declared.Config.{Config}
use Rattle.urlpattern_syntax.specs.Text.{lacks}

-- The default options of the grammar, with case ignored (the flag `i`) or not.
abbrev pub config_for : (ignore_case : Bool) → Config
config_for ignore_case = record default_config {
  flags = record default_flags {
    case_insensitive =
        ignore_case;
  };
}

-- The pattern, which a grammar reads in an expression, matches the text from its first byte to its
-- last.
abbrev pub MatchesWhole : Re → (text : List ℕ) → Type 0
MatchesWhole pattern text = Matches (encode_utf8_all text) pattern 0 (length (encode_utf8_all text))

-- The grammar of `regex` reads the expression by itself, as a pattern that matches the whole text.
abbrev pub ExpressionMatches : (expression text : List ℕ) → Type 0
ExpressionMatches expression text =
    IsSomeAnd (read default_config expression) (λ (pattern, names). MatchesWhole pattern.value text)

-- ---- expressions that mean the same by themselves and in a longer expression

-- Whether the bytes encode a single character.
abbrev pub is_one_character : (bytes : List ℕ) → Bool
is_one_character bytes = is_some_and (char_at bytes 0) (λ c. len_utf8 c == length bytes)

-- Whether the list of ranges is empty.
abbrev pub is_nothing : List (ℕ × ℕ) → Bool
is_nothing [] = true
is_nothing ranges = false

-- Whether each step of the pattern matches a single character: each literal is a character, byte
-- classes are empty, and there are no assertions.
abbrev pub matches_characters : Re → Bool
matches_characters empty = true
matches_characters (literal bytes) = is_one_character bytes
matches_characters (byte_in ranges) = is_nothing ranges
matches_characters (char_in ranges) = true
matches_characters (look assertion) = false
matches_characters (cat first second) = matches_characters first && matches_characters second
matches_characters (alt first second) = matches_characters first && matches_characters second
matches_characters (group number inner) = matches_characters inner
matches_characters (plus greedy inner) = matches_characters inner

-- The character `#`, which begins a comment under the flag `x`.
abbrev pub comment_sign : ℕ
comment_sign = 0x23

-- Whether the expression stands alone where case is ignored or kept: the grammar reads it as steps
-- that match characters, and it has no `#`, after which the text that follows could be a comment.
unfoldable pub is_self_contained_by : (ignore_case : Bool) → (expression : List ℕ) → Bool
is_self_contained_by ignore_case expression =
    lacks comment_sign expression
    && is_some_and (read (config_for ignore_case) expression) (λ
    (pattern, names). matches_characters pattern.value)

-- Whether the expression stands alone where case is kept.
abbrev pub is_self_contained : (expression : List ℕ) → Bool
is_self_contained = is_self_contained_by false

-- ---- expressions that capture nothing

-- Whether the pattern has no group that captures.
abbrev pub is_groupless : Re → Bool
is_groupless (cat first second) = is_groupless first && is_groupless second
is_groupless (alt first second) = is_groupless first && is_groupless second
is_groupless (group number inner) = false
is_groupless (plus greedy inner) = is_groupless inner
is_groupless pattern = true

-- Whether the grammar reads the expression, where case is ignored or kept, without a group that
-- captures. A group that is repeated zero times is not in the pattern, but has a number too.
unfoldable pub captures_nothing_by : (ignore_case : Bool) → (expression : List ℕ) → Bool
captures_nothing_by ignore_case expression =
    is_some_and (branches (2 * length expression + 2)
    (record { config = config_for ignore_case; names = None ∷ []; text = expression })) (λ
    (patterns, end).
    (length end.names == 1) && is_groupless (join alt_all patterns).value)

-- Whether the grammar reads the expression, where case is kept, without a group that captures.
abbrev pub captures_nothing : (expression : List ℕ) → Bool
captures_nothing = captures_nothing_by false
