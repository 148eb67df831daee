-- The regular expression text of a list of parts and the names of its groups, after the URLPattern
-- Standard, section "Converting part lists to regular expressions".
use Rattle.std.specs.Prelude.{ℕ, Bool, true, false, not, ◌&&◌, List, [], ◌∷◌, ◌++◌, map, filter, codes, Option, Some, None, if◌then◌else◌}
use Rattle.std.specs.List.{flat_map}
use Rattle.urlpattern_syntax.specs.Options.{OptionsView, RegexSyntax}
use Rattle.urlpattern_syntax.specs.Parts.{PartModifier, PartType, PartView}
use Rattle.urlpattern_syntax.specs.Text.{is_among}

-- The characters that are special in regular expressions of either syntax.
abbrev pub regexp_marks : List ℕ
regexp_marks = codes ".+*?^${}()[]|\\"

-- The characters that are escaped with a backslash in regular expressions of this syntax.
abbrev pub escaped_marks : RegexSyntax → List ℕ
escaped_marks RegexSyntax.Rust = regexp_marks
escaped_marks RegexSyntax.EcmaScript = regexp_marks ++ codes "/"

-- The text with a backslash before each of the marks.
unfoldable pub escaped : (marks text : List ℕ) → List ℕ
escaped marks text = flat_map (λ c. if is_among marks c then codes "\\" ++ c ∷ [] else c ∷ []) text

-- The text, escaped for a regular expression in the syntax of the options.
abbrev pub escaped_regexp : OptionsView → List ℕ → List ℕ
escaped_regexp options text = escaped (escaped_marks options.syntax) text

-- The regular expression of a segment wildcard: one or more characters other than the delimiter, or
-- `.+?` without a delimiter.
abbrev pub segment_wildcard_of : RegexSyntax → Option ℕ → List ℕ
segment_wildcard_of syntax None = codes ".+?"
segment_wildcard_of syntax (Some c) =
    codes "[^" ++ escaped (escaped_marks syntax) (c ∷ []) ++ codes "]+?"

-- The regular expression of a segment wildcard under the options.
abbrev pub segment_wildcard : OptionsView → List ℕ
segment_wildcard options = segment_wildcard_of options.syntax options.delimiter

-- The regular expression of a full wildcard, which is greedy.
abbrev pub full_wildcard : List ℕ
full_wildcard = codes ".*"

-- The sign of a modifier, in patterns and after a group of a regular expression.
abbrev pub modifier_text : PartModifier → List ℕ
modifier_text PartModifier.None = []
modifier_text PartModifier.Optional = codes "?"
modifier_text PartModifier.ZeroOrMore = codes "*"
modifier_text PartModifier.OneOrMore = codes "+"

-- The regular expression of a single match of a part of this kind, without prefix, suffix and
-- modifier.
abbrev pub matched_by : OptionsView → PartType → (value : List ℕ) → List ℕ
matched_by options PartType.FixedText value = escaped_regexp options value
matched_by options PartType.Regexp value = value
matched_by options PartType.SegmentWildcard value = segment_wildcard options
matched_by options PartType.FullWildcard value = full_wildcard

-- The regular expression in a capturing group.
abbrev pub captured : List ℕ → List ℕ
captured text = codes "(" ++ text ++ codes ")"

-- The regular expression in a group that does not capture.
abbrev pub grouped : List ℕ → List ℕ
grouped text = codes "(?:" ++ text ++ codes ")"

-- The regular expression of a fixed text, by its modifier. `text` is the escaped text.
abbrev pub fixed_regexp : PartModifier → List ℕ → List ℕ
fixed_regexp PartModifier.None text = text
fixed_regexp modifier text = grouped text ++ modifier_text modifier

-- The regular expression of a group without prefix and suffix, by its modifier. `text` is the
-- expression of a single match.
abbrev pub bare_regexp : PartModifier → List ℕ → List ℕ
bare_regexp PartModifier.None text = captured text
bare_regexp PartModifier.Optional text = captured text ++ codes "?"
bare_regexp PartModifier.ZeroOrMore text = captured (grouped text ++ codes "*")
bare_regexp PartModifier.OneOrMore text = captured (grouped text ++ codes "+")

-- The regular expression of one or more matches of `text`, with suffix and prefix between them. The
-- first prefix and the last suffix are not captured.
abbrev pub repeated_regexp : (prefix text suffix : List ℕ) → List ℕ
repeated_regexp prefix text suffix =
    grouped (prefix
    ++ captured (grouped text ++ grouped (suffix ++ prefix ++ grouped text) ++ codes "*")
    ++ suffix)

-- The regular expression of a group with a prefix or a suffix, by its modifier. `text` is the
-- expression of a single match.
abbrev pub affixed_regexp : PartModifier → (prefix text suffix : List ℕ) → List ℕ
affixed_regexp PartModifier.None prefix text suffix = grouped (prefix ++ captured text ++ suffix)
affixed_regexp PartModifier.Optional prefix text suffix =
    grouped (prefix ++ captured text ++ suffix) ++ codes "?"
affixed_regexp PartModifier.OneOrMore prefix text suffix = repeated_regexp prefix text suffix
affixed_regexp PartModifier.ZeroOrMore prefix text suffix =
    repeated_regexp prefix text suffix ++ codes "?"

-- Whether the text is empty.
abbrev pub is_empty : List ℕ → Bool
is_empty [] = true
is_empty (c ∷ text) = false

-- Whether a part of this kind is a fixed text.
abbrev pub is_fixed_text : PartType → Bool
is_fixed_text PartType.FixedText = true
is_fixed_text kind = false

-- A part of this kind is a segment wildcard or a full wildcard.
abbrev pub IsWildcard : PartType → Type 0
IsWildcard PartType.SegmentWildcard = Unit {0}
IsWildcard PartType.FullWildcard = Unit {0}
IsWildcard kind = ⊥

-- Whether there is no modifier.
abbrev pub is_unmodified : PartModifier → Bool
is_unmodified PartModifier.None = true
is_unmodified modifier = false

-- Whether the part is a fixed text without a modifier.
abbrev pub is_plain : PartView → Bool
is_plain part = is_fixed_text part.kind && is_unmodified part.modifier

-- The regular expression of a group, with or without prefix and suffix.
abbrev pub group_regexp : OptionsView → PartView → List ℕ
group_regexp options part =
    if is_empty part.prefix && is_empty part.suffix
    then bare_regexp part.modifier (matched_by options part.kind part.value)
    else affixed_regexp part.modifier (escaped_regexp options part.prefix)
    (matched_by options part.kind part.value) (escaped_regexp options part.suffix)

-- The regular expression of a part, by whether the part is a fixed text.
abbrev pub part_regexp_of : OptionsView → PartView → Bool → List ℕ
part_regexp_of options part true = fixed_regexp part.modifier (escaped_regexp options part.value)
part_regexp_of options part false = group_regexp options part

-- The regular expression of a part.
unfoldable pub part_regexp : OptionsView → PartView → List ℕ
part_regexp options part = part_regexp_of options part (is_fixed_text part.kind)

-- The regular expression of a list of parts, from `^` to `$`.
abbrev pub regexp_text : OptionsView → List PartView → List ℕ
regexp_text options parts = codes "^" ++ flat_map (part_regexp options) parts ++ codes "$"

-- The names of the groups, in order: those of all parts but fixed texts.
abbrev pub group_names : List PartView → List (List ℕ)
group_names parts = map (λ part. part.name) (filter (λ part. not (is_fixed_text part.kind)) parts)
