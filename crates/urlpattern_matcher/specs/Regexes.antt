-- What a value of the crate `regex` is made of, and what it returns.
use Rattle.std.specs.Prelude.{◌≡◌, ⊤, ℕ, ◌-◌, ◌^◌, ◌<◌, false, IsTrue, List, map, length, Option, option_map, encode_utf8_all, slice_range}
use Rattle.std.specs.List.{range_with_len}
use Rattle.std.specs.Str.{all_scalars, chars}
use Rattle.regex.specs.Patterns.{default_config, find_str}
use Rattle.regex.specs.Strings.{IsReadFromSource, captures_haystack, captures_names, captures_span, regex_config, regex_names, regex_pattern, regex_source}
use Rattle.regex.specs.Writes.{group_of}
use Rattle.regex.specs.declared.string.captures.Captures.{Captures as RegexCaptures}
use Rattle.regex.specs.declared.string.regex.Regex.{Regex}
use Rattle.regex_syntax.specs.Verdict.{Refuses, default_config as default_syntax}
use Rattle.regex_syntax.specs.declared.error.ErrorKind.{ErrorKind}
use Rattle.urlpattern_printing.specs.Generated.{AreGenerated}
use Rattle.urlpattern_matcher.specs.declared.regexp.RegExp.{Ghosts as Engine}
use Rattle.urlpattern_meaning.specs.Dialect.{IsTreeOf, Items, group_count}
use Rattle.urlpattern_meaning.specs.PartMeaning.{Captures}
use Rattle.urlpattern_syntax.specs.declared.parser.RegexSyntax.TheVariants.{Rust}
use Rattle.urlpattern_syntax.specs.{Options.OptionsView, Parts.PartView, RegexpText.regexp_text}

-- The regular expression that `regex` was built from.
abbrev pub regex_text : Regex → List ℕ
regex_text regex = chars (regex_source regex)

-- `regex` was built from the regular expression `regexp`, with the default options of the crate.
pub record IsRegexOf (regexp : List ℕ) (regex : Regex) : Type 0 where
  pub of_text : regex_text regex ≡ regexp
  pub by_default : regex_config regex ≡ default_config
  pub is_read : IsReadFromSource regex

-- The characters of `bytes` from the byte index `span.0` up to but not including `span.1`.
abbrev pub text_between : (bytes : List ℕ) → ℕ × ℕ → List ℕ
text_between bytes span = chars (slice_range bytes span.0 span.1)

-- What the groups 1 to `count` capture of `bytes`; `span_of` is the range of bytes of a group, or
-- None if the group took no part.
abbrev pub group_texts : (bytes : List ℕ) → (count : ℕ) → (span_of : ℕ → Option (ℕ × ℕ)) → Captures
group_texts bytes count span_of =
    map (λ n. option_map (text_between bytes) (span_of n)) (range_with_len 1 count)

-- What the groups of a match capture, without group 0, the whole match.
abbrev pub found_texts : RegexCaptures → Captures
found_texts found =
    group_texts (captures_haystack found) (length (captures_names found) - 1) (captures_span found)

-- What `regex` returns for `text`: what the groups of the first match capture, without group 0, the
-- whole match, or None if there is no match.
unfoldable pub regex_result : Regex → List ℕ → Option Captures
regex_result regex text =
    let bytes = encode_utf8_all text in
    let count = length (regex_names regex) - 1 in
    option_map (λ found. group_texts bytes count (group_of found))
    (find_str (regex_pattern regex) bytes 0)

-- `regexp` is a text of characters and has a tree, with fewer groups than the crate can count.
abbrev pub HasFewGroups : (regexp : List ℕ) → Type 0
HasFewGroups regexp =
    IsTrue (all_scalars regexp)
    × ((tree : Items) × IsTreeOf regexp tree × (group_count tree < 2 ^ 32 - 1))

-- If the crate's parser rejects `regexp`, the reason is that memory ran out.
abbrev pub IsRejectedForMemory : (regexp : List ℕ) → Type 0
IsRejectedForMemory regexp =
    (kind : ErrorKind) → Refuses default_syntax (encode_utf8_all regexp) kind
    → kind ≡ ErrorKind.OutOfMemory

-- The crate's parser rejects the regular expression of parts, none of them custom and with few
-- groups, only because memory ran out.
abbrev pub AcceptsGeneratedSyntax : Type 0
AcceptsGeneratedSyntax = (options : OptionsView) (parts : List PartView) →
    AreGenerated parts
    → HasFewGroups (regexp_text options parts)
    → IsRejectedForMemory (regexp_text options parts)

-- The crate `regex` as an engine: flags are ignored, and any expression may be rejected.
abbrev pub regex_engine : Engine Regex
regex_engine = record {
  syntax_of = Rust;
  IsMade = λ regex regexp flags. IsRegexOf regexp regex;
  MayReject = λ regexp flags force_eval. ⊤;
  answer = regex_result;
  text_made_of = regex_text;
  case_honoured = false;
}
