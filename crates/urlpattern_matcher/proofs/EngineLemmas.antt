-- What a value of the crate `regex` returns.
use Rattle.std.proofs.Common.{◌≡◌, ℕ, zero, suc, ◌+◌, ◌-◌, ◌≤◌, List, ◌∷◌, map, length, Option, Some, None, option_map, refl, ap, ap₂, ◌∙◌, arith}
use Rattle.std.proofs.lemmas.Str.{encodes-chars}
use Rattle.std.specs.List.{range_with_len}
use Rattle.std.specs.Str.{chars, IsUtf8}
use Rattle.regex.specs.Patterns.{Match, find_str}
use Rattle.regex.specs.Strings.{IsCapturesOf, captures_haystack, captures_names, captures_span, regex_names, regex_pattern}
use Rattle.regex.specs.Writes.{group_of}
use Rattle.regex.specs.declared.string.captures.Captures.{Captures}
use Rattle.regex.specs.declared.string.regex.Regex.{Regex}
use Rattle.urlpattern_matcher.specs.Regexes.{group_texts, regex_result, text_between}
use Rattle.urlpattern_meaning.specs.PartMeaning as meaning

-- Groups of equal spans, from group 1 on, have equal texts.
texts_from-same : (bytes : List ℕ) (first count : ℕ) (f g : ℕ → Option (ℕ × ℕ)) → 1 ≤ first → ((n : ℕ) → 1 ≤ n → f n ≡ g n)
    → map (λ n. option_map (text_between bytes) (f n)) (range_with_len first count) ≡ map (λ n. option_map (text_between bytes) (g n)) (range_with_len first count)
texts_from-same bytes first zero f g some same = refl
texts_from-same bytes first (suc count) f g some same =
    ap₂ ◌∷◌ (ap (option_map (text_between bytes)) (same first some)) (texts_from-same bytes (first + 1) count f g (omega arith) same)

-- The texts of the captures are those of the match that they show.
group_texts-captures : (bytes : List ℕ) (count : ℕ) (found : Match) (captures : Captures) → IsCapturesOf bytes found captures
    → group_texts (captures_haystack captures) count (captures_span captures) ≡ group_texts bytes count (group_of found)
group_texts-captures bytes count found captures shown =
    ap (λ hay. group_texts hay count (captures_span captures)) shown.0
    ∙ texts_from-same bytes 1 count (captures_span captures) (group_of found) (omega arith) shown.2

-- A match: the result is the texts of its captures.
pub answer_of_captures : (regex : Regex) (bytes : List ℕ) (found : Match) (captures : Captures) (texts : meaning.Captures) → IsUtf8 bytes
    → find_str (regex_pattern regex) bytes 0 ≡ Some found → IsCapturesOf bytes found captures → captures_names captures ≡ regex_names regex
    → texts ≡ group_texts (captures_haystack captures) (length (captures_names captures) - 1) (captures_span captures)
    → Some texts ≡ regex_result regex (chars bytes)
unfolding regex_result
answer_of_captures regex bytes found captures texts utf8 is_found shown names is =
    let of_match : texts ≡ group_texts bytes (length (regex_names regex) - 1) (group_of found) =
    is ∙ ap (λ all. group_texts (captures_haystack captures) (length all - 1) (captures_span captures)) names
    ∙ group_texts-captures bytes (length (regex_names regex) - 1) found captures shown
    in
    rw (encodes-chars bytes utf8, is_found) (ap (λ (t : meaning.Captures). Some t) of_match)

-- Without a match the result is None.
pub answer_of_none : (regex : Regex) (bytes : List ℕ) → IsUtf8 bytes → find_str (regex_pattern regex) bytes 0 ≡ None → None ≡ regex_result regex (chars bytes)
unfolding regex_result
answer_of_none regex bytes utf8 none = rw (encodes-chars bytes utf8, none)
