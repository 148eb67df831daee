-- What an automaton is made of, and what it returns.
use Rattle.std.specs.Prelude.{◌≡◌, ℕ, ◌-◌, ◌*◌, ◌/◌, ◌&&◌, ◌==◌, Bool, true, List, map, length, Option, Some, None, nat_le, if◌then◌else◌, option_and_then, option_map, encode_utf8_all, slice_index, String, string_bytes}
use Rattle.std.specs.declared.alloc.Global.{Global}
use Rattle.std.specs.List.{range_with_len}
use Rattle.regex.specs.Search.{is_cut_at}
use Rattle.regex.specs.Strings.{IsReadFromSource, regex_config}
use Rattle.regex.specs.Writes.{both, group_of}
use Rattle.regex.specs.declared.string.regex.Regex.{Regex}
use Rattle.regex_compile.specs.Implements.{Implements}
use Rattle.regex_extract.specs.Bounds.{IsAnchored}
use Rattle.regex_hir.specs.Find.{Match}
use Rattle.regex_hir.specs.Meaning.{meaning}
use Rattle.regex_hir.specs.declared.hir.Hir.{Hir}
use Rattle.regex_nfa.specs.declared.nfa.Nfa.{Nfa}
use Rattle.regex_syntax.specs.Grammar.{Names, read}
use Rattle.regex_syntax.specs.Verdict.{Reads}
use Rattle.regex_syntax.specs.WellFormed.{IsWellFormed}
use Rattle.regex_vm.specs.Found.{first_match}
use Rattle.urlpattern_expressions.specs.Expressions.{config_for}
use Rattle.urlpattern_matcher.specs.Regexes.{regex_text, text_between}
use Rattle.urlpattern_engine.specs.GrammarReadings.{re_result}
use Rattle.urlpattern_meaning.specs.PartMeaning.{Captures}

-- The characters between two byte positions. None: the positions are not in order or not at
-- character boundaries.
abbrev pub text_cut : (bytes : List ℕ) → ℕ × ℕ → Option (List ℕ)
text_cut bytes span =
    if nat_le span.0 span.1 && (is_cut_at true bytes span.0 && is_cut_at true bytes span.1)
    then Some (text_between bytes span) else None

-- The captures of the first `count` groups of the match `found`, from group 1 on.
abbrev pub match_captures : (bytes : List ℕ) → (count : ℕ) → Match → Captures
match_captures bytes count found =
    map (λ n. option_and_then (text_cut bytes) (group_of found n)) (range_with_len 1 count)

-- The preferred match of the automaton at the start of the bytes. None: no match.
abbrev pub match_at_start : Nfa → (bytes : List ℕ) → Option Match
match_at_start nfa bytes = first_match nfa bytes (length bytes) 0 0

-- The captures of the match at the start of the text, without group 0, the whole match. None: no
-- match.
unfoldable pub automaton_result : Nfa → List ℕ → Option Captures
automaton_result nfa text =
    let bytes = encode_utf8_all text in
    option_map (match_captures bytes (nfa.slot_count / 2 - 1)) (match_at_start nfa bytes)

-- The `Regex` was built from the text with the default options, and with case ignored or not.
pub record IsRegexReadAs (ignore_case : Bool) (regexp : List ℕ) (regex : Regex) : Type 0 where
  pub of_text : regex_text regex ≡ regexp
  pub by_case : regex_config regex ≡ config_for ignore_case
  pub is_read : IsReadFromSource regex

-- The captures of the first match of `regexp`, as the grammar reads it, in the text. None: no
-- match, or the grammar reads nothing.
abbrev pub read_result : (ignore_case : Bool) → (regexp : List ℕ) → List ℕ → Option Captures
read_result ignore_case regexp text =
    option_and_then (λ (pattern, names). re_result pattern.value (length names) text)
    (read (config_for ignore_case) regexp)

-- The names of groups, as UTF-8.
abbrev pub names_of : List (Option (String Global)) → Names
names_of names = map (option_map string_bytes) names

-- The automaton matches what the expression `source` matches as the grammar reads it, and `source`
-- matches only at the start of a text.
pub record IsNfaOf (ignore_case : Bool) (source : List ℕ) (nfa : Nfa) : Type 0 where
  pub tree : Hir
  pub names : Names
  pub is_read : Reads (config_for ignore_case) source tree names
  pub is_formed : IsWellFormed true tree
  pub is_anchored : IsAnchored true (meaning tree)
  pub implements : Implements nfa (meaning tree)
  pub slots : nfa.slot_count ≡ 2 * length names

-- ---- the cells of a search

-- The position that a cell holds: one less than the cell, or none if the cell is 0.
abbrev pub place_of : (cell : ℕ) → Option ℕ
place_of cell = if cell == 0 then None else Some (cell - 1)

-- The captures of the first `count` groups, from group 1 on, each by its two cells: start and end.
abbrev pub cell_texts : (bytes cells : List ℕ) → (count : ℕ) → Captures
cell_texts bytes cells count =
    map (λ n.
    option_and_then (text_cut bytes) (both (place_of (slice_index cells (2 * n - 2)))
    (place_of (slice_index cells (2 * n - 1)))))
    (range_with_len 1 count)
