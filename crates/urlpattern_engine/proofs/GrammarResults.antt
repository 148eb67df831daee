-- The results of trees, of values of `regex`, and of the dialect are those of what the grammar
-- reads.
use Rattle.std.proofs.Common.{◌≡◌, ℕ, ◌+◌, ◌-◌, ◌*◌, List, map, length, Option, Some, None, IsSome, IsSomeAnd, is_some, option_map, true, Bool, false, true≢false, refl, sym, ap, subst, suc, arith, codes, ◌∙◌, ◌++◌, ◌⊎◌, inl, inr}
use Rattle.std.specs.List.{range_with_len}
use Rattle.std.specs.Prelude.{IsAscii, IsTrue, encode_utf8_all, option_and_then}
use Rattle.std.specs.Str.{all_scalars, chars}
use Rattle.std.proofs.lemmas.List.{length-replicate}
use lib.Utf8.{scalars}
use Rattle.regex_hir.specs.Find.{Match, find_str, slot_of}
use Rattle.regex_hir.specs.Meaning.{meaning}
use Rattle.regex_hir.specs.Re.{Re}
use Rattle.regex_hir.specs.declared.hir.Hir.{Hir}
use Rattle.regex_hir.proofs.OptionLemmas.{value_of_IsSome}
use Rattle.regex_syntax.specs.Brackets.{Nested}
use Rattle.regex_syntax.specs.Captures.{SameCaptures}
use Rattle.regex_syntax.specs.Grammar.{Names, read}
use Rattle.regex_syntax.specs.Verdict.{Reads}
use Rattle.regex_syntax.specs.declared.Config.{Config}
use Rattle.regex_syntax.proofs.CapturesLemmas.{alike_of_same}
use Rattle.regex.specs.Strings.{regex_names, regex_source}
use Rattle.regex.specs.Writes.{both, group_of}
use Rattle.regex.specs.declared.string.regex.Regex.{Regex}
use Rattle.regex.proofs.ForCallers.{found_alike, is_match_alike}
use Rattle.urlpattern_matcher.specs.Regexes.{IsRegexOf, group_texts, regex_result, text_between}
use Rattle.urlpattern_engine.proofs.Bytes.{bytes_below}
use Rattle.urlpattern_engine.proofs.GroupsRejected.{tree_reads}
use Rattle.urlpattern_engine.proofs.TreeSearch.{found_is_first}
use Rattle.urlpattern_engine.proofs.TreesRead.{re_of, scalars_parts}
use Rattle.urlpattern_meaning.specs.Dialect.{IsTreeOf, Items, group_count, items_text}
use Rattle.urlpattern_meaning.specs.PartMeaning.{Captures}
use Rattle.urlpattern_meaning.specs.Matching.{is_same_character}
use Rattle.urlpattern_meaning.specs.Ways.{first_way_by, ways_as}
use Rattle.urlpattern_meaning.proofs.WaysJoined.{first_of}
use Rattle.urlpattern_engine.proofs.AsciiWays.{front_ascii, items_alike}
use Rattle.urlpattern_engine.proofs.FoldedCharacters.{grammar_same-ascii}
use Rattle.urlpattern_engine.proofs.AtomsRead.{grammar_same, same_if_kept}
use Rattle.urlpattern_engine.specs.Automatons.{IsRegexReadAs, read_result}
use Rattle.urlpattern_expressions.specs.Expressions.{config_for}
use Rattle.urlpattern_engine.specs.GrammarReadings.{re_result}

-- The captures of the first match of a tree with these names of groups.
abbrev pub tree_answer : Hir → Names → List ℕ → Option Captures
tree_answer hir names text = re_result (meaning hir) (length names) text

-- ---- patterns that match alike

module _ (a b : Re) (alike : SameCaptures a b) (text : List ℕ) (fine : IsTrue (all_scalars text)) where
  abbrev bytes : List ℕ
  bytes = encode_utf8_all text

  abbrev texts_of : ℕ → Match → Captures
  texts_of count found = group_texts bytes count (group_of found)

  same_texts : (count : ℕ) (m n : Match) → slot_of n ≡ slot_of m → texts_of count m ≡ texts_of count n
  same_texts count m n e =
      ap (λ (slots : ℕ → Option ℕ). map (λ k. option_map (text_between bytes) (both (slots (2 * k)) (slots (2 * k + 1)))) (range_with_len 1 count)) (sym e)

  carried : (count : ℕ) (o p : Option Match) → is_some o ≡ is_some p → ((m : Match) → o ≡ Some m → (n : Match) × (p ≡ Some n) × (slot_of n ≡ slot_of m))
      → option_map (texts_of count) o ≡ option_map (texts_of count) p
  carried count None None e f = refl
  carried count None (Some n) e f = absurd (true≢false (sym e))
  carried count (Some m) p e f =
      let found = f m refl in
      ap Some (same_texts count m found.0 found.2) ∙ ap (option_map (texts_of count)) (sym found.1)

  pub answers_alike : (groups : ℕ) → re_result a groups text ≡ re_result b groups text
  answers_alike groups =
      let below = bytes_below text fine in
      carried (groups - 1) (find_str a bytes 0) (find_str b bytes 0) (is_match_alike alike bytes below true 0) (found_alike alike bytes below true 0)

-- ---- what the grammar reads

-- The result of a tree with the matches of what is read.
if_read : (o : Option (Nested Re × Names)) (P : Nested Re × Names → Type 0) (hir : Hir) (names : Names) (text : List ℕ) → IsTrue (all_scalars text)
    → ((found : Nested Re × Names) → P found → SameCaptures (meaning hir) found.0.value × (names ≡ found.1)) → IsSomeAnd o P
    → tree_answer hir names text ≡ option_and_then (λ (pattern, others). re_result pattern.value (length others) text) o
if_read None P hir names text fine same p = absurd p
if_read (Some found) P hir names text fine same p =
    let known = same found p in
    ap (λ (all : Names). re_result (meaning hir) (length all) text) known.1 ∙ answers_alike (meaning hir) found.0.value known.0 text fine (length found.1)

-- The result of a tree that the grammar reads in a text.
pub tree_as_read : (ignore_case : Bool) (source : List ℕ) (hir : Hir) (names : Names) → Reads (config_for ignore_case) source hir names → (text : List ℕ) → IsTrue (all_scalars text)
    → tree_answer hir names text ≡ read_result ignore_case (chars source) text
unfolding Reads
tree_as_read ignore_case source hir names is_read text fine =
    if_read (read (config_for ignore_case) (chars source)) _ hir names text fine (λ found known. (known.1, known.2)) is_read

some_of : {A : Type 0} (o : Option A) (P : A → Type 0) → IsSomeAnd o P → IsSome o
some_of None P p = absurd p
some_of (Some a) P p = refl

-- The grammar reads a pattern in each text in which it reads a tree.
pub reads_some : (config : Config) (source : List ℕ) (hir : Hir) (names : Names) → Reads config source hir names → IsSome (read config (chars source))
unfolding Reads
reads_some config source hir names is_read = some_of (read config (chars source)) _ is_read

-- The result, if what is read is known.
pub read_answer_is : (ignore_case : Bool) (regexp : List ℕ) (found : Nested Re × Names) → read (config_for ignore_case) regexp ≡ Some found → (text : List ℕ)
    → read_result ignore_case regexp text ≡ re_result found.0.value (length found.1) text
read_answer_is ignore_case regexp found e text = ap (option_and_then (λ (pattern, names). re_result pattern.value (length names) text)) e

-- The first match of a tree of the dialect, with the grammar's test of characters, is that of what
-- is read in its text.
pub first_as_read : (ignore_case : Bool) (regexp : List ℕ) (tree : Items) → IsTreeOf regexp tree → scalars regexp ≡ true → IsSome (read (config_for ignore_case) regexp)
    → (text : List ℕ) → IsTrue (all_scalars text) → first_of (ways_as (grammar_same ignore_case) tree text) ≡ read_result ignore_case regexp text
first_as_read ignore_case regexp tree is all some text fine =
    let whole : scalars (codes "^" ++ items_text tree ++ codes "$") ≡ true = ap scalars (sym is.0) ∙ all in
    let good : scalars (items_text tree) ≡ true = (scalars_parts (items_text tree) (codes "$") whole).0 in
    let config = config_for ignore_case in
    let re = re_of ignore_case tree in
    let value = value_of_IsSome (read config regexp) some in
    let found = value.0 in
    let same = tree_reads ignore_case tree is.1 good found (ap (read config) (sym is.0) ∙ value.1) in
    let none : Option (List ℕ) = None in
    let count : length found.1 - 1 ≡ group_count tree =
    omega (arith, ap (λ (f : Nested Re × Names). length f.1) same.0, length-replicate (suc (group_count tree)) none) in
    sym
    (answers_alike found.0.value re (alike_of_same same.1.matches) text fine (length found.1)
    ∙ ap (λ n. option_map (λ m. group_texts (encode_utf8_all text) n (group_of m)) (find_str re (encode_utf8_all text) 0)) count
    ∙ found_is_first (grammar_same ignore_case) tree is.1 text fine)
    ∙ sym (read_answer_is ignore_case regexp found value.1 text)

-- The grammar's test of characters is that of trees: case is kept, or the expression and the text
-- are ASCII.
abbrev pub AreAlike : (ignore_case : Bool) (regexp text : List ℕ) → Type 0
AreAlike ignore_case regexp text = (ignore_case ≡ false) ⊎ (IsAscii regexp × IsAscii text)

-- The first match of a tree of the dialect is then that of what is read in its text.
pub tree_first_as_read : (ignore_case : Bool) (regexp : List ℕ) (tree : Items) → IsTreeOf regexp tree → scalars regexp ≡ true → IsSome (read (config_for ignore_case) regexp)
    → (text : List ℕ) → IsTrue (all_scalars text) → AreAlike ignore_case regexp text → first_way_by ignore_case tree text ≡ read_result ignore_case regexp text
unfolding first_way_by
tree_first_as_read false regexp tree is all some text fine (inl kept) =
    ap (λ same. first_of (ways_as same tree text)) (sym same_if_kept) ∙ first_as_read false regexp tree is all some text fine
tree_first_as_read true regexp tree is all some text fine (inl kept) = absurd (true≢false kept)
tree_first_as_read ignore_case regexp tree is all some text fine (inr (spelled, ascii)) =
    let inside : IsAscii (items_text tree) = front_ascii (items_text tree) (codes "$") (λ i. subst IsAscii is.0 spelled (suc i)) in
    ap first_of (sym (items_alike (grammar_same ignore_case) (is_same_character ignore_case) (grammar_same-ascii ignore_case) tree inside text ascii).0)
    ∙ first_as_read ignore_case regexp tree is all some text fine

-- ---- values of the crate `regex`

-- A value that was read with the default options.
pub read_by_default : (regexp : List ℕ) (regex : Regex) → IsRegexOf regexp regex → IsRegexReadAs false regexp regex
read_by_default regexp regex made = record { of_text = made.of_text; by_case = made.by_default; is_read = made.is_read }

module _ (ignore_case : Bool) (regexp : List ℕ) (regex : Regex) (made : IsRegexReadAs ignore_case regexp regex) where
  reads : Reads (config_for ignore_case) (regex_source regex) regex.pattern.program.hir (regex_names regex)
  reads = rw (made.by_case) at made.is_read

  pub regex_some : IsSome (read (config_for ignore_case) regexp)
  regex_some = subst (λ t. IsSome (read (config_for ignore_case) t)) made.of_text (reads_some (config_for ignore_case) (regex_source regex) _ _ reads)

  -- A value of `regex` returns the first match of what the grammar reads in its text.
  pub regex_as_read : (text : List ℕ) → IsTrue (all_scalars text) → regex_result regex text ≡ read_result ignore_case regexp text
  unfolding regex_result
  regex_as_read text fine =
      tree_as_read ignore_case (regex_source regex) _ _ reads text fine ∙ ap (λ t. read_result ignore_case t text) made.of_text
