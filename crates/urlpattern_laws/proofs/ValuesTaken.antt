-- A value of an engine returns captures exactly for the texts that the parts of its expression
-- match.
use Rattle.std.proofs.Common.{◌-◌, true≢false, ◌≡◌, ℕ, suc, ◌^◌, ◌≤◌, List, ◌++◌, length, Bool, true, false, Option, Some, None, IsSome, is_some, option_map, inl, inr, refl, sym, ap, ◌∙◌, subst, arith, codes, length-append, encode_utf8_all}
use Rattle.std.specs.List.{flat_map}
use Rattle.std.specs.Prelude.{⊤, IfSome, IsTrue}
use Rattle.std.specs.Str.{all_scalars}
use lib.Utf8.{scalars}
use Rattle.regex.specs.declared.string.regex.Regex.{Regex}
use Rattle.regex.specs.Writes.{group_of}
use Rattle.regex_hir.specs.Find.{Match, find_str}
use Rattle.regex_hir.specs.Meaning.{cat_all}
use Rattle.regex_hir.specs.Re.{Re}
use Rattle.regex_hir.proofs.OptionLemmas.{value_of_IsSome}
use Rattle.regex_syntax.specs.Brackets.{Nested}
use Rattle.regex_syntax.specs.Grammar.{Names, read}
use Rattle.regex_syntax.specs.Verdict.{default_config}
use Rattle.urlpattern_matcher.specs.FirstWays.{KeepsCase, Keeping}
use Rattle.urlpattern_matcher.specs.Regexes.{IsRegexOf, group_texts, regex_engine}
use Rattle.urlpattern_matcher.specs.declared.regexp.RegExp.{Ghosts as Engine}
use Rattle.urlpattern_laws.proofs.FirstFound.{found_first}
use Rattle.urlpattern_laws.proofs.PartItems.{parts_count, parts_items, parts_sense}
use Rattle.urlpattern_laws.proofs.ItemsOf.{values}
use Rattle.urlpattern_laws.proofs.Senses.{Fulfils}
use Rattle.urlpattern_laws.proofs.WholeRead.{between_lines, found_captures, search_is, whole_read}
use Rattle.urlpattern_laws.specs.LawsOfTexts.{IsSomeIfMatched, ValuesReturnIfMatched, ValuesCapture}
use Rattle.urlpattern_laws.specs.LawsOfWays.{FirstWaysAreCaptured, ValuesReturnFirstOfParts}
use Rattle.urlpattern_expressions.specs.PartCaptures.{IsCapturedByParts, PartsCapture}
use Rattle.urlpattern_expressions.specs.MatchedPartTexts.{AllCaptureNothing, AllCaptureNothingBy, AllStandAlone, AllStandAloneBy, PartsMatch}
use Rattle.urlpattern_expressions.specs.PartWays.{parts_first_way, parts_first_way_by, parts_ways_as}
use Rattle.urlpattern_engine.proofs.AtomsRead.{grammar_same, same_if_kept}
use Rattle.urlpattern_meaning.proofs.WaysJoined.{first_of}
use Rattle.urlpattern_engine.proofs.EngineLaws.{expression_as_read, expression_good, form_of, pattern_values_read, regex_values_read, text_good}
use Rattle.urlpattern_engine.proofs.GrammarResults.{AreAlike, read_answer_is, read_by_default, regex_some}
use Rattle.urlpattern_expressions.specs.Expressions.{config_for}
use Rattle.urlpattern_engine.specs.PatternRegexps.{HasNumbers, IsExpressionOf, pattern_engine, pattern_result}
use Rattle.urlpattern_engine.specs.GrammarReadings.{re_result}
use Rattle.urlpattern_engine.specs.declared.strategy.Strategy.{Strategy}
use Rattle.urlpattern_engine.specs.declared.pattern_regexp.PatternRegexp.{PatternRegexp}
use Rattle.urlpattern_meaning.specs.Dialect.{Atom, Items, Nothing, Item, Captured, Grouped, IsTreeOf, atom_group_count, atom_text, group_count, items_text, quantifier_text}
use Rattle.urlpattern_meaning.specs.PartMeaning.{Captures}
use Rattle.urlpattern_engine.proofs.TreesRead.{scalars_parts, tree_is_read}
use Rattle.urlpattern_syntax.specs.Options.{OptionsView}
use Rattle.urlpattern_syntax.specs.Parts.{PartView}
use Rattle.urlpattern_syntax.specs.RegexpText.{part_regexp, regexp_text}

mapped : {A B : Type 0} (f : A → B) (o : Option A) → is_some (option_map f o) ≡ is_some o
mapped f None = refl
mapped f (Some a) = refl

-- The result of reading a regular expression, by which an engine returns its results for texts that
-- are such.
record IsReadFor (ignore_case : Bool) (AreSuch : List ℕ → Type 0) (regexp : List ℕ) (answer : List ℕ → Option Captures) : Type 0 where
  good : scalars regexp ≡ true
  found : Nested Re × Names
  is_read : read (config_for ignore_case) regexp ≡ Some found
  answers : (text : List ℕ) → AreSuch text → answer text ≡ re_result found.0.value (length found.1) text

-- For all texts of characters, where case is kept.
abbrev IsReadKept : (regexp : List ℕ) → (answer : List ℕ → Option Captures) → Type 0
IsReadKept = IsReadFor false (λ text. IsTrue (all_scalars text))

read_for : (regexp : List ℕ) (answer : List ℕ → Option Captures) → scalars regexp ≡ true → IsSome (read default_config regexp)
    → IfSome (read default_config regexp) (λ (pattern, names). (text : List ℕ) → IsTrue (all_scalars text) → answer text ≡ re_result pattern.value (length names) text) → IsReadKept regexp answer
read_for regexp answer good some reads =
    let found = value_of_IsSome (read default_config regexp) some in
    record { good = good; found = found.0; is_read = found.1; answers = rw (found.1) at reads }

-- A result by what the grammar reads has captures exactly if the parts match the text.
answers_taken : (options : OptionsView) (parts : List PartView) (answer : List ℕ → Option Captures) → AllStandAlone parts → IsReadKept (regexp_text options parts) answer
    → (text : List ℕ) → IsTrue (all_scalars text) → IsSomeIfMatched options parts text (answer text)
answers_taken options parts answer alone r text fine =
    let t = flat_map (part_regexp options) parts in
    let inside = scalars_parts t (codes "$") (scalars_parts (codes "^") (t ++ codes "$") r.good).1 in
    let whole = (whole_read false t (parts_sense false options parts) (parts_items false options parts alone inside.0) r.found r.is_read).pattern in
    let search = search_is whole.own (PartsMatch options parts) (whole.fulfils.denotes refl) text fine in
    let found : is_some (re_result r.found.0.value (length r.found.1) text) ≡ is_some (find_str r.found.0.value (encode_utf8_all text) 0) = mapped _ (find_str r.found.0.value (encode_utf8_all text) 0) in
    let same : is_some (answer text) ≡ is_some (find_str (between_lines whole.own).value (encode_utf8_all text) 0) =
    ap is_some (r.answers text fine) ∙ found ∙ ap (λ (tree : Nested Re). is_some (find_str tree.value (encode_utf8_all text) 0)) whole.is in
    (λ some. search.0 (sym same ∙ some), λ is. same ∙ search.1 is)

-- ---- captures

-- The captures found in the text are those of the parts.
captured_by : (options : OptionsView) (parts : List PartView) (own : List (Nested Re)) → Fulfils false (parts_sense false options parts) 1 (cat_all (values own)) → AllCaptureNothing parts → (count : ℕ) → count ≡ parts_count parts
    → (text : List ℕ) → IsTrue (all_scalars text) → (o : Option Match) → find_str (between_lines own).value (encode_utf8_all text) 0 ≡ o
    → IsSomeIfMatched options parts text (option_map (λ m. group_texts (encode_utf8_all text) count (group_of m)) o) → IsCapturedByParts options parts text (option_map (λ m. group_texts (encode_utf8_all text) count (group_of m)) o)
captured_by options parts own f silent count is text fine None e taken = λ takes. true≢false (sym (taken.1 takes))
captured_by options parts own f silent count is text fine (Some m) e taken =
    subst (λ n. PartsCapture options parts text (group_texts (encode_utf8_all text) n (group_of m))) (sym is) (found_captures own (parts_sense false options parts) f silent text fine m e)

-- ---- the first way

-- The result for a text is the first way of the parts, with the grammar's test of characters.
grammar_first : (ignore_case : Bool) (AreSuch : List ℕ → Type 0) (options : OptionsView) (parts : List PartView) (answer : List ℕ → Option Captures) → AllStandAloneBy ignore_case parts → AllCaptureNothingBy ignore_case parts
    → IsReadFor ignore_case AreSuch (regexp_text options parts) answer → (text : List ℕ) → IsTrue (all_scalars text) → AreSuch text
    → answer text ≡ first_of (parts_ways_as (config_for ignore_case) (grammar_same ignore_case) options parts text)
grammar_first ignore_case AreSuch options parts answer alone silent r text fine such =
    let t = flat_map (part_regexp options) parts in
    let inside = scalars_parts t (codes "$") (scalars_parts (codes "^") (t ++ codes "$") r.good).1 in
    let named = whole_read ignore_case t (parts_sense ignore_case options parts) (parts_items ignore_case options parts alone inside.0) r.found r.is_read in
    let own = named.pattern.own in
    let f = named.pattern.fulfils in
    let count : length r.found.1 - 1 ≡ parts_count parts = omega (arith, named.numbers silent) in
    let bytes = encode_utf8_all text in
    r.answers text such
    ∙ ap (λ (tree : Nested Re). option_map (λ m. group_texts bytes (length r.found.1 - 1) (group_of m)) (find_str tree.value bytes 0)) named.pattern.is
    ∙ ap (λ n. option_map (λ m. group_texts bytes n (group_of m)) (find_str (between_lines own).value bytes 0)) count
    ∙ found_first own (parts_ways_as (config_for ignore_case) (grammar_same ignore_case) options parts) (parts_count parts) (f.cuts silent) (f.tries silent) text fine

pub first_if_kept : (options : OptionsView) (parts : List PartView) (text : List ℕ) → first_of (parts_ways_as (config_for false) (grammar_same false) options parts text) ≡ parts_first_way options parts text
unfolding parts_first_way_by
first_if_kept options parts text = ap (λ same. first_of (parts_ways_as (config_for false) same options parts text)) same_if_kept

-- If case is kept, the result for a text is the first way of the parts.
answers_first : (options : OptionsView) (parts : List PartView) (answer : List ℕ → Option Captures) → AllStandAlone parts → AllCaptureNothing parts → IsReadKept (regexp_text options parts) answer
    → (text : List ℕ) → IsTrue (all_scalars text) → answer text ≡ parts_first_way options parts text
answers_first options parts answer alone silent r text fine =
    grammar_first false (λ text. IsTrue (all_scalars text)) options parts answer alone silent r text fine fine ∙ first_if_kept options parts text

-- The captures of the first way are captures of the parts.
pub first_captured : FirstWaysAreCaptured
first_captured options parts text alone silent good fine =
    let t = flat_map (part_regexp options) parts in
    let inside = scalars_parts t (codes "$") (scalars_parts (codes "^") (t ++ codes "$") good).1 in
    let is = (parts_items false options parts alone inside.0).made silent 1 in
    let count = parts_count parts in
    let bytes = encode_utf8_all text in
    let found = find_str (between_lines is.0).value bytes 0 in
    let search = search_is is.0 (PartsMatch options parts) (is.1.denotes refl) text fine in
    let texts : Match → Captures = λ m. group_texts bytes count (group_of m) in
    let same = mapped texts found in
    subst (IsCapturedByParts options parts text) (found_first is.0 (parts_ways_as (config_for false) (grammar_same false) options parts) count (is.1.cuts silent) (is.1.tries silent) text fine ∙ first_if_kept options parts text)
    (captured_by options parts is.0 is.1 silent count refl text fine found refl (λ some. search.0 (sym same ∙ some), λ takes. same ∙ search.1 takes))

-- A value that returns the first way returns what the parts capture.
captured_as_first : {E : Type 0} (engine : Engine E) (Keeps : Keeping) → ValuesReturnFirstOfParts engine Keeps
    → ((value : E) (regexp flags : List ℕ) → engine.IsMade value regexp flags → scalars regexp ≡ true) → ValuesCapture engine Keeps
captured_as_first engine Keeps first good options flags parts value keeps alone silent made text fine =
    subst (IsCapturedByParts options parts text) (sym (first options flags parts value keeps alone silent made text fine))
    (first_captured options parts text alone silent (good value (regexp_text options parts) flags made) fine)

-- ---- values

regex_read : (regexp flags : List ℕ) (regex : Regex) → IsRegexOf regexp regex → IsReadKept regexp (regex_engine.answer regex)
regex_read regexp flags regex made =
    read_for regexp (regex_engine.answer regex) (text_good regex.pattern.source regexp made.of_text) (regex_some false regexp regex (read_by_default regexp regex made))
    (regex_values_read regexp flags regex tt made)

pub regex_values_taken : ValuesReturnIfMatched regex_engine (λ flags. ⊤)
regex_values_taken options flags parts regex any alone made = answers_taken options parts (regex_engine.answer regex) alone (regex_read (regexp_text options parts) flags regex made)

pub regex_values_first : ValuesReturnFirstOfParts regex_engine (λ flags. ⊤)
regex_values_first options flags parts regex any alone silent made = answers_first options parts (regex_engine.answer regex) alone silent (regex_read (regexp_text options parts) flags regex made)

pub regex_values_capture : ValuesCapture regex_engine (λ flags. ⊤)
regex_values_capture =
    captured_as_first regex_engine (λ flags. ⊤) regex_values_first (λ regex regexp flags made. text_good regex.pattern.source regexp made.of_text)

-- ---- values of `PatternRegexp`

mutual
  -- A tree has no more groups than its text has characters.
  items_few : (tree : Items) → group_count tree ≤ length (items_text tree)
  items_few Nothing = omega arith
  items_few (Item atom quantifier items) =
      omega (arith, atom_few atom, items_few items, length-append (atom_text atom ++ quantifier_text quantifier) (items_text items), length-append (atom_text atom) (quantifier_text quantifier))

  atom_few : (atom : Atom) → atom_group_count atom ≤ length (atom_text atom)
  atom_few (Captured items) = omega (arith, items_few items, length-append (items_text items) (codes ")"))
  atom_few (Grouped items) = omega (arith, items_few items, length-append (items_text items) (codes ")"))
  atom_few atom = omega arith

tree_some : (ignore_case : Bool) (regexp : List ℕ) (tree : Items) → IsTreeOf regexp tree → scalars regexp ≡ true → HasNumbers regexp → IsSome (read (config_for ignore_case) regexp)
tree_some ignore_case regexp tree is good room =
    let whole : scalars (codes "^" ++ items_text tree ++ codes "$") ≡ true = ap scalars (sym is.0) ∙ good in
    let fine : scalars (items_text tree) ≡ true = (scalars_parts (items_text tree) (codes "$") whole).0 in
    let few : suc (group_count tree) ≤ 2 ^ 32 = omega (arith, items_few tree, ap length is.0, length-append (items_text tree) (codes "$"), room) in
    ap (λ t. is_some (read (config_for ignore_case) t)) is.0 ∙ ap is_some (tree_is_read ignore_case tree is.1 fine few)

expression_some : (ignore_case : Bool) (regexp : List ℕ) (strategy : Strategy) → IsExpressionOf ignore_case regexp strategy → HasNumbers regexp → IsSome (read (config_for ignore_case) regexp)
expression_some ignore_case regexp strategy made room = elim (form_of ignore_case regexp strategy made) [
  | inl own ↦ tree_some ignore_case regexp own.tree own.is_tree (expression_good ignore_case regexp strategy made) room
  | inr custom ↦ custom.is_read
]

pub some_if_kept : (ignore_case : Bool) (regexp : List ℕ) (strategy : Strategy) → ignore_case ≡ false → IsExpressionOf ignore_case regexp strategy → HasNumbers regexp → IsSome (read default_config regexp)
some_if_kept ignore_case regexp strategy kept made room =
    subst (λ (b : Bool). IsSome (read (config_for b) regexp)) kept (expression_some ignore_case regexp strategy made room)

pattern_read : (regexp flags : List ℕ) (value : PatternRegexp) → KeepsCase flags → pattern_engine.IsMade value regexp flags → IsReadKept regexp (pattern_engine.answer value)
pattern_read regexp flags value keeps made =
    read_for regexp (pattern_engine.answer value) (expression_good value.ignore_case regexp value.strategy made.of_text)
    (some_if_kept value.ignore_case regexp value.strategy (made.by_flags ∙ keeps) made.of_text made.has_numbers) (pattern_values_read regexp flags value keeps made)

pub pattern_values_taken : ValuesReturnIfMatched pattern_engine KeepsCase
pattern_values_taken options flags parts value keeps alone made =
    answers_taken options parts (pattern_engine.answer value) alone (pattern_read (regexp_text options parts) flags value keeps made)

pub pattern_values_first : ValuesReturnFirstOfParts pattern_engine KeepsCase
pattern_values_first options flags parts value keeps alone silent made =
    answers_first options parts (pattern_engine.answer value) alone silent (pattern_read (regexp_text options parts) flags value keeps made)

pub pattern_values_capture : ValuesCapture pattern_engine KeepsCase
pattern_values_capture =
    captured_as_first pattern_engine KeepsCase pattern_values_first (λ value regexp flags made. expression_good value.ignore_case regexp value.strategy made.of_text)

-- ---- where case may be ignored

-- A value returns, for each text of characters, the first way of the parts, with the grammar's test
-- of characters, if case is kept or expression and text are ASCII.
pub pattern_values_grammar : (options : OptionsView) (flags : List ℕ) (parts : List PartView) (value : PatternRegexp) → AllStandAloneBy value.ignore_case parts → AllCaptureNothingBy value.ignore_case parts
    → pattern_engine.IsMade value (regexp_text options parts) flags → (text : List ℕ) → IsTrue (all_scalars text) → AreAlike value.ignore_case (regexp_text options parts) text
    → pattern_engine.answer value text ≡ first_of (parts_ways_as (config_for value.ignore_case) (grammar_same value.ignore_case) options parts text)
unfolding pattern_result
pattern_values_grammar options flags parts value alone silent made text fine alike =
    let case = value.ignore_case in
    let regexp = regexp_text options parts in
    let some = expression_some case regexp value.strategy made.of_text made.has_numbers in
    let found = value_of_IsSome (read (config_for case) regexp) some in
    let Such : List ℕ → Type 0 = λ t. IsTrue (all_scalars t) × AreAlike case regexp t in
    grammar_first case Such options parts (pattern_engine.answer value) alone silent
    (record {
      good = expression_good case regexp value.strategy made.of_text;
      found = found.0;
      is_read = found.1;
      answers = λ t such. expression_as_read case regexp value.strategy made.of_text t such.1 such.0 some ∙ read_answer_is case regexp found.0 found.1 t;
    })
    text fine (fine, alike)
