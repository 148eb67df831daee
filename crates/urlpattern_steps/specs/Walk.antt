-- What the steps of an expression capture in a text.
use Rattle.std.specs.Prelude.{◌≡◌, ℕ, zero, suc, Bool, false, length, List, [], ◌∷◌, ◌++◌, get_or, replicate, take, Option, Some, None, option_map, if◌then◌else◌}
use Rattle.std.specs.Option.{option_or}
use Rattle.std.specs.Str.{IsUtf8, chars}
use Rattle.urlpattern_steps.specs.declared.step.Step.{Step}
use Rattle.urlpattern_steps.specs.declared.step.Step.TheVariants.{Literal, LazyRun, DotStar, OptionalGroup, GreedyRun, RepeatedLiteral, Segments}
use Rattle.urlpattern_steps.specs.declared.step.LiteralString.{LiteralString}
use Rattle.urlpattern_meaning.specs.PartMeaning.{Captures}
use Rattle.urlpattern_syntax.specs.Text.{line_feed}
use Rattle.urlpattern_meaning.specs.Matching.{IsSame, is_same_character}

-- ---- prefixes and suffixes

-- The text begins with the characters, up to ASCII case if it is ignored, followed by `rest`.
abbrev pub BeginsAs : (ignore_case : Bool) → (characters text rest : List ℕ) → Type 0
BeginsAs ignore_case characters text rest =
    (front : List ℕ) × (text ≡ front ++ rest) × IsSame ignore_case front characters

-- `front` is the text without its last `n` characters.
abbrev pub IsWithoutLast : (n : ℕ) → (text front : List ℕ) → Type 0
IsWithoutLast n text front =
    (end : List ℕ) × IsUtf8 end × (text ≡ front ++ end) × (length (chars end) ≡ n)

-- ---- runs of characters

-- The end of a run that continues with the first character of the text: `later`. None: the text is
-- empty or begins with `end`, or `later` is None.
abbrev pub end_if_continued : (ignore_case : Bool) (end : ℕ) → (later : Option ℕ)
    → (text : List ℕ) → Option ℕ
end_if_continued ignore_case end later [] = None
end_if_continued ignore_case end later (c ∷ text) =
    if is_same_character ignore_case c end then None else later

-- The text before the first occurrence of the character, or all of it if there is none.
abbrev pub up_to_first : (ignore_case : Bool) → ℕ → List ℕ → List ℕ
up_to_first ignore_case c [] = []
up_to_first ignore_case c (other ∷ text) =
    if is_same_character ignore_case other c then [] else other ∷ up_to_first ignore_case c text

-- The text from the first occurrence of the character on, or no text if there is none.
abbrev pub from_first : (ignore_case : Bool) → ℕ → List ℕ → List ℕ
from_first ignore_case c [] = []
from_first ignore_case c (other ∷ text) =
    if is_same_character ignore_case other c then other ∷ text else from_first ignore_case c text

-- The type of what continues a match after a step: a function from the prefix that the step matches
-- and the remaining text to the captures found. None: no match.
abbrev pub Continuation : Type 0
Continuation = (front rest : List ℕ) → Option Captures

-- A lazy repeat of one or more characters other than `end`, added to `front`: the result of `gives`
-- after the shortest repeat for which it has one.
abbrev pub shortest : (ignore_case : Bool) (end : ℕ) → Continuation
    → (front text : List ℕ) → Option Captures
shortest ignore_case end gives front [] = None
shortest ignore_case end gives front (c ∷ text) =
    if is_same_character ignore_case c end then None
    else option_or (gives (front ++ c ∷ []) text)
    (shortest ignore_case end gives (front ++ c ∷ []) text)

-- A greedy repeat of any number of characters other than `end`, added to `front`: the result of
-- `gives` after the longest repeat for which it has one.
abbrev pub longest : (ignore_case : Bool) (end : ℕ) → Continuation
    → (front text : List ℕ) → Option Captures
longest ignore_case end gives front [] = gives front []
longest ignore_case end gives front (c ∷ text) =
    if is_same_character ignore_case c end then gives front (c ∷ text)
    else option_or (longest ignore_case end gives (front ++ c ∷ []) text) (gives front (c ∷ text))

-- A greedy repeat of one or more characters other than `end`, added to `front`: the result of
-- `gives` after the longest repeat for which it has one.
abbrev pub longest_some : (ignore_case : Bool) (end : ℕ) → Continuation
    → (front text : List ℕ) → Option Captures
longest_some ignore_case end gives front [] = None
longest_some ignore_case end gives front (c ∷ text) =
    if is_same_character ignore_case c end then None
    else longest ignore_case end gives (front ++ c ∷ []) text

-- A greedy repeat of characters other than `end`: any number if `may_be_empty`, otherwise one or
-- more.
abbrev pub longest_run : (ignore_case : Bool) (may_be_empty : Bool) → (end : ℕ) → Continuation
    → Continuation
longest_run ignore_case may_be_empty end =
    if may_be_empty then longest ignore_case end else longest_some ignore_case end

-- ---- repeats

-- A literal, added to `front`: the result of `gives` after it. None: the text does not begin with
-- the literal, or `gives` has no result.
abbrev pub after_text : (ignore_case : Bool) → List ℕ → Continuation → Continuation
after_text ignore_case [] gives front text = gives front text
after_text ignore_case (c ∷ characters) gives front [] = None
after_text ignore_case (c ∷ characters) gives front (other ∷ text) =
    if is_same_character ignore_case other c
    then after_text ignore_case characters gives (front ++ other ∷ []) text else None

-- A greedy repeat of at most `n` rounds, each matched by `round`: the result of a further round, or
-- else of `gives`, which comes after the last.
abbrev pub rounds : (round : Continuation → Continuation) → (n : ℕ) → Continuation → Continuation
rounds round zero gives front text = gives front text
rounds round (suc n) gives front text =
    option_or (round (rounds round n gives) front text) (gives front text)

-- A greedy repeat of any number of rounds, each matched by `round`: at most one for each character,
-- since a round matches one or more.
abbrev pub any_rounds : (round : Continuation → Continuation) → Continuation → Continuation
any_rounds round gives front text = rounds round (length text) gives front text

-- A greedy repeat of one or more rounds, each matched by `round`.
abbrev pub some_rounds : (round : Continuation → Continuation) → Continuation → Continuation
some_rounds round gives front text = round (any_rounds round gives) front text

-- A greedy repeat of any number of rounds, each matched by `round`, if `allows_zero`, otherwise of
-- one or more.
abbrev pub repeated : (allows_zero : Bool) → (round : Continuation → Continuation) → Continuation
    → Continuation
repeated allows_zero round = if allows_zero then any_rounds round else some_rounds round

-- A run without `end`: greedy, of any number of characters, or lazy, of one or more.
abbrev pub single_run : (ignore_case : Bool) (is_greedy : Bool) → (end : ℕ) → Continuation
    → Continuation
single_run ignore_case is_greedy end =
    if is_greedy then longest ignore_case end else shortest ignore_case end

-- A separator, followed by a run, which `single` matches.
abbrev pub after_separator : (ignore_case : Bool) (separator : List ℕ)
    → (single : Continuation → Continuation)
    → Continuation → Continuation
after_separator ignore_case separator single gives front text =
    after_text ignore_case separator (single gives) front text

-- Separated runs: a run, which `single` matches, and as many more as have a result, each after the
-- separator.
abbrev pub segmented : (ignore_case : Bool) (separator : List ℕ)
    → (single : Continuation → Continuation)
    → Continuation → Continuation
segmented ignore_case separator single gives front text =
    single (any_rounds (after_separator ignore_case separator single) gives) front text

-- ---- literals

-- The characters of the literal steps.
abbrev pub literals : List Step → List ℕ
literals [] = []
literals (Literal c ∷ steps) = c ∷ literals steps
literals (step ∷ steps) = literals steps

-- The text of a literal: `first`, then the characters of the literal steps.
abbrev pub literal_text : (first : ℕ) → (literal : List Step) → List ℕ
literal_text first literal = first ∷ literals literal

-- The concatenation of the texts, from the last of the list to the first.
abbrev pub in_turn : List (List ℕ) → List ℕ
in_turn [] = []
in_turn (last ∷ texts) = in_turn texts ++ last

-- Each text is a copy of `copy`, up to ASCII case if that is ignored.
abbrev pub AreCopiesOf : (ignore_case : Bool) → (copy : List ℕ) → List (List ℕ) → Type 0
AreCopiesOf ignore_case copy [] = Unit {0}
AreCopiesOf ignore_case copy (last ∷ texts) =
    IsSame ignore_case last copy × AreCopiesOf ignore_case copy texts

-- The text is any number of copies of `copy`, up to ASCII case if that is ignored, followed by
-- `rest`.
abbrev pub BeginsWithCopies : (ignore_case : Bool) → (copy text rest : List ℕ) → Type 0
BeginsWithCopies ignore_case copy text rest =
    (copies : List (List ℕ)) × (text ≡ in_turn copies ++ rest) × AreCopiesOf ignore_case copy copies

-- `entry` is the entry of `table` for the rest of the text after the characters, if `table` has an
-- entry for each shorter suffix of the text, from the shortest.
abbrev pub IsEntryForRest : (ignore_case : Bool) → (characters text : List ℕ)
    → (table : List (Option ℕ)) → (entry : Option ℕ) → Type 0
IsEntryForRest ignore_case characters text table entry =
    (rest : List ℕ) → BeginsAs ignore_case characters text rest → length table ≡ length text
    → entry ≡ get_or table (length rest) None

-- The text of a literal: its first character, then those of the first steps, as many as the literal
-- has others.
abbrev pub literal_string_text : LiteralString → List Step → List ℕ
literal_string_text literal_string steps =
    literal_text literal_string.first (take literal_string.others steps)

-- ---- steps

-- A continuation that captures the prefix and then has the captures of `next` in the rest. None:
-- `next` has no result.
abbrev pub captured_prefix : (next : List ℕ → Option Captures) → Continuation
captured_prefix next front rest = option_map (λ others. Some front ∷ others) (next rest)

-- The captures of the steps after the first `passed`, in order, if they match the whole text. None:
-- no match.
abbrev pub walk_after : (ignore_case : Bool) → ℕ → List Step → List ℕ → Option Captures
walk_after ignore_case passed [] [] = Some []
walk_after ignore_case passed [] (c ∷ text) = None
walk_after ignore_case (suc passed) (step ∷ steps) text = walk_after ignore_case passed steps text
walk_after ignore_case zero (Literal c ∷ steps) [] = None
walk_after ignore_case zero (Literal c ∷ steps) (other ∷ text) =
    if is_same_character ignore_case other c then walk_after ignore_case zero steps text else None
walk_after ignore_case zero (LazyRun end ∷ steps) text =
    shortest ignore_case end (captured_prefix (walk_after ignore_case zero steps)) [] text
walk_after ignore_case zero (DotStar ∷ steps) text =
    longest ignore_case line_feed (captured_prefix (walk_after ignore_case zero steps)) [] text
walk_after ignore_case zero (OptionalGroup group ∷ steps) text =
    option_or (walk_after ignore_case zero steps text) (option_map
    (λ others. replicate group.captures None ++ others)
    (walk_after ignore_case group.steps steps text))
walk_after ignore_case zero (GreedyRun run ∷ steps) text =
    longest_run ignore_case run.may_be_empty run.end
    (captured_prefix (walk_after ignore_case zero steps)) [] text
walk_after ignore_case zero (RepeatedLiteral copies ∷ steps) text =
    repeated copies.allows_zero (after_text ignore_case (literal_string_text copies.text steps))
    (λ front rest. walk_after ignore_case copies.text.others steps rest) [] text
walk_after ignore_case zero (Segments segments ∷ steps) text =
    segmented ignore_case (literal_string_text segments.separator steps)
    (single_run ignore_case segments.is_greedy segments.end)
    (captured_prefix (walk_after ignore_case segments.separator.others steps)) [] text

-- The captures of the steps, if they match the whole text. None: no match.
abbrev pub walk : (ignore_case : Bool) → List Step → List ℕ → Option Captures
walk ignore_case steps text = walk_after ignore_case zero steps text

-- The captures of the steps `others` after copies of a literal, as many as have a match. The
-- literal is `first` and the characters of the literal steps. None: no match.
abbrev pub walk_copies : (ignore_case : Bool) (first : ℕ) → (literal others : List Step) → List ℕ
    → Option Captures
walk_copies ignore_case first literal others text =
    any_rounds (after_text ignore_case (literal_text first literal))
    (λ front rest. walk ignore_case others rest) [] text

-- The number of steps that capture, those in optional groups included.
abbrev pub capture_count : List Step → ℕ
capture_count [] = 0
capture_count (Literal c ∷ steps) = capture_count steps
capture_count (LazyRun end ∷ steps) = suc (capture_count steps)
capture_count (DotStar ∷ steps) = suc (capture_count steps)
capture_count (OptionalGroup group ∷ steps) = capture_count steps
capture_count (GreedyRun run ∷ steps) = suc (capture_count steps)
capture_count (RepeatedLiteral copies ∷ steps) = capture_count steps
capture_count (Segments segments ∷ steps) = suc (capture_count steps)

-- The steps match no text that begins with a character other than `end`, whether case is ignored or
-- not.
abbrev pub BeginOnlyWith : (end : ℕ) → List Step → Type 0
BeginOnlyWith end steps =
    (ignore_case : Bool) (c : ℕ) (rest : List ℕ) → is_same_character ignore_case c end ≡ false
    → walk ignore_case steps (c ∷ rest) ≡ None
