-- Tables of the suffixes of a text that steps match, and the prefix that a step matches, by what is
-- known of shorter suffixes.
use Rattle.std.specs.Prelude.{◌≡◌, ◌<◌, ℕ, suc, Bool, true, false, List, [], length, map, drop, get_or, Option, Some, None, is_some, if◌then◌else◌}
use Rattle.std.specs.Global.{Global}
use Rattle.std.specs.declared.vec.Vec.{Vec}
use Rattle.std.specs.Option.{option_or}
use Rattle.urlpattern_steps.specs.declared.step.Step.{Step}
use Rattle.urlpattern_steps.specs.declared.step.Step.TheVariants.{Literal, LazyRun, DotStar, OptionalGroup, GreedyRun, RepeatedLiteral, Segments}
use Rattle.urlpattern_steps.specs.declared.step.LiteralString.{LiteralString}
use Rattle.urlpattern_steps.specs.FailedStates.{EndsWith}
use Rattle.urlpattern_steps.specs.Walk.{BeginsAs, Continuation, captured_prefix, walk}
use Rattle.urlpattern_syntax.specs.Text.{line_feed}

-- ---- steps

-- The literal that a step matches, repeats, or has as a separator. None: the step has no literal.
abbrev pub literal_string_of : Step → Option LiteralString
literal_string_of (Literal c) = Some (record { first = c; others = 0 })
literal_string_of (RepeatedLiteral copies) = Some copies.text
literal_string_of (Segments segments) = Some segments.separator
literal_string_of step = None

-- The number of following steps that have the characters of a literal after the first.
abbrev pub own_count : Option LiteralString → ℕ
own_count (Some literal_string) = literal_string.others
own_count None = 0

-- The steps in `others`, which come after a step, without those that have the characters of its
-- literal after the first.
abbrev pub following : Step → List Step → List Step
following step others = drop (own_count (literal_string_of step)) others

-- The character that ends a run of the step; a line feed if the step has no run.
abbrev pub run_end : Step → ℕ
run_end (LazyRun end) = end
run_end (GreedyRun run) = run.end
run_end (Segments segments) = segments.end
run_end step = line_feed

-- Whether the step itself captures.
abbrev pub is_capture : Step → Bool
is_capture (Literal c) = false
is_capture (RepeatedLiteral copies) = false
is_capture (OptionalGroup group) = false
is_capture step = true

-- The captures of a step and of the steps after it, by the prefix that the step matches and the
-- rest. None: the steps after it do not match the rest.
abbrev pub step_continuation : (ignore_case : Bool) → Step → List Step → Continuation
step_continuation ignore_case step others =
    if is_capture step then captured_prefix (walk ignore_case (following step others))
    else (λ front rest. walk ignore_case (following step others) rest)

-- The step is not an optional group.
abbrev pub IsSingle : Step → Type 0
IsSingle (OptionalGroup group) = ⊥
IsSingle step = Unit {0}

-- ---- choices

-- The preferred result after a literal of the step: `next` is the result if the literal follows
-- again, `here` if the step ends, and `onward` if a run consumes the next character.
abbrev pub result_after_literal : {A : Type 0} → Step → (next here onward : Option A) → Option A
result_after_literal (Literal c) next here onward = here
result_after_literal (RepeatedLiteral copies) next here onward = option_or next here
result_after_literal (Segments segments) next here onward =
    if segments.is_greedy then option_or onward (option_or next here) else onward
result_after_literal step next here onward = None

-- The preferred result within a run of the step: `next` is the result if the literal of the step
-- follows, `here` if the step ends, and `onward` if the run consumes the next character.
abbrev pub result_within_run : {A : Type 0} → Step → (next here onward : Option A) → Option A
result_within_run (LazyRun end) next here onward = option_or here onward
result_within_run DotStar next here onward = option_or onward here
result_within_run (GreedyRun run) next here onward = option_or onward here
result_within_run (Segments segments) next here onward =
    if segments.is_greedy then option_or onward (option_or next here)
    else option_or (option_or next here) onward
result_within_run step next here onward = None

-- The preferred result at the beginning of the step: `next` is the result if the literal of the
-- step follows, `here` if the step ends, and `onward` if a run consumes the next character.
abbrev pub result_at_start : {A : Type 0} → Step → (next here onward : Option A) → Option A
result_at_start (Literal c) next here onward = next
result_at_start (LazyRun end) next here onward = onward
result_at_start DotStar next here onward = option_or onward here
result_at_start (GreedyRun run) next here onward =
    if run.may_be_empty then option_or onward here else onward
result_at_start (RepeatedLiteral copies) next here onward =
    if copies.allows_zero then option_or next here else next
result_at_start (Segments segments) next here onward =
    if segments.is_greedy then option_or onward (option_or next here) else onward
result_at_start (OptionalGroup group) next here onward = None

-- `entry` is the entry for the rest of the text after the characters, where `entries` has an entry
-- for each shorter suffix of the text, from the shortest. None: there are no characters, the text
-- does not begin with them, or the entry itself is None.
abbrev pub IsEntryAfter : (ignore_case : Bool) (entries : List (Option ℕ)) → Option (List ℕ)
    → (text : List ℕ) → (entry : Option ℕ) → Type 0
IsEntryAfter ignore_case entries None text entry = entry ≡ None
IsEntryAfter ignore_case entries (Some characters) text entry =
    ((rest : List ℕ) → BeginsAs ignore_case characters text rest
    → entry ≡ get_or entries (length rest) None)
    × (((rest : List ℕ) → ¬ BeginsAs ignore_case characters text rest) → entry ≡ None)

-- ---- rows

-- Whether a row, as in `IsRow`, says that its steps match the suffix of `n` characters.
abbrev pub has : List Bool → ℕ → Bool
has row n = get_or row n false

-- `row` says for each suffix of the text, at the index of its number of characters, whether the
-- steps match it.
pub record IsRow (ignore_case : Bool) (text : List ℕ) (steps : List Step) (row : List Bool) : Type 0
  where
    pub long : length text < length row
    pub bits : (end : List ℕ) → EndsWith text end
        → has row (length end) ≡ is_some (walk ignore_case steps end)

-- The row of the last `n` steps, where rows are as in `AreRows`; empty if there is none.
abbrev pub row_at : List (Vec Bool Global) → ℕ → List Bool
row_at rows n = get_or (map (λ (row : Vec Bool Global). row.items) rows) n []

-- The row at the index of the number of steps is the row of these steps for this text.
abbrev pub HaveRow : (ignore_case : Bool) (text : List ℕ) (steps : List Step)
    (rows : List (Vec Bool Global))
    → Type 0
HaveRow ignore_case text steps rows = IsRow ignore_case text steps (row_at rows (length steps))

-- If the rows have a row of the steps for this text, `does_match` is whether the steps match the
-- text.
abbrev pub IsMatchedByRows : (rows : List (Vec Bool Global)) (steps : List Step) (text : List ℕ)
    (does_match : Bool)
    → Type 0
IsMatchedByRows rows steps text does_match =
    (ignore_case : Bool) → HaveRow ignore_case text steps rows
    → does_match ≡ is_some (walk ignore_case steps text)

-- `rows` has a row for each suffix of the steps, at the index of its number of steps.
pub record AreRows (ignore_case : Bool) (text : List ℕ) (steps : List Step)
    (rows : List (Vec Bool Global)) : Type 0 where
  pub count : length rows ≡ suc (length steps)
  pub each : (end : List Step) → EndsWith steps end
      → IsRow ignore_case text end (row_at rows (length end))
