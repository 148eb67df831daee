-- The prefix that a step matches, from the prefixes for shorter suffixes of the text.
use Rattle.std.proofs.Common.{◌≡◌, ℕ, zero, suc, List, [], ◌∷◌, ◌++◌, length, take, drop, Option, Some, None, option_map, Bool, true, false, cond, ◌||◌, refl, sym, ap, ap₂, ◌∙◌}
use Rattle.std.specs.Option.{option_or}
use Rattle.std.specs.Prelude.{is_some}
use Rattle.urlpattern_meaning.specs.PartMeaning.{Captures}
use Rattle.urlpattern_steps.specs.declared.step.Step.{Step}
use Rattle.urlpattern_steps.specs.declared.step.Step.TheVariants.{Literal, LazyRun, DotStar, OptionalGroup, GreedyRun, RepeatedLiteral, Segments}
use Rattle.urlpattern_steps.specs.declared.step.LiteralString.{LiteralString}
use Rattle.urlpattern_steps.specs.Walk.{Continuation, after_separator, after_text, any_rounds, captured_prefix, literals, longest, longest_run, longest_some, repeated, rounds, segmented, shortest, single_run, literal_string_text, walk, walk_after}
use Rattle.urlpattern_steps.specs.Table.{is_capture, IsSingle, result_after_literal, run_end, following, step_continuation, result_within_run, own_count, literal_string_of, result_at_start}
use Rattle.urlpattern_steps.specs.AddedCaptures.{IsPrefixLengthFor}
use Rattle.urlpattern_steps.proofs.EndLemmas as ends
use Rattle.urlpattern_steps.proofs.Rounds.{advances-after, any-unrolled, keeps-any, keeps-some}
use Rattle.urlpattern_steps.proofs.StepLemmas.{walk_after-drop}
use Rattle.urlpattern_meaning.specs.Matching.{is_same_character}

-- ---- whether there is a result does not depend on the prefix

abbrev pub Alike : Continuation → Type 0
Alike gives = (front other text : List ℕ) → is_some (gives front text) ≡ is_some (gives other text)

pub is_some-or : {A : Type 0} (o p : Option A) → is_some (option_or o p) ≡ is_some o || is_some p
is_some-or None p = refl
is_some-or (Some x) p = refl

some_or : {A : Type 0} (o o' p p' : Option A) → is_some o ≡ is_some o' → is_some p ≡ is_some p' → is_some (option_or o p) ≡ is_some (option_or o' p')
some_or o o' p p' e f = is_some-or o p ∙ ap₂ (λ a b. a || b) e f ∙ sym (is_some-or o' p')

some_cond : {A : Type 0} (b : Bool) (o o' p p' : Option A) → is_some o ≡ is_some o' → is_some p ≡ is_some p' → is_some (cond b o p) ≡ is_some (cond b o' p')
some_cond true o o' p p' e f = e
some_cond false o o' p p' e f = f

pub some_mapped : {A B : Type 0} (f : A → B) (o : Option A) → is_some (option_map f o) ≡ is_some o
some_mapped f None = refl
some_mapped f (Some x) = refl

alike-shortest : (ignore_case : Bool) (end : ℕ) (gives : Continuation) → Alike gives → Alike (shortest ignore_case end gives)
alike-shortest ignore_case end gives alike front other [] = refl
alike-shortest ignore_case end gives alike front other (c ∷ text) =
    some_cond (is_same_character ignore_case c end) None None _ _ refl
    (some_or _ _ _ _ (alike (front ++ c ∷ []) (other ++ c ∷ []) text) (alike-shortest ignore_case end gives alike (front ++ c ∷ []) (other ++ c ∷ []) text))

alike-longest : (ignore_case : Bool) (end : ℕ) (gives : Continuation) → Alike gives → Alike (longest ignore_case end gives)
alike-longest ignore_case end gives alike front other [] = alike front other []
alike-longest ignore_case end gives alike front other (c ∷ text) =
    some_cond (is_same_character ignore_case c end) _ _ _ _ (alike front other (c ∷ text))
    (some_or _ _ _ _ (alike-longest ignore_case end gives alike (front ++ c ∷ []) (other ++ c ∷ []) text) (alike front other (c ∷ text)))

alike-longest_some : (ignore_case : Bool) (end : ℕ) (gives : Continuation) → Alike gives → Alike (longest_some ignore_case end gives)
alike-longest_some ignore_case end gives alike front other [] = refl
alike-longest_some ignore_case end gives alike front other (c ∷ text) =
    some_cond (is_same_character ignore_case c end) None None _ _ refl (alike-longest ignore_case end gives alike (front ++ c ∷ []) (other ++ c ∷ []) text)

alike-after : (ignore_case : Bool) (characters : List ℕ) (gives : Continuation) → Alike gives → Alike (after_text ignore_case characters gives)
alike-after ignore_case [] gives alike front other text = alike front other text
alike-after ignore_case (c ∷ characters) gives alike front other [] = refl
alike-after ignore_case (c ∷ characters) gives alike front other (d ∷ text) =
    some_cond (is_same_character ignore_case d c) _ _ None None (alike-after ignore_case characters gives alike (front ++ d ∷ []) (other ++ d ∷ []) text) refl

-- A round keeps `Alike`.
abbrev AlikeRound : (Continuation → Continuation) → Type 0
AlikeRound round = (gives : Continuation) → Alike gives → Alike (round gives)

alike-rounds : (round : Continuation → Continuation) → AlikeRound round → (n : ℕ) → AlikeRound (rounds round n)
alike-rounds round keeps zero gives alike front other text = alike front other text
alike-rounds round keeps (suc n) gives alike front other text =
    some_or _ _ _ _ (keeps (rounds round n gives) (alike-rounds round keeps n gives alike) front other text) (alike front other text)

alike-any : (round : Continuation → Continuation) → AlikeRound round → AlikeRound (any_rounds round)
alike-any round keeps gives alike front other text = alike-rounds round keeps (length text) gives alike front other text

alike-repeated : (allows_zero : Bool) (round : Continuation → Continuation) → AlikeRound round → AlikeRound (repeated allows_zero round)
alike-repeated true round keeps gives alike = alike-any round keeps gives alike
alike-repeated false round keeps gives alike = keeps (any_rounds round gives) (alike-any round keeps gives alike)

alike-single : (ignore_case : Bool) (is_greedy : Bool) (end : ℕ) → AlikeRound (single_run ignore_case is_greedy end)
alike-single ignore_case true end = alike-longest ignore_case end
alike-single ignore_case false end = alike-shortest ignore_case end

alike-run : (ignore_case : Bool) (may_be_empty : Bool) (end : ℕ) → AlikeRound (longest_run ignore_case may_be_empty end)
alike-run ignore_case true end = alike-longest ignore_case end
alike-run ignore_case false end = alike-longest_some ignore_case end

alike-segmented : (ignore_case : Bool) (separator : List ℕ) (is_greedy : Bool) (end : ℕ) → AlikeRound (segmented ignore_case separator (single_run ignore_case is_greedy end))
alike-segmented ignore_case separator is_greedy end gives alike =
    let single : Continuation → Continuation = single_run ignore_case is_greedy end in
    alike-single ignore_case is_greedy end (any_rounds (after_separator ignore_case separator single) gives)
    (alike-any (after_separator ignore_case separator single) (λ g a. alike-after ignore_case separator (single g) (alike-single ignore_case is_greedy end g a)) gives alike)

-- ---- a step after a prefix

some_either : (b : Bool) (next : List ℕ → Option Captures) (front rest : List ℕ) → is_some ((cond b (captured_prefix next) (λ front rest. next rest)) front rest) ≡ is_some (next rest)
some_either true next front rest = some_mapped (λ others. Some front ∷ others) (next rest)
some_either false next front rest = refl

pub some_given : (ignore_case : Bool) (step : Step) (others : List Step) (front rest : List ℕ) → is_some (step_continuation ignore_case step others front rest) ≡ is_some (walk ignore_case (following step others) rest)
some_given ignore_case step others front rest = some_either (is_capture step) (walk ignore_case (following step others)) front rest

alike-given : (ignore_case : Bool) (step : Step) (others : List Step) → Alike (step_continuation ignore_case step others)
alike-given ignore_case step others front other text = some_given ignore_case step others front text ∙ sym (some_given ignore_case step others other text)

-- The result at the beginning of a step.
abbrev pub wholly : (ignore_case : Bool) → Step → List Step → Continuation
wholly ignore_case (Literal c) others = after_text ignore_case (c ∷ []) (step_continuation ignore_case (Literal c) others)
wholly ignore_case (LazyRun end) others = shortest ignore_case end (step_continuation ignore_case (LazyRun end) others)
wholly ignore_case DotStar others = longest ignore_case (run_end DotStar) (step_continuation ignore_case DotStar others)
wholly ignore_case (OptionalGroup group) others = λ front text. walk ignore_case (OptionalGroup group ∷ others) text
wholly ignore_case (GreedyRun run) others = longest_run ignore_case run.may_be_empty run.end (step_continuation ignore_case (GreedyRun run) others)
wholly ignore_case (RepeatedLiteral copies) others = repeated copies.allows_zero (after_text ignore_case (literal_string_text copies.text others)) (step_continuation ignore_case (RepeatedLiteral copies) others)
wholly ignore_case (Segments segments) others =
    segmented ignore_case (literal_string_text segments.separator others) (single_run ignore_case segments.is_greedy segments.end) (step_continuation ignore_case (Segments segments) others)

pub alike-wholly : (ignore_case : Bool) (step : Step) (others : List Step) → Alike (wholly ignore_case step others)
alike-wholly ignore_case (Literal c) others = alike-after ignore_case (c ∷ []) (step_continuation ignore_case (Literal c) others) (alike-given ignore_case (Literal c) others)
alike-wholly ignore_case (LazyRun end) others = alike-shortest ignore_case end (step_continuation ignore_case (LazyRun end) others) (alike-given ignore_case (LazyRun end) others)
alike-wholly ignore_case DotStar others = alike-longest ignore_case (run_end DotStar) (step_continuation ignore_case DotStar others) (alike-given ignore_case DotStar others)
alike-wholly ignore_case (OptionalGroup group) others = λ front other text. refl
alike-wholly ignore_case (GreedyRun run) others = alike-run ignore_case run.may_be_empty run.end (step_continuation ignore_case (GreedyRun run) others) (alike-given ignore_case (GreedyRun run) others)
alike-wholly ignore_case (RepeatedLiteral copies) others =
    alike-repeated copies.allows_zero (after_text ignore_case (literal_string_text copies.text others)) (alike-after ignore_case (literal_string_text copies.text others))
    (step_continuation ignore_case (RepeatedLiteral copies) others) (alike-given ignore_case (RepeatedLiteral copies) others)
alike-wholly ignore_case (Segments segments) others =
    alike-segmented ignore_case (literal_string_text segments.separator others) segments.is_greedy segments.end (step_continuation ignore_case (Segments segments) others) (alike-given ignore_case (Segments segments) others)

copies_wholly : (ignore_case : Bool) (allows_zero : Bool) (c : ℕ) (characters : List ℕ) (n : ℕ) (others : List Step) (text : List ℕ)
    → repeated allows_zero (after_text ignore_case (c ∷ characters)) (λ front rest. walk_after ignore_case n others rest) [] text
    ≡ repeated allows_zero (after_text ignore_case (c ∷ characters)) (λ front rest. walk ignore_case (drop n others) rest) [] text
copies_wholly ignore_case true c characters n others text =
    (keeps-any (after_text ignore_case (c ∷ characters)) (advances-after ignore_case c characters)).same _ _ [] text (λ before rest le. walk_after-drop ignore_case n others rest)
copies_wholly ignore_case false c characters n others text =
    (keeps-some (after_text ignore_case (c ∷ characters)) (advances-after ignore_case c characters)).same _ _ [] text (λ before rest le. walk_after-drop ignore_case n others rest)

-- The result at the beginning of a step is that of the steps.
pub walk_wholly : (ignore_case : Bool) (step : Step) (others : List Step) (text : List ℕ) → walk ignore_case (step ∷ others) text ≡ wholly ignore_case step others [] text
walk_wholly ignore_case (Literal c) others [] = refl
walk_wholly ignore_case (Literal c) others (d ∷ text) = refl
walk_wholly ignore_case (LazyRun end) others text = refl
walk_wholly ignore_case DotStar others text = refl
walk_wholly ignore_case (OptionalGroup group) others text = refl
walk_wholly ignore_case (GreedyRun run) others text = refl
walk_wholly ignore_case (RepeatedLiteral copies) others text = copies_wholly ignore_case copies.allows_zero copies.text.first _ copies.text.others others text
walk_wholly ignore_case (Segments segments) others text = ends.segments_step ignore_case segments others _ _ text refl refl

pub some_wholly : (ignore_case : Bool) (step : Step) (others : List Step) (front text : List ℕ) → is_some (wholly ignore_case step others front text) ≡ is_some (walk ignore_case (step ∷ others) text)
some_wholly ignore_case step others front text = alike-wholly ignore_case step others front [] text ∙ ap is_some (sym (walk_wholly ignore_case step others text))

-- ---- the results after the literal of a step, here, and if a run continues

-- The literal of a step.
abbrev pub own_text : Step → (literal : List ℕ) → Option (List ℕ)
own_text step literal = option_map (λ (own : LiteralString). own.first ∷ literal) (literal_string_of step)

-- The result after the literal of a step.
abbrev pub begins : (ignore_case : Bool) → Step → List Step → Continuation
begins ignore_case (Literal c) others = step_continuation ignore_case (Literal c) others
begins ignore_case (RepeatedLiteral copies) others = any_rounds (after_text ignore_case (literal_string_text copies.text others)) (step_continuation ignore_case (RepeatedLiteral copies) others)
begins ignore_case (Segments segments) others = wholly ignore_case (Segments segments) others
begins ignore_case step others = λ front text. None

-- The result within a run.
abbrev pub goes : (ignore_case : Bool) → Step → List Step → Continuation
goes ignore_case (LazyRun end) others = λ front text. option_or (step_continuation ignore_case (LazyRun end) others front text) (shortest ignore_case end (step_continuation ignore_case (LazyRun end) others) front text)
goes ignore_case DotStar others = wholly ignore_case DotStar others
goes ignore_case (GreedyRun run) others = longest ignore_case run.end (step_continuation ignore_case (GreedyRun run) others)
goes ignore_case (Segments segments) others =
    ends.either ignore_case segments.separator.first (literals (take segments.separator.others others)) segments.is_greedy segments.end (step_continuation ignore_case (Segments segments) others)
goes ignore_case step others = λ front text. None

-- The result after a literal that begins here, if there is one.
abbrev pub after_own : (ignore_case : Bool) → Option (List ℕ) → Continuation → Continuation
after_own ignore_case None gives front text = None
after_own ignore_case (Some characters) gives front text = after_text ignore_case characters gives front text

-- The result if a run continues with the first character.
abbrev pub onward : (ignore_case : Bool) (end : ℕ) → Continuation → Continuation
onward ignore_case end gives front [] = None
onward ignore_case end gives front (d ∷ text) = cond (is_same_character ignore_case d end) None (gives (front ++ d ∷ []) text)

abbrev pub next_of : (ignore_case : Bool) → Step → List Step → Continuation
next_of ignore_case step others = after_own ignore_case (own_text step (literals (take (own_count (literal_string_of step)) others))) (begins ignore_case step others)

abbrev pub onward_of : (ignore_case : Bool) → Step → List Step → Continuation
onward_of ignore_case step others = onward ignore_case (run_end step) (goes ignore_case step others)

longest_parts : (ignore_case : Bool) (end : ℕ) (gives : Continuation) (front text : List ℕ) → longest ignore_case end gives front text ≡ option_or (onward ignore_case end (longest ignore_case end gives) front text) (gives front text)
longest_parts ignore_case end gives front [] = refl
longest_parts ignore_case end gives front (d ∷ text) = by (is_same_character ignore_case d end)
  where
    by : (b : Bool) → cond b (gives front (d ∷ text)) (option_or (longest ignore_case end gives (front ++ d ∷ []) text) (gives front (d ∷ text)))
        ≡ option_or (cond b None (longest ignore_case end gives (front ++ d ∷ []) text)) (gives front (d ∷ text))
    by true = refl
    by false = refl

longest_some_parts : (ignore_case : Bool) (end : ℕ) (gives : Continuation) (front text : List ℕ) → longest_some ignore_case end gives front text ≡ onward ignore_case end (longest ignore_case end gives) front text
longest_some_parts ignore_case end gives front [] = refl
longest_some_parts ignore_case end gives front (d ∷ text) = refl

shortest_parts : (ignore_case : Bool) (end : ℕ) (gives : Continuation) (front text : List ℕ)
    → shortest ignore_case end gives front text ≡ onward ignore_case end (λ front text. option_or (gives front text) (shortest ignore_case end gives front text)) front text
shortest_parts ignore_case end gives front [] = refl
shortest_parts ignore_case end gives front (d ∷ text) = refl

run_parts : (ignore_case : Bool) (may_be_empty : Bool) (end : ℕ) (gives : Continuation) (front text : List ℕ)
    → longest_run ignore_case may_be_empty end gives front text
    ≡ cond may_be_empty (option_or (onward ignore_case end (longest ignore_case end gives) front text) (gives front text)) (onward ignore_case end (longest ignore_case end gives) front text)
run_parts ignore_case true end gives front text = longest_parts ignore_case end gives front text
run_parts ignore_case false end gives front text = longest_some_parts ignore_case end gives front text

copies_parts : (ignore_case : Bool) (allows_zero : Bool) (c : ℕ) (characters : List ℕ) (gives : Continuation) (front text : List ℕ)
    → repeated allows_zero (after_text ignore_case (c ∷ characters)) gives front text
    ≡ cond allows_zero (option_or (after_text ignore_case (c ∷ characters) (any_rounds (after_text ignore_case (c ∷ characters)) gives) front text) (gives front text))
    (after_text ignore_case (c ∷ characters) (any_rounds (after_text ignore_case (c ∷ characters)) gives) front text)
copies_parts ignore_case true c characters gives front text = any-unrolled (after_text ignore_case (c ∷ characters)) (advances-after ignore_case c characters) gives front text
copies_parts ignore_case false c characters gives front text = refl

module _ (ignore_case : Bool) (c : ℕ) (literal : List ℕ) (is_greedy : Bool) (end : ℕ) (gives : Continuation) where
  onward_segments : (front text : List ℕ) → ends.onward ignore_case c literal is_greedy end gives front text ≡ onward ignore_case end (ends.either ignore_case c literal is_greedy end gives) front text
  onward_segments front [] = refl
  onward_segments front (d ∷ text) = refl

  segments_begin : (front text : List ℕ) → segmented ignore_case (c ∷ literal) (single_run ignore_case is_greedy end) gives front text
      ≡ cond is_greedy
      (option_or (onward ignore_case end (ends.either ignore_case c literal is_greedy end gives) front text)
      (option_or (after_text ignore_case (c ∷ literal) (segmented ignore_case (c ∷ literal) (single_run ignore_case is_greedy end) gives) front text) (gives front text)))
      (onward ignore_case end (ends.either ignore_case c literal is_greedy end gives) front text)
  segments_begin front text =
      ends.begins_parts ignore_case c literal is_greedy end gives front text
      ∙ ap₂ (λ o s. cond is_greedy (option_or o s) o) (onward_segments front text) (ends.stops_unrolled ignore_case c literal is_greedy end gives front text)

  segments_go : (front text : List ℕ) → ends.either ignore_case c literal is_greedy end gives front text
      ≡ cond is_greedy
      (option_or (onward ignore_case end (ends.either ignore_case c literal is_greedy end gives) front text)
      (option_or (after_text ignore_case (c ∷ literal) (segmented ignore_case (c ∷ literal) (single_run ignore_case is_greedy end) gives) front text) (gives front text)))
      (option_or (option_or (after_text ignore_case (c ∷ literal) (segmented ignore_case (c ∷ literal) (single_run ignore_case is_greedy end) gives) front text) (gives front text))
      (onward ignore_case end (ends.either ignore_case c literal is_greedy end gives) front text))
  segments_go front text =
      ends.either_parts ignore_case c literal is_greedy end gives front text
      ∙ ap₂ (λ o s. cond is_greedy (option_or o s) (option_or s o)) (onward_segments front text) (ends.stops_unrolled ignore_case c literal is_greedy end gives front text)

pub begins_is : (ignore_case : Bool) (step : Step) (others : List Step) (front text : List ℕ)
    → begins ignore_case step others front text ≡ result_after_literal step (next_of ignore_case step others front text) (step_continuation ignore_case step others front text) (onward_of ignore_case step others front text)
begins_is ignore_case (Literal c) others front text = refl
begins_is ignore_case (LazyRun end) others front text = refl
begins_is ignore_case DotStar others front text = refl
begins_is ignore_case (OptionalGroup group) others front text = refl
begins_is ignore_case (GreedyRun run) others front text = refl
begins_is ignore_case (RepeatedLiteral copies) others front text = copies_parts ignore_case true copies.text.first _ (step_continuation ignore_case (RepeatedLiteral copies) others) front text
begins_is ignore_case (Segments segments) others front text =
    segments_begin ignore_case segments.separator.first _ segments.is_greedy segments.end (step_continuation ignore_case (Segments segments) others) front text

pub goes_is : (ignore_case : Bool) (step : Step) (others : List Step) (front text : List ℕ)
    → goes ignore_case step others front text ≡ result_within_run step (next_of ignore_case step others front text) (step_continuation ignore_case step others front text) (onward_of ignore_case step others front text)
goes_is ignore_case (Literal c) others front text = refl
goes_is ignore_case (LazyRun end) others front text = ap (option_or (step_continuation ignore_case (LazyRun end) others front text)) (shortest_parts ignore_case end (step_continuation ignore_case (LazyRun end) others) front text)
goes_is ignore_case DotStar others front text = longest_parts ignore_case (run_end DotStar) (step_continuation ignore_case DotStar others) front text
goes_is ignore_case (OptionalGroup group) others front text = refl
goes_is ignore_case (GreedyRun run) others front text = longest_parts ignore_case run.end (step_continuation ignore_case (GreedyRun run) others) front text
goes_is ignore_case (RepeatedLiteral copies) others front text = refl
goes_is ignore_case (Segments segments) others front text =
    segments_go ignore_case segments.separator.first _ segments.is_greedy segments.end (step_continuation ignore_case (Segments segments) others) front text

pub wholly_is : (ignore_case : Bool) (step : Step) (others : List Step) → IsSingle step → (front text : List ℕ)
    → wholly ignore_case step others front text ≡ result_at_start step (next_of ignore_case step others front text) (step_continuation ignore_case step others front text) (onward_of ignore_case step others front text)
wholly_is ignore_case (Literal c) others single front text = refl
wholly_is ignore_case (LazyRun end) others single front text = shortest_parts ignore_case end (step_continuation ignore_case (LazyRun end) others) front text
wholly_is ignore_case DotStar others single front text = longest_parts ignore_case (run_end DotStar) (step_continuation ignore_case DotStar others) front text
wholly_is ignore_case (OptionalGroup group) others single front text = absurd single
wholly_is ignore_case (GreedyRun run) others single front text = run_parts ignore_case run.may_be_empty run.end (step_continuation ignore_case (GreedyRun run) others) front text
wholly_is ignore_case (RepeatedLiteral copies) others single front text = copies_parts ignore_case copies.allows_zero copies.text.first _ (step_continuation ignore_case (RepeatedLiteral copies) others) front text
wholly_is ignore_case (Segments segments) others single front text =
    segments_begin ignore_case segments.separator.first _ segments.is_greedy segments.end (step_continuation ignore_case (Segments segments) others) front text

-- ---- the end of the prefix

module _ (gives : Continuation) (text : List ℕ) (n h o : Option ℕ) (a b c : Option Captures) (one : IsPrefixLengthFor gives text n a) (two : IsPrefixLengthFor gives text h b) (three : IsPrefixLengthFor gives text o c) where
  abbrev Cut : Option ℕ → Option Captures → Type 0
  Cut end found = IsPrefixLengthFor gives text end found

  stopped : Cut (option_or n h) (option_or a b)
  stopped = ends.cut-or gives text n h a b one two

  cut_by : (b : Bool) (n m : Option ℕ) (p q : Option Captures) → Cut n p → Cut m q → Cut (cond b n m) (cond b p q)
  cut_by true n m p q one two = one
  cut_by false n m p q one two = two

  go_or_stop : Cut (option_or o (option_or n h)) (option_or c (option_or a b))
  go_or_stop = ends.cut-or gives text o (option_or n h) c (option_or a b) three stopped

  go_or_here : Cut (option_or o h) (option_or c b)
  go_or_here = ends.cut-or gives text o h c b three two

  pub begun_cut : (step : Step) → Cut (result_after_literal step n h o) (result_after_literal step a b c)
  begun_cut (Literal d) = two
  begun_cut (LazyRun end) = refl
  begun_cut DotStar = refl
  begun_cut (OptionalGroup group) = refl
  begun_cut (GreedyRun run) = refl
  begun_cut (RepeatedLiteral copies) = stopped
  begun_cut (Segments segments) = cut_by segments.is_greedy _ _ _ _ go_or_stop three

  pub later_cut : (step : Step) → Cut (result_within_run step n h o) (result_within_run step a b c)
  later_cut (Literal d) = refl
  later_cut (LazyRun end) = ends.cut-or gives text h o b c two three
  later_cut DotStar = go_or_here
  later_cut (OptionalGroup group) = refl
  later_cut (GreedyRun run) = go_or_here
  later_cut (RepeatedLiteral copies) = refl
  later_cut (Segments segments) = cut_by segments.is_greedy _ _ _ _ go_or_stop (ends.cut-or gives text (option_or n h) o (option_or a b) c stopped three)

  pub whole_cut : (step : Step) → Cut (result_at_start step n h o) (result_at_start step a b c)
  whole_cut (Literal d) = one
  whole_cut (LazyRun end) = three
  whole_cut DotStar = go_or_here
  whole_cut (OptionalGroup group) = refl
  whole_cut (GreedyRun run) = cut_by run.may_be_empty _ _ _ _ go_or_here three
  whole_cut (RepeatedLiteral copies) = cut_by copies.allows_zero _ _ _ _ stopped one
  whole_cut (Segments segments) = cut_by segments.is_greedy _ _ _ _ go_or_stop three
