-- What a match adds to the captures.
use Rattle.std.specs.Prelude.{◌≡◌, Bool, false, List, [], ◌∷◌, ◌++◌, ℕ, length, map, Option, Some, None, Result, option_map, if◌then◌else◌, IfOk, IfSome}
use Rattle.std.specs.Borrow.{Bor}
use Rattle.std.specs.Global.{Global}
use Rattle.std.specs.declared.vec.Vec.{Vec}
use Rattle.std.specs.Str.{chars, IsUtf8}
use Rattle.urlpattern_meaning.specs.PartMeaning.{Captures}
use Rattle.urlpattern_steps.specs.declared.step.Group.{Group}
use Rattle.urlpattern_steps.specs.declared.step.Segments.{Segments}
use Rattle.urlpattern_steps.specs.declared.step.Step.{Step}
use Rattle.urlpattern_steps.specs.declared.step.Step.TheVariants.{OptionalGroup}
use Rattle.urlpattern_steps.specs.Table.{HaveRow, following, step_continuation}
use Rattle.urlpattern_steps.specs.declared.walk.Attempt.{Attempt}
use Rattle.urlpattern_steps.specs.Walk.{Continuation, captured_prefix, literal_text, segmented, single_run, walk}
use Rattle.urlpattern_syntax.specs.Text.{option_text}

-- The number is the length in bytes of a prefix of the text for which the continuation returns
-- `found`, which is Some. None: `found` is None.
abbrev pub IsPrefixLengthFor : Continuation → (text : List ℕ) → Option ℕ
    → (found : Option Captures) → Type 0
IsPrefixLengthFor gives text None found = found ≡ None
IsPrefixLengthFor gives text (Some n) found =
    (front rest : List ℕ) × IsUtf8 front
    × IsUtf8 rest
    × (text ≡ front ++ rest)
    × (length front ≡ n)
    × (found ≡ gives (chars front) (chars rest))
    × ¬ (found ≡ None)

-- `end` is the length in bytes of the preferred prefix of the text that the step matches and after
-- which the following steps match the rest. None: there is no match.
abbrev pub IsEndOfPrefix : (ignore_case : Bool) → Step → (others : List Step) → (text : List ℕ)
    → Option ℕ → Type 0
IsEndOfPrefix ignore_case step others text end =
    IsPrefixLengthFor (step_continuation ignore_case step others) text end
    (walk ignore_case (step ∷ others) (chars text))

-- `end` is the length in bytes of the preferred separated runs at the start of the text after which
-- the other steps match the rest. None: there is no match.
--
-- The separator is its first character and those of the literal steps.
abbrev pub IsEndOfSegments : (ignore_case : Bool) → Segments
    → (literal others : List Step) → (text : List ℕ) → (end : Option ℕ) → Type 0
IsEndOfSegments ignore_case segments literal others text end =
    IsPrefixLengthFor (captured_prefix (walk ignore_case others)) text end
    (segmented ignore_case (literal_text segments.separator.first literal)
    (single_run ignore_case segments.is_greedy segments.end)
    (captured_prefix (walk ignore_case others)) [] (chars text))

-- `end` is the end of separated runs, one of which may end at `here`: `next`, the end if more runs
-- follow, or else `here`, if captures are found in the rest. None: neither.
abbrev pub IsEndHere : (next : Option ℕ) → (here : ℕ) → (found : Option Captures) → (end : Option ℕ)
    → Type 0
IsEndHere (Some n) here found end = end ≡ Some n
IsEndHere None here found None = found ≡ None
IsEndHere None here found (Some n) = (n ≡ here) × ¬ (found ≡ None)

-- A list of captures that borrow from the text. A capture is None if its optional group does not
-- match.
abbrev pub Kept : Type 0
Kept = List (Option (Bor (List ℕ)))

-- The captures `old`, followed by the captures found. None: none were found.
abbrev pub with_captures : Kept → Option Captures → Option Captures
with_captures old found = option_map (λ others. map option_text old ++ others) found

-- `new` has the captures `old` first.
abbrev pub Extends : (old new : Kept) → Type 0
Extends old new = (added : Kept) × (new ≡ old ++ added)

-- If there are captures, `does_match` is true and `new` has them after `old`; otherwise
-- `does_match` is false.
abbrev pub AreAdded : (old new : Kept) → (does_match : Bool) → Option Captures → Type 0
AreAdded old new does_match captures =
    (if does_match then Some (map option_text new) else None)
    ≡ option_map (λ others. map option_text old ++ others) captures

-- A vector of captures.
abbrev pub KeptVec : Type 0
KeptVec = Vec (Option (Bor (List ℕ))) Global

-- If there are captures, `does_match` is true and the vector `new` has them after those of `old`;
-- otherwise `does_match` is false.
abbrev pub Adds : (old new : KeptVec) → (does_match : Bool) → Option Captures → Type 0
Adds old new does_match captures = AreAdded old.items new.items does_match captures

-- The captures and the match are unchanged between `old` and `new`.
pub record Untouched (old new : Attempt) : Type 0 where
  pub same : new.captures.items ≡ old.captures.items
  pub whole : new.failed ≡ old.failed

-- `does_match` is whether captures were found. If so, they were added to the captures, otherwise
-- nothing was.
pub record MatchesRest (old new : Attempt) (does_match : Bool) (found : Option Captures) : Type 0
  where
    pub adds : Adds old.captures new.captures does_match found
    pub same : does_match ≡ false → new.captures.items ≡ old.captures.items
    pub whole : new.failed ≡ old.failed

-- If `answered` is Ok, its value is whether captures were found, which were then added to the
-- captures; otherwise nothing was.
abbrev pub MatchesRestIfOk : {E : Type 0} → (old new : Attempt)
    → (answered : Result Bool E) → (found : Option Captures) → Type 0
MatchesRestIfOk old new answered found =
    IfOk answered (λ does_match. MatchesRest old new does_match found)

-- `does_match` is whether captures were found. If so, they were added to the captures, otherwise
-- some captures may have been.
pub record MatchesInTurn (old new : Attempt) (does_match : Bool) (found : Option Captures) : Type 0
  where
    pub adds : Adds old.captures new.captures does_match found
    pub more : does_match ≡ false → Extends old.captures.items new.captures.items
    pub whole : new.failed ≡ old.failed

-- From captures `old` on, with `steps` and `text`, a match may go on from captures `new`, with the
-- steps `left` and the text `rest`: `old` followed by the captures of `steps` in `text` is `new`
-- followed by those of `left` in `rest`, or neither list of steps matches.
abbrev pub LeavesWalk : (ignore_case : Bool) (old new : KeptVec) → (steps : List Step)
    → (text : List ℕ) → (left : List Step) → (rest : List ℕ) → Type 0
LeavesWalk ignore_case old new steps text left rest =
    with_captures old.items (walk ignore_case steps (chars text))
    ≡ with_captures new.items (walk ignore_case left (chars rest))

-- If `left` is a rest of `text`, `old` followed by the captures of the step and the others in
-- `text` is `new` followed by the captures of the steps after the step and its literal in that
-- rest; or neither list of steps matches.
abbrev pub LeavesFollowing : (ignore_case : Bool) (old new : KeptVec) → Step
    → (others : List Step) → (text : List ℕ) → (left : Option (Bor (List ℕ))) → Type 0
LeavesFollowing ignore_case old new step others text left =
    IfSome left (λ rest.
    LeavesWalk ignore_case old new (step ∷ others) text (following step others) rest.now)

-- If the rows have the row of the others, `old` followed by the captures of the optional group and
-- the others is `new` followed by the captures of the steps `left`, all in `text`; or neither list
-- of steps matches.
abbrev pub LeavesChosen : (rows : List (Vec Bool Global)) (old new : KeptVec) → Group
    → (others : List Step) → (text : List ℕ) → (left : List Step) → Type 0
LeavesChosen rows old new group others text left =
    (ignore_case : Bool) → HaveRow ignore_case (chars text) others rows
    → LeavesWalk ignore_case old new (OptionalGroup group ∷ others) text left text
