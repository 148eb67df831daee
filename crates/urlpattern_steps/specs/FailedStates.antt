-- Memoized failed states of a match, a bit for each state.
use Rattle.std.specs.Prelude.{Bool, ◌≡◌, ℕ, ◌+◌, ◌*◌, ◌/◌, ◌%◌, List, [], ◌⊎◌, ◌++◌, length, None, slice_index, IsTrue}
use Rattle.std.specs.Str.{chars, IsUtf8}
use Rattle.std.specs.Int.{bit_at}
use Rattle.urlpattern_steps.specs.declared.step.Step.{Step}
use Rattle.urlpattern_steps.specs.Walk.{up_to_first, walk}
use Rattle.urlpattern_syntax.specs.Text.{byte_len}

-- The steps and the text of a match, and whether the case of ASCII letters is ignored.
pub record Whole : Type 0 where
  pub ignore_case : Bool
  pub steps : List Step
  pub text : List ℕ

-- `end` is a suffix of `whole`.
abbrev pub EndsWith : {A : Type 0} → (whole end : List A) → Type 0
EndsWith whole end = (front : List _) × (whole ≡ front ++ end)

-- `steps` and `text` are a state of the match `whole`: remaining steps and a remaining text.
pub record IsStateOf (ignore_case : Bool) (whole : Whole) (steps : List Step) (text : List ℕ) : Type
    0 where
  pub of_case : whole.ignore_case ≡ ignore_case
  pub of_steps : EndsWith whole.steps steps
  pub of_text : EndsWith whole.text text

-- The steps and the text are a failed state of the match `whole`: the steps do not match the text.
abbrev pub IsFailedState : Whole → List Step → (text : List ℕ) → Type 0
IsFailedState whole steps text =
    (ignore_case : Bool) × IsStateOf ignore_case whole steps text
    × (walk ignore_case steps text ≡ None)

-- If `is_remembered`, that is, if the state is memoized, the state has failed: the steps do not
-- match the text.
abbrev pub HoldsOnlyFailed : Whole → List Step → (text : List ℕ) → (is_remembered : Bool) → Type 0
HoldsOnlyFailed whole steps text is_remembered =
    (ignore_case : Bool) → IsStateOf ignore_case whole steps text → IsTrue is_remembered
    → walk ignore_case steps text ≡ None

-- The index of the bit of the state with these remaining steps and this remaining text, in a match
-- of the text `whole`.
abbrev pub bit_of : (whole : List ℕ) → List Step → (text : List ℕ) → ℕ
bit_of whole steps text = length steps * (byte_len whole + 1) + byte_len text

-- In a list of 64-bit words, the bit with this index is set.
unfoldable pub HasBit : List ℕ → ℕ → Type 0
HasBit bits bit = bit_at (slice_index bits (bit / 64)) (bit % 64) ≡ 1

-- Each state of the match `whole` whose bit is set has failed: its steps do not match its text.
abbrev pub AreFailed : Whole → (bits : List ℕ) → Type 0
AreFailed whole bits =
    (steps : List Step) (text : List ℕ) → IsStateOf whole.ignore_case whole steps text
    → HasBit bits (bit_of whole.text steps text)
    → walk whole.ignore_case steps text ≡ None

-- A run without `end`, the first of the steps, cannot continue in the text, which is empty or
-- begins with `end`; or the steps do not match the text.
abbrev pub HasEnded : (ignore_case : Bool) (end : ℕ) → List Step → (text : List ℕ) → Type 0
HasEnded ignore_case end steps text =
    (up_to_first ignore_case end text ≡ []) ⊎ (walk ignore_case steps text ≡ None)

-- `front` is a prefix of `text` without `end`, after which a run without `end`, the first of the
-- steps, cannot continue, or the steps do not match the rest.
abbrev pub IsPrefixOfRun : (ignore_case : Bool) (end : ℕ) → List Step
    → (text front : List ℕ) → Type 0
IsPrefixOfRun ignore_case end steps text front =
    (rest : List ℕ) × IsUtf8 rest
    × (text ≡ front ++ rest)
    × (up_to_first ignore_case end (chars front) ≡ chars front)
    × HasEnded ignore_case end steps (chars rest)
