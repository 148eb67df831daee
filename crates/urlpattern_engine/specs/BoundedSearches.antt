-- What a search without a visited set finds.
use Rattle.std.specs.Prelude.{◌≡◌, ℕ, ◌+◌, ◌<◌, ◌≤◌, List, length, Option, Some, None, option_and_then, option_map, slice_index, vec_len}
use Rattle.std.specs.Option.{option_or}
use Rattle.regex_hir.specs.Re.{Trace}
use Rattle.regex_nfa.specs.Run.{run, state_of}
use Rattle.regex_nfa.specs.States.{IsReadable, byte_below, next_on}
use Rattle.regex_nfa.specs.declared.state.State.{State}
use Rattle.regex_vm.specs.Found.{Found, found_from_span, found_from_trace}
use Rattle.urlpattern_engine.specs.declared.bounded_search.StateMove.{StateMove}
use Rattle.urlpattern_engine.specs.declared.bounded_search.StateMove.TheVariants.{Choice, Ends, Fails, Continue, ContinueByRest}
use Rattle.urlpattern_engine.specs.declared.ahead.ByteBounds.{ByteBounds}
use Rattle.urlpattern_engine.specs.declared.bounded_search.BoundedSearch.{BoundedSearch}

-- The automaton that is searched has a state with this number.
abbrev pub IsState : BoundedSearch → ℕ → Type 0
IsState trial id = id < vec_len trial.nfa.now.states

-- The position is before one of the bytes that are searched, or after all of them.
abbrev pub IsTextPlace : BoundedSearch → ℕ → Type 0
IsTextPlace trial at = at ≤ length trial.bytes.now

-- The state of the automaton with this number.
abbrev pub state_in : BoundedSearch → ℕ → State
state_in trial id = state_of trial.nfa.now id

-- The state after a byte can be looked up in the state (`IsReadable`), by the transitions and for
-- the number of states of the automaton that is searched.
abbrev pub IsReadableIn : BoundedSearch → State → Type 0
IsReadableIn trial state =
    IsReadable trial.nfa.now.transitions.items (vec_len trial.nfa.now.states) state

-- The state to which this one goes on the byte at position `at`. None: no byte is there, or there
-- is no transition on it.
abbrev pub next_in : BoundedSearch → State → (at : ℕ) → Option ℕ
next_in trial state at =
    option_and_then (next_on trial.nfa.now.transitions.items state)
    (byte_below trial.bytes.now (length trial.bytes.now) at)

-- The preferred match from state `id` at position `at`. None: no match.
abbrev pub run_in : BoundedSearch → (id at : ℕ) → Option Trace
run_in trial id at = run trial.nfa.now trial.bytes.now (length trial.bytes.now) id at

-- The preferred match from state `id` at position `at`, with its cells: `cells`, as the match
-- overwrites them. None: no match.
abbrev pub found_from : BoundedSearch → (cells : List ℕ) → (id at : ℕ) → Option Found
found_from trial cells id at = found_from_trace 0 cells (run_in trial id at)

-- `found` is a match from position 0 to `end` with these cells; if `end` is None, `found` is None,
-- no match.
abbrev pub IsFoundEnd : Option Found → (cells : List ℕ) → (end : Option ℕ) → Type 0
IsFoundEnd found cells end = found_from_span (option_map (λ e. (0, e)) end) cells ≡ found

-- A search from the state `next` at position `place`, with these cells at first, finds `found`.
pub record GoesOn (trial : BoundedSearch) (found : Option Found) (cells : List ℕ) (next place : ℕ) :
    Type 0 where
  pub is_state : IsState trial next
  pub is_place : IsTextPlace trial place
  pub same : found_from trial cells next place ≡ found

-- A search from the state `first` at position `place`, or from `second` if `first` has no match,
-- with these cells at first, finds `found`.
pub record Chooses (trial : BoundedSearch) (found : Option Found) (cells : List ℕ)
    (first second place : ℕ) : Type 0 where
  pub is_first : IsState trial first
  pub is_second : IsState trial second
  pub is_place : IsTextPlace trial place
  pub same : found_from_trace 0 cells
      (option_or (run_in trial first place) (run_in trial second place))
      ≡ found

-- A search that makes this move, with these cells after it, finds `found`.
abbrev pub FollowsMove : BoundedSearch → Option Found → (cells : List ℕ) → StateMove → Type 0
FollowsMove trial found cells (Continue next place) = GoesOn trial found cells next place
FollowsMove trial found cells (ContinueByRest next place) = GoesOn trial found cells next place
FollowsMove trial found cells (Choice first second place) =
    Chooses trial found cells first second place
FollowsMove trial found cells (Ends end) = IsFoundEnd found cells (Some end)
FollowsMove trial found cells Fails = IsFoundEnd found cells None

-- ---- the bytes of a span

-- The span contains the byte.
abbrev pub HasByte : ByteBounds → ℕ → Type 0
HasByte span b = (span.low ≤ b) × (b ≤ span.high)

-- The span contains the byte at this position.
pub record IsInSpan (trial : BoundedSearch) (span : ByteBounds) (at : ℕ) : Type 0 where
  pub inside : at < length trial.bytes.now
  pub has : HasByte span (slice_index trial.bytes.now at)

-- A match from state `id`, at a position before a byte, begins with a byte of the span.
abbrev pub NeedsByte : BoundedSearch → ℕ → ByteBounds → Type 0
NeedsByte trial id span =
    (at : ℕ) → at < length trial.bytes.now → ¬ IsInSpan trial span at → run_in trial id at ≡ None

-- At each byte of the span, the preferred match from state `id` is the one from state `other` after
-- the byte.
abbrev pub GoesRound : BoundedSearch → (id other : ℕ) → ByteBounds → Type 0
GoesRound trial id other span =
    (at : ℕ) → IsInSpan trial span at → run_in trial id at ≡ run_in trial other (at + 1)
