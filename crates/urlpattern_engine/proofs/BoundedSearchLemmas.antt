-- What a backtracking search finds from a state, by what it finds from the next one.
use Rattle.std.proofs.Common.{◌≡◌, ℕ, zero, suc, ◌+◌, ◌<◌, ◌≤◌, ◌∷◌, Bool, true, false, cond, List, length, Option, Some, None, inl, inr, nat_lt, not, is_some, slice_get, slice_index, slice_index_or, slice_range, replicate, refl, sym, ap, ◌∙◌, subst, arith, le-leb, lt-ltb, le-ltb, true≢false}
use Rattle.std.proofs.lemmas.Bool.{and_from, cases_Bool, cases_lt, cond-true, cond-false}
use Rattle.std.proofs.lemmas.Option.{none-some, same_Some, slice_get-get_or, slice_get_past}
use Rattle.std.specs.Option.{option_or}
use Rattle.std.specs.Prelude.{IfSome, option_and_then, option_map}
use Rattle.regex_hir.specs.Looks.{holds, holds_between}
use Rattle.regex_hir.specs.Text.{byte_before}
use Rattle.regex_hir.specs.Re.{Trace, write}
use Rattle.regex_hir.specs.declared.look.Look as look
use Rattle.regex_hir.specs.declared.look.Look.TheVariants.{End, Start}
use Rattle.regex_hir.proofs.FindLemmas.{first_between_here, first_between_next, first_between_past}
use Rattle.regex_hir.proofs.OptionLemmas.{option_or-None}
use Rattle.regex_hir.specs.Find as find
use Rattle.regex_nfa.specs.Run.{run}
use Rattle.regex_nfa.specs.declared.nfa.Nfa.{Nfa}
use Rattle.regex_nfa.specs.States.{covers, next_on, target_in}
use Rattle.regex_nfa.specs.declared.state.State.{State}
use Rattle.regex_nfa.specs.declared.state.State.TheVariants.{ByteRange, Fail, Look, Match, Save, Sparse, Split}
use Rattle.regex_nfa.specs.declared.state.Transition.{Transition}
use Rattle.regex_nfa.proofs.RunLemmas.{byte_below_inside, byte_below_past, covers_parts, run_at, slice_range_step, target_in_hit, target_in_miss}
use Rattle.regex_vm.specs.Found.{Found, apply, found_from_trace, group_cells, put}
use Rattle.regex_vm.specs.Pike.{IsResting}
use Rattle.urlpattern_engine.specs.Automatons.{match_at_start}
use Rattle.regex_vm.proofs.FoundLemmas.{apply_zeros, none_of_found_from_trace}
use Rattle.regex_vm.proofs.NfaLemmas.{run_reads}
use Rattle.urlpattern_engine.specs.BoundedSearches.{Chooses, GoesOn, GoesRound, HasByte, IsInSpan, IsTextPlace, IsState, NeedsByte, found_from, next_in, run_in, state_in}
use Rattle.urlpattern_engine.specs.declared.ahead.ByteBounds.{ByteBounds}
use Rattle.urlpattern_engine.specs.declared.bounded_search.BoundedSearch.{BoundedSearch}

-- ---- of one trace

found_written : (slot i : ℕ) (a : Option Trace) (cells : List ℕ) → found_from_trace 0 (put cells slot i) a ≡ found_from_trace 0 cells (write slot i a)
unfolding apply
found_written slot i None cells = refl
found_written slot i (Some t) cells = refl

-- ---- a state

module _ (trial : BoundedSearch) (q i : ℕ) where
  -- A choice.

  module _ (first second : ℕ) (is : state_in trial q ≡ Split first second) where
    pub chosen : run_in trial q i ≡ option_or (run_in trial first i) (run_in trial second i)
    chosen = run_at trial.nfa.now trial.bytes.now (length trial.bytes.now) q i (Split first second) is

    pub run_by_first : run_in trial second i ≡ None → run_in trial q i ≡ run_in trial first i
    run_by_first none = chosen ∙ ap (option_or (run_in trial first i)) none ∙ option_or-None _

    pub run_by_second : run_in trial first i ≡ None → run_in trial q i ≡ run_in trial second i
    run_by_second none = chosen ∙ ap (λ o. option_or o (run_in trial second i)) none

    pub none_of_both : run_in trial first i ≡ None → run_in trial second i ≡ None → run_in trial q i ≡ None
    none_of_both one other = run_by_second one ∙ other

  -- A write.

  module _ (slot next : ℕ) (is : state_in trial q ≡ Save slot next) where
    written : run_in trial q i ≡ write slot i (run_in trial next i)
    written = run_at trial.nfa.now trial.bytes.now (length trial.bytes.now) q i (Save slot next) is

    pub found_by_write : (cells : List ℕ) → found_from trial (put cells slot i) next i ≡ found_from trial cells q i
    found_by_write cells = found_written slot i (run_in trial next i) cells ∙ ap (found_from_trace 0 cells) (sym written)

    pub none_by_write : run_in trial next i ≡ None → run_in trial q i ≡ None
    none_by_write none = written ∙ ap (write slot i) none

  -- An assertion.

  module _ (l : look.Look) (next : ℕ) (is : state_in trial q ≡ Look l next) where
    asserted : run_in trial q i ≡ cond (holds l trial.bytes.now i) (run_in trial next i) None
    asserted = run_at trial.nfa.now trial.bytes.now (length trial.bytes.now) q i (Look l next) is

    pub run_by_look : true ≡ holds l trial.bytes.now i → run_in trial q i ≡ run_in trial next i
    run_by_look held = asserted ∙ cond-true (holds l trial.bytes.now i) _ None (sym held)

    pub none_by_look : false ≡ holds l trial.bytes.now i → run_in trial q i ≡ None
    none_by_look failed = asserted ∙ cond-false (holds l trial.bytes.now i) _ None (sym failed)

  -- The end.

  pub found_here : (cells : List ℕ) → state_in trial q ≡ Match → Some (record { start = 0; end = i; groups = cells }) ≡ found_from trial cells q i
  unfolding apply
  found_here cells is =
      ap (found_from_trace 0 cells) (sym (run_at trial.nfa.now trial.bytes.now (length trial.bytes.now) q i Match is))

  -- A byte.

  module _ (state : State) (is : state ≡ state_in trial q) (resting : IsResting state) (other : state ≡ Match → ⊥) (next : Option ℕ)
      (read : next ≡ next_in trial state i) where
    reads : run_in trial q i ≡ option_and_then (λ r. run_in trial r (i + 1)) next
    reads =
        run_reads trial.nfa.now trial.bytes.now (length trial.bytes.now) q i state is resting other
        ∙ ap (option_and_then (λ r. run_in trial r (i + 1))) (sym read)

    pub run_by_byte : (r : ℕ) → next ≡ Some r → run_in trial q i ≡ run_in trial r (i + 1)
    run_by_byte r e = reads ∙ ap (option_and_then (λ r. run_in trial r (i + 1))) e

    pub none_by_byte : next ≡ None → run_in trial q i ≡ None
    none_by_byte e = reads ∙ ap (option_and_then (λ r. run_in trial r (i + 1))) e

-- An option that is tested to be None is None.
pub none_by_test : {A : Type 0} (o : Option A) (none : Bool) → none ≡ true → is_some o ≡ not none → o ≡ None
none_by_test None none is test = refl
none_by_test (Some x) none is test = absurd (true≢false (test ∙ ap not is))

-- A state that reads bytes, but not the next one.
pub none_by_no_byte : (trial : BoundedSearch) (q i : ℕ) (state : State) → state ≡ state_in trial q → IsResting state → (state ≡ Match → ⊥) → (next : Option ℕ)
    → next ≡ next_in trial state i → (none : Bool) → none ≡ true → is_some next ≡ not none → run_in trial q i ≡ None
none_by_no_byte trial q i state is resting other next read none tested test =
    none_by_byte trial q i state is resting other next read (none_by_test next none tested test)

-- A match that is preferred from another position is found there.
pub same_found : (trial : BoundedSearch) (cells : List ℕ) (q i r j : ℕ) → run_in trial q i ≡ run_in trial r j → found_from trial cells r j ≡ found_from trial cells q i
same_found trial cells q i r j e = ap (found_from_trace 0 cells) (sym e)

-- A choice with the same match at a later position.
module _ (trial : BoundedSearch) (id first second at place : ℕ) (choice : state_in trial id ≡ Split first second) (states : IsState trial first × IsState trial second)
    (within : IsTextPlace trial place) (same : run_in trial id at ≡ run_in trial id place) (cells : List ℕ) where
  pub goes_on_first : run_in trial second place ≡ None → GoesOn trial (found_from trial cells id at) cells first place
  goes_on_first none = record {
    is_state = states.0;
    is_place = within;
    same = same_found trial cells id at first place (same ∙ run_by_first trial id place first second choice none);
  }

  pub goes_on_second : run_in trial first place ≡ None → GoesOn trial (found_from trial cells id at) cells second place
  goes_on_second none = record {
    is_state = states.1;
    is_place = within;
    same = same_found trial cells id at second place (same ∙ run_by_second trial id place first second choice none);
  }

  pub stays_open : Chooses trial (found_from trial cells id at) cells first second place
  stays_open = record {
    is_first = states.0;
    is_second = states.1;
    is_place = within;
    same = ap (found_from_trace 0 cells) (sym (same ∙ chosen trial id place first second choice));
  }

-- Nothing is found without a match.
pub nothing_found : (trial : BoundedSearch) (cells : List ℕ) (q i : ℕ) → run_in trial q i ≡ None → None ≡ found_from trial cells q i
nothing_found trial cells q i none = ap (found_from_trace 0 cells) (sym none)

-- ---- the next byte

pub next_inside : (trial : BoundedSearch) (state : State) (i : ℕ) → i < length trial.bytes.now
    → next_in trial state i ≡ next_on trial.nfa.now.transitions.items state (slice_index trial.bytes.now i)
next_inside trial state i inside =
    ap (option_and_then (next_on trial.nfa.now.transitions.items state))
    (byte_below_inside trial.bytes.now (length trial.bytes.now) i inside ∙ slice_get-get_or trial.bytes.now i 0 inside)

pub next_past : (trial : BoundedSearch) (state : State) (i : ℕ) → length trial.bytes.now ≤ i → next_in trial state i ≡ None
next_past trial state i past =
    ap (option_and_then (next_on trial.nfa.now.transitions.items state)) (byte_below_past trial.bytes.now (length trial.bytes.now) i past)

-- The end assertion does not hold before a byte.
pub end_is_after : (bytes : List ℕ) (i : ℕ) → i < length bytes → false ≡ holds End bytes i
unfolding holds holds_between
end_is_after bytes i inside = rw (slice_get-get_or bytes i 0 inside) refl

none_is : (some none : Bool) → some ≡ not none → none ≡ not some
none_is some true e = ap not (sym e)
none_is some false e = ap not (sym e)

byte_is_there : (bytes : List ℕ) (i : ℕ) → is_some (slice_get bytes i) ≡ nat_lt i (length bytes)
byte_is_there bytes i = elim (cases_lt i (length bytes)) [
  | inl inside ↦ ap is_some (slice_get-get_or bytes i 0 inside) ∙ sym (lt-ltb i (length bytes) inside)
  | inr past ↦ ap is_some (slice_get_past bytes i past) ∙ sym (le-ltb i (length bytes) past)
]

-- The end assertion holds exactly where no byte follows.
pub end_holds : (bytes : List ℕ) (i : ℕ) (some none : Bool) → some ≡ nat_lt i (length bytes) → some ≡ not none → none ≡ holds End bytes i
unfolding holds holds_between
end_holds bytes i some none there is = none_is some none is ∙ ap not (there ∙ sym (byte_is_there bytes i))

-- The start assertion holds before all bytes.
pub start_holds : (bytes : List ℕ) (i : ℕ) → i ≡ 0 → true ≡ holds Start bytes i
unfolding holds holds_between byte_before
start_holds bytes i first = subst (λ (at : ℕ). true ≡ holds Start bytes at) (sym first) refl

-- ---- ranges of bytes

-- The state is not the one in which a match ends.
abbrev IsOther : State → Type 0
IsOther (ByteRange t) = Unit {0}
IsOther (Sparse from to) = Unit {0}
IsOther (Split first second) = Unit {0}
IsOther (Save slot next) = Unit {0}
IsOther (Look l next) = Unit {0}
IsOther Match = ⊥
IsOther Fail = Unit {0}

-- A transition is taken on each of its bytes.
pub target_in_span : (ts : List Transition) (to k b : ℕ) (t : Transition) → k < to → to ≤ length ts → slice_index_or ts k t ≡ t → t.start ≤ b → b ≤ t.end
    → (n from : ℕ) → from + n ≡ k → ((j : ℕ) → from ≤ j → j < k → (slice_index_or ts j t).end < t.start) → target_in (slice_range ts from to) b ≡ Some t.next
target_in_span ts to k b t below within is low high zero from e before =
    let here : from ≡ k = omega (arith, e) in
    ap (λ r. target_in r b)
    (slice_range_step ts from to t (omega arith) (omega arith)
    ∙ ap (λ x. x ∷ slice_range ts (from + 1) to) (ap (λ n. slice_index_or ts n t) here ∙ is))
    ∙ target_in_hit t (slice_range ts (from + 1) to) b low high
target_in_span ts to k b t below within is low high (suc n) from e before =
    ap (λ r. target_in r b) (slice_range_step ts from to t (omega arith) (omega arith))
    ∙ target_in_miss (slice_index_or ts from t) (slice_range ts (from + 1) to) b (omega (arith, before from (omega arith) (omega arith)))
    ∙ target_in_span ts to k b t below within is low high n (from + 1) (omega (arith, e)) (λ j above under. before j (omega arith) under)

module _ (trial : BoundedSearch) (q i : ℕ) where
  pub range_is_no_match : (t : Transition) → ByteRange t ≡ Match → ⊥
  range_is_no_match t e = subst IsOther e tt

  pub sparse_is_no_match : (from to : ℕ) → Sparse from to ≡ Match → ⊥
  sparse_is_no_match from to e = subst IsOther e tt

  pub run_in_range : (t : Transition) (other : ℕ) → ByteRange t ≡ state_in trial q → t.next ≡ other
      → IsInSpan trial (record { low = t.start; high = t.end }) i → run_in trial q i ≡ run_in trial other (i + 1)
  unfolding next_on
  run_in_range t other is leads within =
      let b = slice_index trial.bytes.now i in
      run_by_byte trial q i (ByteRange t) is tt (range_is_no_match t) (next_in trial (ByteRange t) i) refl other
      (next_inside trial (ByteRange t) i within.inside
      ∙ cond-true (covers t b) (Some t.next) None (and_from _ _ (le-leb t.start b within.has.0) (le-leb b t.end within.has.1))
      ∙ ap (λ n. Some n) leads)

  pub none_past_range : (t : Transition) → ByteRange t ≡ state_in trial q → i < length trial.bytes.now
      → ¬ IsInSpan trial (record { low = t.start; high = t.end }) i → run_in trial q i ≡ None
  unfolding next_on
  none_past_range t is inside outside =
      let b = slice_index trial.bytes.now i in
      none_by_byte trial q i (ByteRange t) is tt (range_is_no_match t) (next_in trial (ByteRange t) i) refl
      (next_inside trial (ByteRange t) i inside
      ∙ elim (cases_Bool (covers t b)) [
        | inl hit ↦ let parts = covers_parts t b hit in absurd (outside (record { inside = inside; has = parts }))
        | inr miss ↦ cond-false (covers t b) (Some t.next) None miss
      ])

  pub none_past_end : (state : State) → state ≡ state_in trial q → IsResting state → (state ≡ Match → ⊥) → length trial.bytes.now ≤ i → run_in trial q i ≡ None
  none_past_end state is resting other past =
      none_by_byte trial q i state is resting other (next_in trial state i) refl (next_past trial state i past)

  pub run_in_sparse : (from to other : ℕ) → Sparse from to ≡ state_in trial q → i < length trial.bytes.now
      → target_in (slice_range trial.nfa.now.transitions.items from to) (slice_index trial.bytes.now i) ≡ Some other
      → run_in trial q i ≡ run_in trial other (i + 1)
  unfolding next_on
  run_in_sparse from to other is inside leads =
      run_by_byte trial q i (Sparse from to) is tt (sparse_is_no_match from to) (next_in trial (Sparse from to) i) refl other
      (next_inside trial (Sparse from to) i inside ∙ leads)

-- A choice needs a byte of a span that contains the spans of both states.
pub needs_either : (trial : BoundedSearch) (q first second : ℕ) (one other both : ByteBounds) → state_in trial q ≡ Split first second
    → NeedsByte trial first one → NeedsByte trial second other
    → ((b : ℕ) → HasByte one b → HasByte both b) → ((b : ℕ) → HasByte other b → HasByte both b) → NeedsByte trial q both
needs_either trial q first second one other both is by_one by_other of_one of_other at inside outside =
    none_of_both trial q at first second is
    (by_one at inside (λ within. outside (record { inside = inside; has = of_one _ within.has })))
    (by_other at inside (λ within. outside (record { inside = inside; has = of_other _ within.has })))

-- The body of a loop has no match, if it reads all remaining bytes and the exit has no match after
-- them.
pub none_to_end : (trial : BoundedSearch) (q body exit place last : ℕ) → state_in trial q ≡ Split body exit → run_in trial body place ≡ run_in trial q (place + 1)
    → run_in trial q (place + 1) ≡ run_in trial q last → last ≡ length trial.bytes.now → run_in trial body (length trial.bytes.now) ≡ None
    → run_in trial exit last ≡ None → run_in trial body place ≡ None
none_to_end trial q body exit place last is goes same ends none left =
    goes ∙ same ∙ none_of_both trial q last body exit is (subst (λ (i : ℕ). run_in trial body i ≡ None) (sym ends) none) left

-- A state with such a span has no match at the end of all bytes.
pub ends_with_spans : (trial : BoundedSearch) (q from to : ℕ) (found : Option ByteBounds) → Sparse from to ≡ state_in trial q
    → IfSome found (λ _. run_in trial q (length trial.bytes.now) ≡ None)
ends_with_spans trial q from to None is = tt
ends_with_spans trial q from to (Some span) is =
    none_past_end trial q (length trial.bytes.now) (Sparse from to) is tt (sparse_is_no_match trial q 0 from to) (omega arith)

pub run_in_spans : (trial : BoundedSearch) (q from to other : ℕ) (found : Option ByteBounds) → Sparse from to ≡ state_in trial q
    → IfSome found (λ span. (b : ℕ) → span.low ≤ b → b ≤ span.high → target_in (slice_range trial.nfa.now.transitions.items from to) b ≡ Some other)
    → IfSome found (GoesRound trial q other)
run_in_spans trial q from to other None is leads = tt
run_in_spans trial q from to other (Some span) is leads = λ i within. run_in_sparse trial q i from to other is within.inside (leads _ within.has.0 within.has.1)

-- ---- the whole search

module _ (trial : BoundedSearch) where
  abbrev nfa : Nfa
  nfa = trial.nfa.now

  pub cells_of_found : (o : Option Trace) → run_in trial nfa.start 0 ≡ o → (f : Found) → Some f ≡ found_from_trace 0 (replicate 8 0) o
      → Some f.groups ≡ option_map (λ m. group_cells m 8) (match_at_start nfa trial.bytes.now)
  cells_of_found None is f e = absurd (none-some f (sym e))
  cells_of_found (Some t) is f e =
      let m : find.Match = record { start = 0; trace = t } in
      ap (λ (found : Found). Some found.groups) (same_Some _ _ e)
      ∙ ap (λ (cells : List ℕ). Some cells) (apply_zeros m 8)
      ∙ sym (ap (option_map (λ m. group_cells m 8)) (first_between_here (run nfa trial.bytes.now (length trial.bytes.now) nfa.start) 0 0 t (omega arith) is))

  pub no_cells : None ≡ found_from trial (replicate 8 0) nfa.start 0 → None ≡ option_map (λ m. group_cells m 8) (match_at_start nfa trial.bytes.now)
  no_cells e =
      let at = run nfa trial.bytes.now (length trial.bytes.now) nfa.start in
      let none = none_of_found_from_trace 0 (replicate 8 0) (run_in trial nfa.start 0) e in
      sym (ap (option_map (λ m. group_cells m 8)) (first_between_next at 0 0 none ∙ first_between_past at 1 0 (omega arith)))
