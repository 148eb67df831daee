-- The rows of the suffixes of the steps.
use Rattle.std.proofs.Common.{◌≡◌, ℕ, zero, suc, ◌<◌, ◌≤◌, List, [], ◌∷◌, ◌++◌, map, replicate, length, get_or, drop, Option, Some, None, Result, Ok, Err, Bool, true, false, cond, ◌||◌, refl, sym, ap, ap₂, ◌∙◌, subst, length-append, arith, Vec, Global}
use Rattle.std.proofs.Math.ListN.{get_or-append}
use Rattle.std.proofs.Math.Seq.{get_or-append_seam}
use Rattle.std.proofs.lemmas.List.{length-map, map-append}
use Rattle.std.specs.Prelude.{IfOk, is_some}
use Rattle.std.proofs.lemmas.Bool.{false≢true}
use Rattle.std.specs.Borrow.{Bor}
use Rattle.std.specs.Str.{chars}
use Rattle.urlpattern_steps.specs.declared.step.Group.{Group}
use Rattle.urlpattern_steps.specs.declared.step.Step.{Step}
use Rattle.urlpattern_steps.specs.declared.step.Step.TheVariants.{Literal, LazyRun, DotStar, OptionalGroup, GreedyRun, RepeatedLiteral, Segments}
use Rattle.urlpattern_steps.specs.FailedStates.{EndsWith}
use Rattle.urlpattern_steps.specs.Walk.{captured_prefix, walk}
use Rattle.urlpattern_steps.specs.Table.{AreRows, is_capture, IsRow, IsSingle, following, step_continuation, row_at}
use Rattle.urlpattern_steps.specs.AddedCaptures.{Kept, with_captures}
use Rattle.urlpattern_steps.proofs.FollowLemmas.{plus_captured}
use Rattle.urlpattern_steps.proofs.FailedLemmas.{ends_longer}
use Rattle.urlpattern_steps.proofs.MatchedPrefixes.{is_some-or, some_mapped}
use Rattle.urlpattern_steps.proofs.StepLemmas.{walk_after-drop}

-- The row for a suffix of the text.
pub row_end : (ignore_case : Bool) (text end : List ℕ) (steps : List Step) (row : List Bool) → EndsWith text end → IsRow ignore_case text steps row → IsRow ignore_case end steps row
row_end ignore_case text end steps row ends is = record {
  long = omega (arith, is.long, ap length ends.1, length-append ends.0 end);
  bits = λ other more. is.bits other (ends_longer text end other ends more);
}

false_more : (n k : ℕ) → get_or (replicate {A = Bool} n false) k false ≡ false
false_more zero k = refl
false_more (suc n) zero = refl
false_more (suc n) (suc k) = false_more n k

pub row_none : (ignore_case : Bool) (text : List ℕ) (n : ℕ) → length text ≤ n → IsRow ignore_case text [] (true ∷ replicate n false)
row_none ignore_case text n le = record {
  long = omega (arith, le, lengths n);
  bits = λ end ends. bits end;
}
  where
    lengths : (n : ℕ) → length (replicate {A = Bool} n false) ≡ n
    lengths zero = refl
    lengths (suc n) = ap suc (lengths n)

    bits : (end : List ℕ) → get_or (true ∷ replicate n false) (length end) false ≡ is_some (walk ignore_case [] end)
    bits [] = refl
    bits (c ∷ end) = false_more n (length end)

pub row_either : (ignore_case : Bool) (text : List ℕ) (group : Group) (others : List Step) (one other row : List Bool) → IsRow ignore_case text others one → IsRow ignore_case text (drop group.steps others) other
    → length row ≡ length one → ((n : ℕ) → n < length one → get_or row n false ≡ get_or one n false || get_or other n false) → IsRow ignore_case text (OptionalGroup group ∷ others) row
row_either ignore_case text group others one other row first second len both = record {
  long = omega (arith, len, first.long);
  bits = λ end ends.
      let lt : length end < length one = omega (arith, first.long, ap length ends.1, length-append ends.0 end) in
      both (length end) lt
      ∙ ap₂ (λ a b. a || b) (first.bits end ends) (second.bits end ends ∙ ap is_some (sym (walk_after-drop ignore_case group.steps others end)) ∙ sym (some_mapped _ _))
      ∙ sym (is_some-or (walk ignore_case others end) _);
}

abbrev items_of : Vec Bool Global → List Bool
items_of row = row.items

pub rows_none : (ignore_case : Bool) (text : List ℕ) (row : Vec Bool Global) → IsRow ignore_case text [] row.items → AreRows ignore_case text [] (row ∷ [])
rows_none ignore_case text row is = record {
  count = refl;
  each = λ end ends. by ends.0 end ends.1;
}
  where
    by : (front end : List Step) → [] ≡ front ++ end → IsRow ignore_case text end (row_at (row ∷ []) (length end))
    by [] end e = subst (λ (l : List Step). IsRow ignore_case text l (row_at (row ∷ []) (length l))) e is
    by (step ∷ front) end e = let f : [] ≡ step ∷ (front ++ end) = e in cc

pub rows_more : (ignore_case : Bool) (text : List ℕ) (step : Step) (others : List Step) (rows : List (Vec Bool Global)) (row : Vec Bool Global) → AreRows ignore_case text others rows → IsRow ignore_case text (step ∷ others) row.items
    → AreRows ignore_case text (step ∷ others) (rows ++ row ∷ [])
rows_more ignore_case text step others rows row are is = record {
  count = omega (arith, length-append rows (row ∷ []), are.count);
  each = λ end ends. by ends.0 end ends.1;
}
  where
    all : map items_of (rows ++ row ∷ []) ≡ map items_of rows ++ row.items ∷ []
    all = map-append items_of rows (row ∷ [])

    count : length (map items_of rows) ≡ length rows
    count = length-map rows items_of

    by : (front end : List Step) → step ∷ others ≡ front ++ end → IsRow ignore_case text end (row_at (rows ++ row ∷ []) (length end))
    by [] end e =
        let n : length end ≡ length (map items_of rows) = sym (ap length e) ∙ sym are.count ∙ sym count in
        let last : row_at (rows ++ row ∷ []) (length end) ≡ row.items =
        ap (λ l. get_or l (length end) []) all ∙ ap (λ k. get_or (map items_of rows ++ row.items ∷ []) k []) n ∙ get_or-append_seam (map items_of rows) row.items [] [] in
        subst (λ l. IsRow ignore_case text end l) (sym last) (subst (λ (l : List Step). IsRow ignore_case text l row.items) e is)
    by (s ∷ front) end e =
        let whole : step ∷ others ≡ s ∷ (front ++ end) = e in
        let rest : others ≡ front ++ end = cc in
        let lt : length end < length (map items_of rows) = omega (arith, count, are.count, ap length rest, length-append front end) in
        let earlier : row_at (rows ++ row ∷ []) (length end) ≡ row_at rows (length end) =
        ap (λ l. get_or l (length end) []) all ∙ get_or-append (map items_of rows) (row.items ∷ []) [] (length end) lt in
        subst (λ l. IsRow ignore_case text end l) (sym earlier) (are.each end (front, rest))

-- The row of a suffix of the steps, as it is looked up.
pub row_for_end : (ignore_case : Bool) (text : List ℕ) (steps end found : List Step) (rows : List (Vec Bool Global)) (row : List Bool) → AreRows ignore_case text steps rows → EndsWith steps end
    → found ≡ end → row ≡ row_at rows (length found) → IsRow ignore_case text end row
row_for_end ignore_case text steps end found rows row are ends same e =
    subst (λ r. IsRow ignore_case text end r) (sym (e ∙ ap (λ (l : List Step). row_at rows (length l)) same)) (are.each end ends)

pub row_if_either : (ignore_case : Bool) → {E : Type 0} (text : List ℕ) (group : Group) (others : List Step) (one other : List Bool) (result : Result (Vec Bool Global) E)
    → IsRow ignore_case text others one → IsRow ignore_case text (drop group.steps others) other
    → IfOk result (λ row. length row.items ≡ length one)
    → IfOk result (λ row. (n : ℕ) → n < length one → get_or row.items n false ≡ get_or one n false || get_or other n false)
    → IfOk result (λ row. IsRow ignore_case text (OptionalGroup group ∷ others) row.items)
row_if_either ignore_case text group others one other (Ok row) first second len both = row_either ignore_case text group others one other row.items first second len both
row_if_either ignore_case text group others one other (Err error) first second len both = tt

-- The row of a suffix of the steps for a suffix of the text.
pub row_within : (ignore_case : Bool) (text rest : List ℕ) (steps end : List Step) (rows found : List (Vec Bool Global)) → AreRows ignore_case text steps rows → EndsWith steps end → EndsWith text rest
    → found ≡ rows → IsRow ignore_case rest end (row_at found (length end))
row_within ignore_case text rest steps end rows found are ends texts e =
    subst (λ r. IsRow ignore_case rest end (row_at r (length end))) (sym e) (row_end ignore_case text rest end (row_at rows (length end)) texts (are.each end ends))

pub none_of : {A : Type 0} (o : Option A) → is_some o ≡ false → o ≡ None
none_of None e = refl
none_of (Some x) e = absurd (false≢true (sym e))

-- The prefix that a step matches is added, if the step captures.
pub front_added : (ignore_case : Bool) (step : Step) (others : List Step) (old new : Kept) (front : Bor (List ℕ)) (rest : List ℕ)
    → new ≡ cond (is_capture step) (old ++ Some front ∷ []) old
    → with_captures old (step_continuation ignore_case step others (chars front.now) rest) ≡ with_captures new (walk ignore_case (following step others) rest)
front_added ignore_case step others old new front rest e = by (is_capture step) e
  where
    by : (b : Bool) → new ≡ cond b (old ++ Some front ∷ []) old
        → with_captures old ((cond b (captured_prefix (walk ignore_case (following step others))) (λ front rest. walk ignore_case (following step others) rest)) (chars front.now) rest)
        ≡ with_captures new (walk ignore_case (following step others) rest)
    by true e = plus_captured old front (walk ignore_case (following step others) rest) ∙ ap (λ k. with_captures k (walk ignore_case (following step others) rest)) (sym e)
    by false e = ap (λ k. with_captures k (walk ignore_case (following step others) rest)) (sym e)

-- A step other than an optional group.
pub single_of : (step : Step) → ((group : Group) → ¬ (step ≡ OptionalGroup group)) → IsSingle step
single_of (OptionalGroup group) other = other group refl
single_of (Literal c) other = tt
single_of (LazyRun end) other = tt
single_of DotStar other = tt
single_of (GreedyRun run) other = tt
single_of (RepeatedLiteral copies) other = tt
single_of (Segments segments) other = tt
