-- Whether each pattern of a list is the first that matches some texts.
use Rattle.std.proofs.Common.{◌≡◌, ◌∙◌, ◌<◌, ◌+◌, ℕ, zero, suc, List, [], ◌∷◌, ◌++◌, ap, arith, length, length-append, refl, subst, sym, take, Some}
use Rattle.std.proofs.lemmas.Option.{slice_get_within}
use Rattle.std.specs.Prelude.{slice_get}
use Rattle.urlpattern_compare.specs.Reaching.{AreReached, IsReach}
use Rattle.urlpattern_compare.specs.declared.candidates.Limits.{Limits}
use Rattle.urlpattern_compare.specs.declared.common_texts.PatternAutomata.{PatternAutomata}
use Rattle.urlpattern_compare.specs.declared.reaching.Reach.{Reach}
use borrow.Author.Count

there_before : {X : Type 0} (xs more : List X) (i : ℕ) (x : X) → slice_get xs i ≡ Some x → slice_get (xs ++ more) i ≡ Some x
there_before [] more i x there = absurd cc
there_before (y ∷ xs) more zero x there = there
there_before (y ∷ xs) more (suc i) x there = there_before xs more i x there

there_last : {X : Type 0} (xs : List X) (x : X) → slice_get (xs ++ x ∷ []) (length xs) ≡ Some x
there_last [] x = refl
there_last (y ∷ xs) x = there_last xs x

module _ (limits : Limits) (patterns : List PatternAutomata) where
  -- The list so far has what holds of the pattern at an index.
  abbrev pub IsReachedAt : List Reach → (index : ℕ) → Type 0
  IsReachedAt found index =
      (asked : PatternAutomata) → slice_get patterns index ≡ Some asked → (reach : Reach) × (slice_get found index ≡ Some reach) × IsReach limits (take index patterns) asked reach

  -- The list so far, for the patterns below an index.
  pub record AreReachedBelow (found : List Reach) (index : ℕ) : Type 0 where
    pub count : length found ≡ index
    pub each : (k : ℕ) → k < index → IsReachedAt found k

  pub none_reached : AreReachedBelow [] 0
  none_reached = record { count = refl; each = λ k lt. absurd (omega arith) }

  pub one_reached : (found : List Reach) (i : ℕ) (asked : PatternAutomata) (reach : Reach) → slice_get patterns i ≡ Some asked → IsReach limits (take i patterns) asked reach
      → AreReachedBelow found i → AreReachedBelow (found ++ reach ∷ []) (i + 1)
  one_reached found i asked reach there is before =
      let new = found ++ reach ∷ [] in
      record {
        count = length-append found (reach ∷ []) ∙ ap (λ n. n + 1) before.count;
        each = Count.below_more (IsReachedAt new) i
            (λ k lt other at_k. let (one, has, one_is) = before.each k lt other at_k in (one, there_before found (reach ∷ []) k one has, one_is))
            (λ other at_i.
            let same : asked ≡ other = (let both : Some asked ≡ Some other = sym there ∙ at_i in cc) in
            (reach, subst (λ (k : ℕ). slice_get new k ≡ Some reach) before.count (there_last found reach), subst (λ (a : PatternAutomata). IsReach limits (take i patterns) a reach) same is));
      }

  pub all_reached : (found : List Reach) (i : ℕ) → i ≡ length patterns → AreReachedBelow found i → AreReached limits patterns found
  all_reached found i all before = record {
    count = before.count ∙ all;
    each = λ index asked there. let lt : index < length patterns = slice_get_within patterns index asked there in before.each index (omega (arith, all, lt)) asked there;
  }
