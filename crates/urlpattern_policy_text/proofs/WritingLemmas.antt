-- Lemmas on writing the rules of a policy one by one.
use Rattle.std.proofs.Common.{◌≡◌, ◌∙◌, ◌<◌, ◌≤◌, ◌+◌, ◌++◌, ℕ, zero, suc, Contains, List, [], ◌∷◌, None, Option, Some, ap, append-nil, arith, refl, length, slice_get, subst, sym, take, take_all}
use Rattle.std.proofs.lemmas.List.{flat_map_more, take_more}
use Rattle.std.proofs.lemmas.List.Elements.{Contains-append_left, Contains-append_right, Contains-push}
use Rattle.std.proofs.lemmas.Option.{get_or_from_slice_get, slice_get_within}
use Rattle.std.specs.List.{AllZip, flat_map}
use Rattle.urlpattern.proofs.ListedParts.{zip_push}
use Rattle.urlpattern_differences.specs.declared.rules.Effect.{Effect}
use Rattle.urlpattern_matcher.specs.declared.regexp.RegExp.{Ghosts as Engine}
use Rattle.urlpattern_pattern.specs.UrlPatterns.{UrlPattern}
use Rattle.urlpattern_policy_text.specs.WrittenPolicies.{IsLineAt, IsLineOf}

pub none_within : {X : Type 0} (xs : List X) (k : ℕ) → k < length xs → slice_get xs k ≡ None → ⊥
none_within [] k lt there = absurd (omega arith)
none_within (x ∷ xs) zero lt there = absurd cc
none_within (x ∷ xs) (suc k) lt there = none_within xs k (omega arith) there

pub there_contained : {X : Type 0} (xs : List X) (k : ℕ) (x : X) → slice_get xs k ≡ Some x → Contains xs x
there_contained [] k x there = absurd cc
there_contained (y ∷ xs) zero x there = let same : y ≡ x = cc in subst (λ it. Contains (it ∷ xs) x) (sym same) (Contains-append_left (x ∷ []) xs x (Contains-push [] x))
there_contained (y ∷ xs) (suc k) x there = Contains-append_right (y ∷ []) xs x (there_contained xs k x there)

-- The first elements, with the one at the index.
pub taken : {X : Type 0} (xs : List X) (k : ℕ) (x : X) → slice_get xs k ≡ Some x → take (k + 1) xs ≡ take k xs ++ x ∷ []
taken xs k x there = take_more xs k x (slice_get_within xs k x there) ∙ ap (λ it. take k xs ++ it ∷ []) (get_or_from_slice_get xs k x x there)

-- The lines of the first rules are written after others.
pub record AreWritten {E : Type 0} (engine : Engine E) (rules : List (UrlPattern E × Effect)) (old new : List ℕ) : Type 0 where
  pub own : List (List ℕ)
  pub are : AllZip (λ rule line. IsLineOf engine rule (Some line)) rules own
  pub whole : new ≡ old ++ flat_map (λ line. line) own

module _ {E : Type 0} (engine : Engine E) where
  abbrev HasLine : UrlPattern E × Effect → List ℕ → Type 0
  HasLine rule line = IsLineOf engine rule (Some line)

  pub none_written : (old : List ℕ) → AreWritten engine [] old old
  none_written old = record { own = []; are = tt; whole = sym (append-nil old) }

  pub rule_written : (rules : List (UrlPattern E × Effect)) (i : ℕ) (old mid new line : List ℕ) → AreWritten engine (take i rules) old mid → IsLineAt engine rules i (Some line) → new ≡ mid ++ line → AreWritten engine (take (i + 1) rules) old new
  rule_written rules i old mid new line before (rule, there, is) grown =
      subst (λ (them : List (UrlPattern E × Effect)). AreWritten engine them old new) (sym (taken rules i rule there)) (record {
        own = before.own ++ line ∷ [];
        are = zip_push HasLine (take i rules) before.own rule line before.are is;
        whole = grown ∙ ap (λ l. l ++ line) before.whole ∙ flat_map_more (λ it. it) old before.own line;
      })

  pub all_written : (rules : List (UrlPattern E × Effect)) (i : ℕ) (old new : List ℕ) → length rules ≤ i → AreWritten engine (take i rules) old new → AreWritten engine rules old new
  all_written rules i old new past are = subst (λ (them : List (UrlPattern E × Effect)). AreWritten engine them old new) (take_all i rules past) are
