-- The states of a match, and the first of the steps.
use Rattle.std.proofs.Common.{◌≡◌, Bool, ℕ, ◌≤◌, List, [], ◌∷◌, ◌++◌, length, drop, refl, sym, ap, subst, arith}
use Rattle.std.proofs.lemmas.List.{length-drop}
use Rattle.std.specs.Str.{chars, IsUtf8}
use Rattle.urlpattern_steps.specs.declared.step.Step.{Step}
use Rattle.urlpattern_steps.specs.FailedStates.{EndsWith, IsStateOf, Whole}
use Rattle.urlpattern_steps.proofs.FailedLemmas.{ends_drop, ends_same, place_within}
use Rattle.urlpattern_steps.proofs.FollowLemmas.{chars_end}

-- The rest after a prefix may remain too.
pub rest_place : (ignore_case : Bool) (whole now : Whole) (steps others : List Step) (text front rest : List ℕ) → now ≡ whole → IsStateOf ignore_case whole steps (chars text) → EndsWith steps others → IsUtf8 front → text ≡ front ++ rest
    → IsStateOf ignore_case now others (chars rest)
rest_place ignore_case whole now steps others text front rest same place end u e = place_within ignore_case whole now steps others (chars text) (chars rest) same place end (chars_end text front rest u e)

module _ (ignore_case : Bool) (step : Step) (steps others : List Step) (first : steps ≡ step ∷ others) where
  -- The steps after the first are a state too, with the same text.
  pub others_place : (whole : Whole) (text : List ℕ) → IsStateOf ignore_case whole steps text → IsStateOf ignore_case whole others text
  others_place whole text place = place_within ignore_case whole whole steps others text text refl place (step ∷ [], first) (ends_same text)

module _ (count : ℕ) (steps others : List Step) (passed : others ≡ drop count steps) where
  pub passed_shorter : length others ≤ length steps
  passed_shorter = omega (arith, ap length passed, length-drop count steps)

  pub passed_ends : EndsWith steps others
  passed_ends = subst (EndsWith steps) (sym passed) (ends_drop count steps)

-- The steps and texts that may remain of a match.
pub ruleset places = (place_within, rest_place, others_place, passed_ends, ends_same)
