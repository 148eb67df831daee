-- Lemmas on writing the rules of a policy as JSON one by one.
use Rattle.std.proofs.Common.{◌≡◌, ◌∙◌, ◌+◌, ◌≤◌, ℕ, List, [], ◌∷◌, ◌++◌, Some, ap, arith, length, map, refl, subst, sym, take, take_all}
use Rattle.std.proofs.lemmas.List.{map-append}
use Rattle.std.specs.List.{AllZip}
use Rattle.urlpattern.proofs.ListedParts.{zip_push}
use Rattle.urlpattern_differences.specs.declared.rules.Effect.{Effect}
use Rattle.urlpattern_matcher.specs.declared.regexp.RegExp.{Ghosts as Engine}
use Rattle.urlpattern_pattern.specs.UrlPatterns.{UrlPattern}
use Rattle.urlpattern_policy_json.specs.PolicyViews.{RuleView, rule_view}
use Rattle.urlpattern_policy_json.specs.declared.given.GivenRule.{GivenRule}
use Rattle.urlpattern_policy_text.proofs.WritingLemmas.{taken}
use Rattle.urlpattern_policy_text.specs.WrittenJson.{IsGivenAt, IsRuleGiven}

module _ {E : Type 0} (engine : Engine E) where
  abbrev HasGiven : UrlPattern E × Effect → RuleView → Type 0
  HasGiven rule given = IsRuleGiven engine rule (Some given)

  -- The first rules are given as these.
  abbrev pub AreGiven : (rules : List (UrlPattern E × Effect)) → (index : ℕ) → List GivenRule → Type 0
  AreGiven rules index given = AllZip HasGiven (take index rules) (map rule_view given)

  pub none_given : (rules : List (UrlPattern E × Effect)) (given : List GivenRule) → given ≡ [] → AreGiven rules 0 given
  none_given rules given none = subst (λ (them : List GivenRule). AreGiven rules 0 them) (sym none) tt

  pub one_given : (rules : List (UrlPattern E × Effect)) (index : ℕ) (old new : List GivenRule) (one : GivenRule) → AreGiven rules index old → IsGivenAt engine rules index (Some (rule_view one)) → new ≡ old ++ one ∷ [] → AreGiven rules (index + 1) new
  one_given rules index old new one before (rule, there, is) grown =
      subst (λ (them : List (UrlPattern E × Effect)). AllZip HasGiven them (map rule_view new)) (sym (taken rules index rule there))
      (subst (λ (given : List RuleView). AllZip HasGiven (take index rules ++ rule ∷ []) given) (sym (ap (map rule_view) grown ∙ map-append rule_view old (one ∷ [])))
      (zip_push HasGiven (take index rules) (map rule_view old) rule (rule_view one) before is))

  pub all_given : (rules : List (UrlPattern E × Effect)) (index : ℕ) (given : List GivenRule) → length rules ≤ index → AreGiven rules index given → AllZip HasGiven rules (map rule_view given)
  all_given rules index given past are = subst (λ (them : List (UrlPattern E × Effect)). AllZip HasGiven them (map rule_view given)) (take_all index rules past) are
