-- The JSON of a policy is read as the same policy.
use Rattle.std.proofs.Common.{◌≡◌, ◌∙◌, ◌⊎◌, ℕ, Bool, true, false, List, [], ◌∷◌, MatchBool, MatchOption, None, Option, Some, ap, inl, inr, map, option_map, refl, subst, sym}
use Rattle.std.specs.List.{AllZip}
use Rattle.std.specs.Prelude.{IsSomeAnd, IsTrue}
use Rattle.serde_json.specs.Data.{Data}
use Rattle.urlpattern_compare.specs.declared.pattern_parts.PatternParts.{PatternParts}
use Rattle.urlpattern_differences.specs.declared.rules.Effect.{Effect}
use Rattle.urlpattern_init.specs.declared.init.UrlPatternInit.{UrlPatternInit}
use Rattle.urlpattern_inputs.specs.InputValues.{InputView, of_init, of_text}
use Rattle.urlpattern_matcher.specs.declared.regexp.RegExp.{Ghosts as Engine}
use Rattle.urlpattern_pattern.specs.ConstructorTexts.{tried_texts}
use Rattle.urlpattern_pattern.specs.ReadBack.{IsConstructorString, IsFirstReadBack, IsInitOf, IsPatternInit, InitReadsBack, InitReadsOtherwise, TextReadsBack, pattern_strings}
use Rattle.urlpattern_pattern.specs.UrlPatterns.{UrlPattern}
use Rattle.urlpattern_policy_json.proofs.RoundTrip.{faultless, rule_again, rules_written, settings_again}
use Rattle.urlpattern_policy_json.specs.PolicyTrees.{policy_tree, rule_tree}
use Rattle.urlpattern_policy_json.specs.PolicyViews.{RuleView}
use Rattle.urlpattern_policy_json.specs.ReadPolicies.{member_faults, rules_in, settings_read}
use Rattle.urlpattern_policy_text.specs.WrittenJson.{IsGivenBy, IsReadBackAs, IsRuleGiven, IsRuleReadAs, IsWrittenBeside, JsonReadsBack, settings_of, texts_of_init}
use Rattle.urlpattern_policy_text.specs.WrittenPolicies.{has_rule_options}

module _ {E : Type 0} (engine : Engine E) where
  first_back : (parts : PatternParts) (texts : List (List ℕ)) (string : List ℕ) → IsFirstReadBack engine parts texts (Some string) → TextReadsBack engine parts string
  first_back parts [] string none = absurd cc
  first_back parts (text ∷ texts) string (inl (same, back)) = let is : text ≡ string = cc in subst (TextReadsBack engine parts) is back
  first_back parts (text ∷ texts) string (inr (other, rest)) = first_back parts texts string rest

  string_back : (pattern : UrlPattern E) (string : List ℕ) (found : Option PatternParts) → MatchOption found (Some string ≡ None) (λ parts. IsFirstReadBack engine parts (tried_texts (pattern_strings pattern)) (Some string))
      → IsSomeAnd found (λ parts. TextReadsBack engine parts string)
  string_back pattern string None none = absurd cc
  string_back pattern string (Some parts) first = first_back parts (tried_texts (pattern_strings pattern)) string first

  init_back : (pattern : UrlPattern E) (init : UrlPatternInit) (found : Option PatternParts) → MatchOption found (Some init ≡ None) (λ parts. IsInitOf pattern init × InitReadsBack engine parts init)
      → IsSomeAnd found (λ parts. (made : UrlPatternInit) × (texts_of_init init ≡ texts_of_init made) × InitReadsBack engine parts made)
  init_back pattern init None none = absurd cc
  init_back pattern init (Some parts) (is, back) = (init, refl, back)

  beside_back : (pattern : UrlPattern E) (given : InputView) (string : Option (List ℕ)) → IsConstructorString engine pattern string → IsWrittenBeside engine pattern string (Some given) → IsReadBackAs engine given pattern
  beside_back pattern given (Some string) constructed written =
      let is : of_text string ≡ given = cc in
      subst (λ (it : InputView). IsReadBackAs engine it pattern) is (string_back pattern string pattern.parts constructed)
  beside_back pattern given None constructed (Some init, is_init, written) =
      let is : of_init (texts_of_init init) ≡ given = cc in
      subst (λ (it : InputView). IsReadBackAs engine it pattern) is (init_back pattern init pattern.parts is_init)
  beside_back pattern given None constructed (None, is_init, written) = absurd cc

  given_back : (pattern : UrlPattern E) (given : InputView) (has : Bool) → has_rule_options pattern ≡ has
      → MatchBool has ((string : Option (List ℕ)) × IsConstructorString engine pattern string × IsWrittenBeside engine pattern string (Some given)) (Some given ≡ None)
      → IsTrue (has_rule_options pattern) × IsReadBackAs engine given pattern
  given_back pattern given true e (string, constructed, written) = (e, beside_back pattern given string constructed written)
  given_back pattern given false e none = absurd cc

  rules_back : (rules : List (UrlPattern E × Effect)) (given : List RuleView) → AllZip (λ rule one. IsRuleGiven engine rule (Some one)) rules given → AllZip (IsRuleReadAs engine) rules (map rule_tree given)
  rules_back [] [] are = tt
  rules_back [] (one ∷ given) are = absurd are
  rules_back (rule ∷ rules) [] are = absurd are
  rules_back (rule ∷ rules) (one ∷ given) ((effect, by), are) = (
    (
      one,
      rule_again one,
      effect,
      (given_back rule.0 one.pattern (has_rule_options rule.0) refl by).0,
      (given_back rule.0 one.pattern (has_rule_options rule.0) refl by).1,
    ),
    rules_back rules given are,
  )

  pub json_reads_back : JsonReadsBack engine
  json_reads_back policy tree (given, are, is) = record {
    faultless = ap member_faults is ∙ faultless (settings_of policy.options) given;
    settings = ap settings_read is ∙ settings_again (settings_of policy.options) given;
    rules = subst (λ (trees : List Data). AllZip (IsRuleReadAs engine) policy.rules trees) (sym (ap rules_in is ∙ rules_written (settings_of policy.options) given)) (rules_back policy.rules given are);
  }
