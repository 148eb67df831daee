-- Lemmas on policies.
use Rattle.std.proofs.Common.{◌≡◌, ◌∙◌, ◌++◌, Bool, true, false, [], ◌∷◌, ap, sym}
use Rattle.std.specs.Bool.{OnFalse, OnTrue}
use Rattle.urlpattern_differences.specs.declared.rules.Effect.{Effect}
use Rattle.urlpattern_engine.specs.declared.pattern_regexp.PatternRegexp.{PatternRegexp}
use Rattle.urlpattern_ffi_tables.specs.KeptPolicies.{Policy, no_rules}
use Rattle.urlpattern_pattern.specs.UrlPatterns.{UrlPattern}
use Rattle.urlpattern_policy.specs.Decisions.{AppendsRule, Rules}
use Rattle.urlpattern_policy.specs.PolicyWords.{strict_options}
use Rattle.urlpattern_policy.specs.declared.policy.PolicyOptions.{PolicyOptions}

-- A rule by itself is appended to a policy without rules.
pub first_rule : (old new : Policy) (pattern : UrlPattern PatternRegexp) (effect : Effect) → old.rules ≡ [] → new ≡ record { rules = (pattern, effect) ∷ []; options = old.options }
    → AppendsRule old pattern effect new
first_rule old new pattern effect none is =
    let with_rule : Rules PatternRegexp → Policy = λ rules. record { rules = rules ++ (pattern, effect) ∷ []; options = old.options } in
    is ∙ ap with_rule (sym none)

-- Options are set in a policy without rules.
pub options_alone : (old new : Policy) (options : PolicyOptions) → old.rules ≡ [] → new ≡ record { rules = []; options = options } → new ≡ record old { options = options }
options_alone old new options none is =
    let with_rules : Rules PatternRegexp → Policy = λ rules. record { rules = rules; options = options } in
    is ∙ ap with_rules (sym none)

pub new_policy : (policy : Policy) → policy.rules ≡ [] → policy.options ≡ strict_options → policy ≡ no_rules
new_policy policy none strict = λ i. record { rules = none i; options = strict i }

-- ---- facts for one value of a `Bool`

pub on_true : (b : Bool) (P : Type 0) → b ≡ true → OnTrue b P → P
on_true true P is p = p
on_true false P is p = absurd cc

pub on_false : (b : Bool) (P : Type 0) → b ≡ false → OnFalse b P → P
on_false true P is p = absurd cc
on_false false P is p = p
