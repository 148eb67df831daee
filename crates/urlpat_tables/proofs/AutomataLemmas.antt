-- Lemmas on the automata of rules.
use Rattle.std.proofs.Common.{◌≡◌, List, [], ◌∷◌, Some, arith, subst}
use Rattle.std.proofs.lemmas.List.Elements.{All-cons}
use Rattle.std.specs.List.{AllZip}
use Rattle.std.specs.Option.{MatchOption}
use Rattle.std.specs.Prelude.{All, Err, IfOk, None, Ok, Option, Result}
use Rattle.std.specs.declared.alloc.AllocError.{AllocError}
use Rattle.urlpat_tables.specs.RewriteRules.{AreAutomataOf, AreRuleAutomata, RewriteRules}
use Rattle.urlpat_tables.specs.declared.endless_rules.RuleAutomata.{RuleAutomata}
use Rattle.urlpattern.specs.UrlPattern.{UrlPattern}
use Rattle.urlpattern_compare.specs.CommonTexts.{AreAutomata}
use Rattle.urlpattern_compare.specs.EqualParts.{AreEqualParts}
use Rattle.urlpattern_compare.specs.declared.common_texts.PatternAutomata.{PatternAutomata}
use Rattle.urlpattern_compare.specs.declared.pattern_parts.PatternParts.{PatternParts}
use Rattle.urlpattern_engine.specs.declared.pattern_regexp.PatternRegexp.{PatternRegexp}

-- The automata that are made of the parts of a pattern.
pub automata-made : (pattern : UrlPattern PatternRegexp) (parts : PatternParts) (made : Result PatternAutomata AllocError) → Some parts ≡ pattern.parts → IfOk made AreAutomata
    → IfOk made (λ it. AreEqualParts parts it.parts) → IfOk made (AreAutomataOf pattern)
automata-made pattern parts (Err error) has are equal = tt
automata-made pattern parts (Ok it) has are equal =
    subst (λ (found : Option PatternParts). MatchOption found ⊥ (λ them. AreAutomata it × AreEqualParts them it.parts)) has (are, equal)

of-parts : (parts : Option PatternParts) (automata : PatternAutomata) → MatchOption parts ⊥ (λ them. AreAutomata automata × AreEqualParts them automata.parts) → AreAutomata automata
of-parts None automata are = absurd are
of-parts (Some them) automata are = are.0

-- The automata of the first patterns.
pub firsts : (rules : RewriteRules) (all : List RuleAutomata) → AllZip AreRuleAutomata rules all → All (λ one. AreAutomata one.first) all
firsts [] [] are = λ k d less. absurd (omega (arith, less))
firsts [] (one ∷ all) are = absurd are
firsts (rule ∷ rules) [] are = absurd are
firsts (rule ∷ rules) (one ∷ all) are = All-cons (λ (it : RuleAutomata). AreAutomata it.first) one all (of-parts rule.0.parts one.first are.0.0) (firsts rules all are.1)

-- The automata of the second patterns.
pub seconds : (rules : RewriteRules) (all : List RuleAutomata) → AllZip AreRuleAutomata rules all → All (λ one. AreAutomata one.second) all
seconds [] [] are = λ k d less. absurd (omega (arith, less))
seconds [] (one ∷ all) are = absurd are
seconds (rule ∷ rules) [] are = absurd are
seconds (rule ∷ rules) (one ∷ all) are = All-cons (λ (it : RuleAutomata). AreAutomata it.second) one all (of-parts rule.1.to.parts one.second are.0.1) (seconds rules all are.1)
