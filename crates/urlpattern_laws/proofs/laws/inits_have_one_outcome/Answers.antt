use Rattle.std.proofs.Common.{◌≡◌, false, true, List, ◌++◌, inl, inr, refl, subst}
use Rattle.std.specs.Prelude.{All}
use Rattle.urlpattern_meaning.proofs.MatcherMeaning.{all_left, all_right}
use Rattle.urlpattern_meaning.proofs.PartTrees.{IsNotCustom}
use Rattle.urlpattern_syntax.specs.Parts.{PartView}
use Rattle.urlpattern_laws.proofs.SimpleMatchers.{pattern_makes_first_ways}
use Rattle.urlpattern_engine.specs.PatternRegexps.{pattern_engine}
use Rattle.urlpattern_laws.proofs.InitValues.{inits_have_values}
use Rattle.urlpattern_laws.proofs.OutcomesOne.{first_ways_decide, init_refusal_one, pattern_or_refusal}
use Rattle.urlpattern_laws.specs.Outcomes.{NeverAcceptsAndRejectsGenerated}
use Rattle.urlpattern_laws.proofs.laws.inits_have_one_outcome.Goals as goal

-- The regular expression of parts without a custom one is never rejected.
takes_generated : NeverAcceptsAndRejectsGenerated pattern_engine
takes_generated settings none = record {
  whole = λ parts reads value error taken refused. elim refused [
    | inl is ↦ is.1.0 (settings.options, parts, none parts reads, refl)
    | inr again ↦ (let never : false ≡ true = again.0 in cc never)
  ];
  of_matcher = λ parts before middle after reads cut value error taken refused.
      refused.1.0 (settings.options, middle, all_right before middle (all_left (before ++ middle) after (subst (λ (ps : List PartView). All IsNotCustom ps) cut (none parts reads))), refl);
}

pub returns-clause-not_both : goal.returns-clause-not_both
returns-clause-not_both g c = pattern_or_refusal g.R.RegExp

pub returns-clause-refusals : goal.returns-clause-refusals
returns-clause-refusals g c = init_refusal_one g.R.RegExp

pub returns-clause-values : goal.returns-clause-values
returns-clause-values g c = inits_have_values

pub returns-clause-by_first_ways : goal.returns-clause-by_first_ways
returns-clause-by_first_ways g c = first_ways_decide g.R.RegExp

pub returns-clause-pattern_regexp : goal.returns-clause-pattern_regexp
returns-clause-pattern_regexp g c = first_ways_decide pattern_engine pattern_makes_first_ways takes_generated
