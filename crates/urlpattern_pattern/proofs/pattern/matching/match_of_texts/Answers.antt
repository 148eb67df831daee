use Rattle.urlpattern_matches.specs.GroupTexts.{captures_of}
use Rattle.urlpattern_pattern.proofs.pattern.matching.match_of_texts.Goals as goal
use Rattle.urlpattern_components.specs.Eight.{at}

pub returns-in-Some-clause-matched : goal.returns-in-Some-clause-matched
returns-in-Some-clause-matched g c = record {
  captures = λ name. captures_of (at c.in-Some.captures name);
  are_answers = rw c.in-Some.is at c.in_ok-captures.ensures.answers;
  are_results = c.match_with_names.ensures.matched;
}

pub returns-in-None-clause-matched : goal.returns-in-None-clause-matched
returns-in-None-clause-matched g c = rw c.in-None.is at c.in_ok-captures.ensures.refused

pub returns-in-Some-clause-groups : goal.returns-in-Some-clause-groups
returns-in-Some-clause-groups g c = λ name.
    let answers = rw c.in-Some.is at c.in_ok-captures.ensures.answers in
    (captures_of (at c.in-Some.captures name), answers name, c.match_with_names.ensures.groups name)
