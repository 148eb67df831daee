use Rattle.std.specs.Prelude.{false}
use Rattle.urlpattern_matcher.specs.Components.{IsEngineOf}
use Rattle.urlpattern_meaning.proofs.CallbackLaws.{outcome_one}
use Rattle.urlpattern_meaning.proofs.CaptureCount.{captures_counted}
use Rattle.urlpattern_laws.proofs.CaptureCounts.{captures_are_as_names}
use Rattle.urlpattern_laws.proofs.CustomLaws.{pattern_matchers_capture, pattern_matchers_first, regex_matchers_capture, regex_matchers_first}
use Rattle.urlpattern_laws.proofs.FirstOfTrees.{first_of_tree}
use Rattle.urlpattern_engine.proofs.RegexMatchers.{taken_first}
use Rattle.urlpattern_engine.proofs.EngineLaws.{taken_first as taken_by_pattern_regexp_first}
use Rattle.urlpattern_meaning.proofs.FirstResults.{first_one, matcher_first}
use Rattle.urlpattern_meaning.proofs.MatcherMeaning.{matcher_means}
use Rattle.urlpattern_meaning.proofs.OutcomesExist.{outcome_listed}
use Rattle.urlpattern_meaning.proofs.OneMeaning.{each_tree_means, one_meaning}
use Rattle.urlpattern_meaning.proofs.ReadsBack.{kept_reads, kept_reads_only, kept_unrefused, were_read_printable}
use Rattle.urlpattern_meaning.specs.Laws.{listed}
use Rattle.urlpattern_pattern.proofs.MatchLaws.{match_from-test, match-not_both, test_from-match}
use Rattle.urlpattern.proofs.theorem.main_theorem.Goals as goal

pub returns-clause-one_reading : goal.returns-clause-one_reading
returns-clause-one_reading g c = λ answers.
    (λ text options. outcome_listed text options answers, λ text options. outcome_one text options (listed answers))

pub returns-clause-one_tree : goal.returns-clause-one_tree
returns-clause-one_tree g c = λ options parts plain. let (tree, only, means) = one_meaning options parts plain in (tree, only)

pub returns-clause-exactly : goal.returns-clause-exactly
returns-clause-exactly g c = each_tree_means

pub returns-clause-captures : goal.returns-clause-captures
returns-clause-captures g c = captures_counted

pub returns-clause-matches : goal.returns-clause-matches
returns-clause-matches g c = λ options flags parts matcher made plain kept follows text answered lacks scalars answers.
    matcher_means g.R.RegExp.answer (IsEngineOf g.R.RegExp false flags) options parts matcher text answered made plain kept lacks scalars follows answers

pub returns-clause-answers : goal.returns-clause-answers
returns-clause-answers g c = λ options flags parts matcher made plain kept firsts text result lacks scalars answers.
    matcher_first g.R.RegExp.answer (IsEngineOf g.R.RegExp false flags) options parts matcher text result made plain kept lacks scalars firsts answers

pub returns-clause-one_answer : goal.returns-clause-one_answer
returns-clause-one_answer g c = first_one

pub returns-clause-default_engine : goal.returns-clause-default_engine
returns-clause-default_engine g c = taken_first

pub returns-clause-pattern_engine : goal.returns-clause-pattern_engine
returns-clause-pattern_engine g c = taken_by_pattern_regexp_first

pub returns-clause-custom : goal.returns-clause-custom
returns-clause-custom g c = (regex_matchers_capture, pattern_matchers_capture, captures_are_as_names)

pub returns-clause-custom_first : goal.returns-clause-custom_first
returns-clause-custom_first g c = (regex_matchers_first, pattern_matchers_first, first_of_tree)

pub returns-clause-reads_back : goal.returns-clause-reads_back
returns-clause-reads_back g c = λ text options first answers parts read keeps.
    kept_reads options (listed answers) parts (were_read_printable text options (listed first) parts read) keeps

pub returns-clause-nothing_else : goal.returns-clause-nothing_else
returns-clause-nothing_else g c = λ text options first answers parts read keeps.
    let printable = were_read_printable text options (listed first) parts read in
    (kept_reads_only options (listed answers) parts printable keeps, kept_unrefused options (listed answers) parts printable keeps)

pub returns-clause-executes : goal.returns-clause-executes
returns-clause-executes g c = (
  λ pattern input. (
    match_from-test g.R.RegExp.answer pattern input,
    λ (result, match). test_from-match g.R.RegExp.answer pattern input result match,
  ),
  match-not_both g.R.RegExp.answer,
)
