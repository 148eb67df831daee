use Rattle.urlpattern_pattern.proofs.ByTextLemmas.{taken_by_text}
use Rattle.urlpattern_laws.proofs.SimpleMatchers.{ecma_returns_first, pattern_makes_first_ways, regex_makes_first_ways}
use Rattle.urlpattern_engine.specs.EcmaRegexps.{KeepsRegex, ecma_engine}
use Rattle.urlpattern_meaning.specs.FirstResults.{AcceptedText}
use Rattle.urlpattern_laws.proofs.laws.patterns_by_these_engines_answer_by_their_texts.Goals as goal

pub returns-clause-pattern_regexp : goal.returns-clause-pattern_regexp
returns-clause-pattern_regexp c = pattern_makes_first_ways

pub returns-clause-regex : goal.returns-clause-regex
returns-clause-regex c = regex_makes_first_ways

pub returns-clause-ecma_regexp : goal.returns-clause-ecma_regexp
returns-clause-ecma_regexp c = taken_by_text ecma_engine (AcceptedText KeepsRegex) ecma_returns_first
