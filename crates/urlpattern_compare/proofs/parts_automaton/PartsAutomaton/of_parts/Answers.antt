use Rattle.urlpattern_syntax.specs.{Options.options_view, Parts.parts_view}
use Rattle.urlpattern_compare.proofs.AnswerLemmas.{all_within, made_accepts}
use Rattle.urlpattern_compare.proofs.parts_automaton.PartsAutomaton.of_parts.Goals as goal

pub returns-clause-within : goal.returns-clause-within
returns-clause-within c = all_within (options_view c.args.options.now) (parts_view c.args.parts.now) c.make.result c.make.ensures.made

pub returns-clause-accepts : goal.returns-clause-accepts
returns-clause-accepts c = λ by. made_accepts (options_view c.args.options.now) (parts_view c.args.parts.now) c.make.result by c.make.ensures.made
