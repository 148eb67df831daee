use Rattle.urlpattern_syntax.specs.{Options.options_view, Parts.parts_view}
use Rattle.urlpattern_compare.proofs.coverage.covers_known.Goals as goal

pub returns : goal.returns
returns c = c.covering_of.ensures (options_view c.args.options.now) (options_view c.args.asked_options.now) (parts_view c.args.parts.now) (parts_view c.args.asked.now) c.in_ok-answer.ensures
