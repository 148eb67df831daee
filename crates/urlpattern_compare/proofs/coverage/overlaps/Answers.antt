use Rattle.urlpattern_syntax.specs.{Options.options_view, Parts.parts_view}
use Rattle.urlpattern_compare.proofs.coverage.overlaps.Goals as goal

pub returns : goal.returns
returns c = c.overlap_of.ensures (options_view c.args.options.now) (options_view c.args.other_options.now) (parts_view c.args.parts.now) (parts_view c.args.others.now) c.in_ok-answer.ensures
