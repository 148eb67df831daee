use Rattle.urlpattern_compare.proofs.KeptCase.{kept_matches}
use Rattle.urlpattern_compare.proofs.coverage.are_apart.Goals as goal
use Rattle.urlpattern_syntax.specs.{Options.options_view, Parts.parts_view}

pub returns : goal.returns
returns c = λ yes text means other_means.
    let options = options_view c.args.options.now in
    let other_options = options_view c.args.other_options.now in
    c.fronts_part_ways.ensures yes options other_options text ((kept_matches options (parts_view c.args.parts.now) text c.if-options.false).0 means)
    ((kept_matches other_options (parts_view c.args.others.now) text c.if-other_options.false).0 other_means)
