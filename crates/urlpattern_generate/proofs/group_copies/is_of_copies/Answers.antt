use Rattle.std.specs.Str.{chars}
use Rattle.urlpattern_generate.proofs.GroupLemmas.{full_tested, segment_tested}
use Rattle.urlpattern_generate.proofs.group_copies.is_of_copies.Goals as goal
use Rattle.urlpattern_syntax.specs.{Options.options_view, Parts.part_view}

pub returns-in-SegmentWildcard : goal.returns-in-SegmentWildcard
returns-in-SegmentWildcard c =
    segment_tested (options_view c.args.options.now) c.args.part.now.kind (part_view c.args.part.now) c.unwrap_or-mark.result (chars c.args.text.now) c.are_copies.result
    c.in-SegmentWildcard.is c.unwrap_or-mark.ensures c.are_copies.ensures

pub returns-in-FullWildcard : goal.returns-in-FullWildcard
returns-in-FullWildcard c =
    full_tested (options_view c.args.options.now) c.args.part.now.kind (part_view c.args.part.now) (chars c.args.text.now) c.are_copies-in-FullWildcard.result
    c.in-FullWildcard.is c.are_copies-in-FullWildcard.ensures
