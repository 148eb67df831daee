use Rattle.std.proofs.Common.{◌∙◌}
use Rattle.urlpattern_syntax.proofs.StringTexts.{is_empty-text}
use Rattle.urlpattern_paths.proofs.PathLaws.{last-view}
use Rattle.urlpattern_paths.proofs.read_once.is_read_once.Goals as goal

pub returns-then-is_empty : goal.returns-then-is_empty
returns-then-is_empty c =
    rw (c.in-SegmentWildcard.is, is_empty-text c.args.part.now.suffix, ← c.is_empty.ensures, c.if-is_empty.true) c.end_segment.ensures

pub returns-else-is_empty : goal.returns-else-is_empty
returns-else-is_empty c =
    rw (c.in-SegmentWildcard.is, is_empty-text c.args.part.now.suffix, ← c.is_empty.ensures, c.if-is_empty.false)

pub returns-then-is_empty-2 : goal.returns-then-is_empty-2
returns-then-is_empty-2 c =
    rw (c.in-FullWildcard.is, is_empty-text c.args.part.now.suffix, ← c.is_empty-in-FullWildcard.ensures, c.if-is_empty-2.true) (c.is_empty-then-is_empty-2.ensures ∙ last-view c.args.after.now)

pub returns-else-is_empty-2 : goal.returns-else-is_empty-2
returns-else-is_empty-2 c =
    rw (c.in-FullWildcard.is, is_empty-text c.args.part.now.suffix, ← c.is_empty-in-FullWildcard.ensures, c.if-is_empty-2.false)
