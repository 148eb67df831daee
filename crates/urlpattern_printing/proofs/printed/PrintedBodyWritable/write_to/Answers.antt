use Rattle.std.specs.Str.{chars}
use Rattle.urlpattern_printing.proofs.printed.PrintedBodyWritable.write_to.Goals as goal

pub returns-in-FixedText : goal.returns-in-FixedText
returns-in-FixedText g c = rw c.in-FixedText.is (g.met.W.Writer.writes_nothing c.args.writer.now)

pub write_to-requires : goal.write_to-requires
write_to-requires g c = rw (← c.as_str.ensures.value) at (rw c.in-Regexp.is at c.requires)

pub returns-in-Regexp : goal.returns-in-Regexp
returns-in-Regexp g c = rw c.in-Regexp.is (rw c.as_str.ensures.value at c.write_to.ensures)

pub returns-in-SegmentWildcard : goal.returns-in-SegmentWildcard
returns-in-SegmentWildcard g c = rw (c.in-SegmentWildcard.is, ← c.has_custom_name.ensures, c.if-has_custom_name.true) (g.met.W.Writer.writes_nothing c.args.writer.now)

pub write_to-requires-in-SegmentWildcard-2 : goal.write_to-requires-in-SegmentWildcard-2
write_to-requires-in-SegmentWildcard-2 g c = rw (c.in-SegmentWildcard-2.is, ← c.has_custom_name.ensures, c.if-has_custom_name.false) at c.requires

pub returns-in-SegmentWildcard-2 : goal.returns-in-SegmentWildcard-2
returns-in-SegmentWildcard-2 g c = rw (c.in-SegmentWildcard-2.is, ← c.has_custom_name.ensures, c.if-has_custom_name.false) c.write_to-in-SegmentWildcard-2.ensures

pub write_char-requires : goal.write_char-requires
write_char-requires g c = rw (c.in-FullWildcard.is, c.if-self.true) at c.requires

pub returns-in-FullWildcard : goal.returns-in-FullWildcard
returns-in-FullWildcard g c = rw (c.in-FullWildcard.is, c.if-self.true) c.write_char.ensures

pub write_to-requires-in-FullWildcard-2 : goal.write_to-requires-in-FullWildcard-2
unfolding chars
write_to-requires-in-FullWildcard-2 g c = rw (c.in-FullWildcard-2.is, c.if-self.false) at c.requires

pub returns-in-FullWildcard-2 : goal.returns-in-FullWildcard-2
unfolding chars
returns-in-FullWildcard-2 g c = rw (c.in-FullWildcard-2.is, c.if-self.false) c.write_to-in-FullWildcard-2.ensures
