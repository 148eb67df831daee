use Rattle.std.specs.Str.{chars}
use Rattle.urlpattern_syntax.proofs.escape.SegmentWildcardWritable.write_to.Goals as goal

pub write_str-requires : goal.write_str-requires
unfolding chars
write_str-requires g c = rw c.in_default.is at c.requires

pub returns-in_default : goal.returns-in_default
unfolding chars
returns-in_default g c = rw c.in_default.is c.write_str.ensures

pub write_to-requires : goal.write_to-requires
unfolding chars
write_to-requires g c = rw c.in-Some.is at c.requires

pub returns : goal.returns
unfolding chars
returns g c = rw c.in-Some.is c.write_to.ensures
