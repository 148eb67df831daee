use Rattle.std.specs.Str.{chars}
use Rattle.urlpattern_printing.proofs.regexp_text.RegexpBodyWritable.write_to.Goals as goal

pub write_str-requires-in-FullWildcard : goal.write_str-requires-in-FullWildcard
unfolding chars
write_str-requires-in-FullWildcard g c = rw c.in-FullWildcard.is at c.requires

pub returns-in-FullWildcard : goal.returns-in-FullWildcard
unfolding chars
returns-in-FullWildcard g c = rw c.in-FullWildcard.is c.write_str-in-FullWildcard.ensures
