use Rattle.std.specs.Str.{chars}
use Rattle.urlpattern_printing.proofs.regexp_text.GroupedWritable.write_to.Goals as goal

pub write_to-requires : goal.write_to-requires
unfolding chars
write_to-requires g c = c.requires

pub returns : goal.returns
unfolding chars
returns g c = c.write_to.ensures
