use Rattle.urlpattern_syntax.proofs.Escaped.{escaped-mark, escaped-other}
use Rattle.urlpattern_syntax.specs.Writing.{marks_of}
use Rattle.urlpattern_syntax.proofs.escape.EscapedCharWritable.write_to.Goals as goal

pub write_to-requires : goal.write_to-requires
write_to-requires g c = rw (escaped-mark (marks_of c.args.self.now.0) c.args.self.now.1 c.if-contain.ensures) at c.requires

pub returns-then-contain : goal.returns-then-contain
returns-then-contain g c = rw (escaped-mark (marks_of c.args.self.now.0) c.args.self.now.1 c.if-contain.ensures) c.write_to.ensures

pub write_char-requires : goal.write_char-requires
write_char-requires g c = rw (escaped-other (marks_of c.args.self.now.0) c.args.self.now.1 c.if-contain.ensures) at c.requires

pub returns-else-contain : goal.returns-else-contain
returns-else-contain g c = rw (escaped-other (marks_of c.args.self.now.0) c.args.self.now.1 c.if-contain.ensures) c.write_char.ensures
