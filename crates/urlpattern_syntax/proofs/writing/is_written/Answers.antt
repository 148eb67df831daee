use Rattle.std.proofs.Common.{rules}
use Rattle.std.specs.Str.{chars, IsUtf8}
use Rattle.urlpattern_syntax.proofs.ComparedTexts.{is_all, none_written}
use Rattle.urlpattern_syntax.proofs.writing.is_written.Goals as goal

pub returns-in-Some : goal.returns-in-Some
returns-in-Some g c =
    let utf8 : IsUtf8 c.in-Some.left.now = search rules in
    is_all (chars c.args.text.now) (g.T.Writable.text c.args.written.now) c.in-Some.left.now c.is_empty.result utf8 (rw c.in-Some.is at c.write_to.ensures) c.is_empty.ensures

pub returns-in-None : goal.returns-in-None
returns-in-None g c = none_written (chars c.args.text.now) (g.T.Writable.text c.args.written.now) (rw c.in-None.is at c.write_to.ensures)
