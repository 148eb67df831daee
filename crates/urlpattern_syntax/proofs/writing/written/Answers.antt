use Rattle.urlpattern_syntax.proofs.StringTexts.{text-append_empty}
use Rattle.urlpattern_syntax.proofs.writing.written.Goals as goal

pub returns : goal.returns
returns g c =
    text-append_empty c.in_ok-string.string (g.T.Writable.text c.args.text.now) c.in_ok-string.ensures.bytes c.write_to-2.ensures.text
