use Rattle.std.proofs.Common.{rules}
use Rattle.std.specs.Str.{IsUtf8}
use Rattle.urlpattern_syntax.proofs.ComparedTexts.{stripped}
use Rattle.urlpattern_syntax.proofs.writing.ComparisonWriter.write_str.Goals as goal

pub returns-in-Some : goal.returns-in-Some
returns-in-Some c =
    let utf8 : IsUtf8 c.in-Some.left.now = search rules in
    rw c.in-Some.is (stripped c.in-Some.left.now c.args.text.now c.strip_prefix-self.result utf8 c.utf8.text c.strip_prefix-self.ensures.cases)
