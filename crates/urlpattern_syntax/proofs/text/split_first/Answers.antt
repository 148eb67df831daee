use Rattle.std.proofs.Common.{rules}
use Rattle.std.proofs.lemmas.Str.{chars_past_char}
use Rattle.urlpattern_syntax.proofs.text.split_first.Goals as goal

pub returns-clause-cut : goal.returns-clause-cut
returns-clause-cut c = chars_past_char c.args.text.now c.as_str.result.now c.in_ok-first.first c.utf8.text (search rules)
