use Rattle.std.proofs.Common.{ap, Some}
use Rattle.std.specs.Str.{chars}
use Rattle.urlpattern_syntax.specs.Options.{standard_options}
use Rattle.urlpattern_syntax.proofs.parser.Options.pathname.Goals as goal

pub returns-clause-ok : goal.returns-clause-ok
unfolding chars
returns-clause-ok c = ap (λ prefix. standard_options (Some 47) (chars prefix)) c.in_ok-from_str.ensures.ok
