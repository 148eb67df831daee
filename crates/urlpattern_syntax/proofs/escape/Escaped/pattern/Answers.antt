use Rattle.std.proofs.Common.{refl}
use Rattle.urlpattern_syntax.specs.Writing.{escaped_text}
use Rattle.urlpattern_syntax.proofs.escape.Escaped.pattern.Goals as goal

pub returns : goal.returns
unfolding escaped_text
returns c = refl
