use Rattle.std.proofs.Common.{refl}
use Rattle.std.specs.Str.{chars}
use Rattle.urlpattern_matcher.proofs.component.engine_flags.Goals as goal

pub returns-then-options : goal.returns-then-options
unfolding chars
returns-then-options c = rw c.if-options.true refl

pub returns-else-options : goal.returns-else-options
unfolding chars
returns-else-options c = rw c.if-options.false refl
