use Rattle.std.proofs.Common.{refl}
use Rattle.urlpattern_syntax.proofs.StringTexts.{text-nil}
use Rattle.urlpattern_matcher.proofs.component.matchers.literal_matcher.Goals as goal

pub returns : goal.returns
returns g c =
    rw (text-nil c.new.result c.new.ensures.bytes, text-nil c.new-2.result c.new-2.ensures.bytes, c.in_ok-concatenated.ensures) refl
