use Rattle.urlpattern_matcher.proofs.StrippedMatchers.{peels-both}
use Rattle.urlpattern_matcher.proofs.component.matchers.strip_fixed_texts.Goals as goal

pub returns : goal.returns
returns c = peels-both _ _ _ _ _ c.strip_fixed_prefix.ensures c.strip_fixed_suffix.ensures
