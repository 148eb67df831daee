use Rattle.urlpattern_engine.proofs.EngineLaws.{values_agree}
use Rattle.urlpattern_engine.proofs.pattern_regexp.PatternRegexpRegExp.agrees_with_parts.Goals as goal

pub returns : goal.returns
returns c = λ is. values_agree
