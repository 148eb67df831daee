use Rattle.urlpattern_components.specs.Eight.{at}
use Rattle.urlpattern_compare.proofs.pattern_parts.PatternParts.unknown_or_covered.Goals as goal

pub returns-in-Ok : goal.returns-in-Ok
returns-in-Ok c = record {
  doubt = c.requires.doubt;
  may_cover = c.requires.may_cover;
  may_match = λ name. (at c.in-Ok.texts name, c.in-Ok.ensures.examples name);
}
