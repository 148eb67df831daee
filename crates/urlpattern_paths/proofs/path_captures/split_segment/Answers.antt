use Rattle.std.proofs.Common.{◌∙◌, ap, false, refl}
use Rattle.std.proofs.lemmas.Str.{chars-nil}
use Rattle.std.specs.Str.{chars}
use Rattle.url.specs.Ascii.{slash}
use Rattle.urlpattern_matcher.proofs.MatcherTexts.{lacks-searched}
use Rattle.urlpattern_paths.proofs.PathLaws.{segment-found, segment-whole}
use Rattle.urlpattern_paths.proofs.path_captures.split_segment.Goals as goal

pub returns-in-Some-clause-segment : goal.returns-in-Some-clause-segment
returns-in-Some-clause-segment c = ap chars c.split_at.ensures.front ∙ (segment-found c.args.text.now c.in-Some.slash c.utf8.text c.in-Some.ensures.cases).0

pub returns-in-Some-clause-rest : goal.returns-in-Some-clause-rest
returns-in-Some-clause-rest c = ap chars c.split_at.ensures.back ∙ (segment-found c.args.text.now c.in-Some.slash c.utf8.text c.in-Some.ensures.cases).1

pub returns-in-None-clause-segment : goal.returns-in-None-clause-segment
returns-in-None-clause-segment c = (segment-whole (chars c.args.text.now) ((lacks-searched slash c.args.text.now false c.utf8.text c.in-None.ensures.cases).0 refl)).0

pub returns-in-None-clause-rest : goal.returns-in-None-clause-rest
returns-in-None-clause-rest c = chars-nil ∙ (segment-whole (chars c.args.text.now) ((lacks-searched slash c.args.text.now false c.utf8.text c.in-None.ensures.cases).0 refl)).1
