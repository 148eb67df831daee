use Rattle.std.proofs.Common.{ap, ◌∙◌}
use Rattle.std.specs.Option.{option_flatten}
use Rattle.urlpattern_matches.proofs.MatchGroupLemmas.{flattened-text}
use Rattle.urlpattern_syntax.specs.Text.{option_text}
use Rattle.urlpattern_matches.proofs.captures.UrlPatternCaptures.get.Goals as goal

pub returns : goal.returns
returns c = ap option_text c.flatten.ensures ∙ flattened-text c.group.result ∙ ap option_flatten c.group.ensures
