use Rattle.std.proofs.Common.{ap, length, sym, ◌∙◌}
use Rattle.urlpattern.proofs.PatternMapLemmas.{length-pairs}
use Rattle.urlpattern.proofs.map.UrlPatternMap.len.Goals as goal

pub returns : goal.returns
returns g c = c.len.ensures ∙ sym (length-pairs c.self.inside.patterns c.self.inside.values.items c.self.invariant) ∙ ap length c.self.view_is
