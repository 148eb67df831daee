use Rattle.std.proofs.Common.{ap, length, nat_eq, sym, ◌∙◌}
use Rattle.urlpattern.proofs.PatternMapLemmas.{length-pairs}
use Rattle.urlpattern.proofs.map.UrlPatternMap.is_empty.Goals as goal

pub returns : goal.returns
returns g c =
    c.is_empty.ensures ∙ ap (λ n. nat_eq n 0) (sym (length-pairs c.self.inside.patterns c.self.inside.values.items c.self.invariant) ∙ ap length c.self.view_is)
