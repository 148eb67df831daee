use Rattle.std.proofs.Common.{◌∙◌, ap, sym}
use Rattle.std.proofs.lemmas.Map.Made.{keys_of-zip}
use Rattle.std.specs.Map.{keys_of}
use Rattle.urlpattern.proofs.map.UrlPatternMap.patterns.Goals as goal

pub returns : goal.returns
returns g c =
    c.as_slice.ensures ∙ sym (keys_of-zip c.self.inside.patterns c.self.inside.values.items c.self.invariant) ∙ ap keys_of c.self.view_is
