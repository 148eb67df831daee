use Rattle.std.proofs.Common.{◌∙◌}
use Rattle.urlpattern.proofs.list.UrlPatternList.as_slice.Goals as goal

pub returns : goal.returns
returns g c = c.as_slice.ensures.value ∙ c.self.view_is
