use Rattle.std.proofs.Common.{◌∙◌, ap}
use Rattle.std.specs.Prelude.{slice_get}
use Rattle.urlpattern.proofs.ListLemmas.{got}
use Rattle.urlpattern.proofs.list.UrlPatternList.get.Goals as goal

pub returns : goal.returns
returns g c =
    let (there, same, is_some, found, rest) = c.get.ensures.lookup in
    got c.get.result c.deref.result.now c.args.index _ same found
    ∙ ap (λ patterns. slice_get patterns c.args.index) (search (c.deref.ensures.value, c.self.view_is))
