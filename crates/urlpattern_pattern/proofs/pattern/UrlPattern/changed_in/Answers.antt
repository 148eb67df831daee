use Rattle.urlpattern_generate.specs.WriteSettings.{given_groups}
use Rattle.urlpattern_pattern.proofs.EncodedLinkLemmas.{changed_at}
use Rattle.urlpattern_pattern.proofs.pattern.UrlPattern.changed_in.Goals as goal

pub returns : goal.returns
returns g c =
    changed_at c.args.self.now c.args.parts.now (given_groups c.args.groups.now) c.args.component c.get-kept.result.now c.get.result.now c.deref.result.now c.changed_group.result
    c.get-kept.ensures c.get.ensures c.deref.ensures.value c.changed_group.ensures
