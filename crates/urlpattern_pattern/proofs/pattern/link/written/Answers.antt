use Rattle.urlpattern_generate.specs.WriteSettings.{given_groups}
use Rattle.urlpattern_pattern.proofs.LinkedLemmas.{part_answered}
use Rattle.urlpattern_pattern.proofs.pattern.link.written.Goals as goal

pub returns : goal.returns
returns c =
    part_answered c.args.parts.now (given_groups c.args.groups.now) c.args.component c.get.result.now c.written_component.result c.get.ensures c.written_component.ensures.written c.written_component.ensures.refused
