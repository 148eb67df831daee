use Rattle.std.proofs.Common.{All, ap, arith, map, subst, take_all, ◌∙◌}
use Rattle.std.proofs.lemmas.Grind.{common_steps}
use Rattle.std.proofs.lemmas.List.Elements.{All-map, All-more}
use Rattle.urlpattern_generate.proofs.EncodedLemmas.{IsGivenBack, each_encoded, encoded_of}
use Rattle.urlpattern_generate.specs.EncodedGroups.{IsDecodedBack}
use Rattle.urlpattern_generate.specs.WriteSettings.{given_view}
use Rattle.urlpattern_generate.proofs.encoded_groups.encoded_values.Goals as goal

pub loop-component-preserved : goal.loop-component-preserved
loop-component-preserved c = (
  grind (arith, common_steps),
  All-more IsGivenBack c.args.groups.now c.loop-component.component-index _ c.loop-component-test.true c.loop-component.invariant.1 c.encoded_value.ensures.decoded,
)

pub returns : goal.returns
returns c =
    let all = take_all c.loop-component.component-index c.args.groups.now c.loop-component-test.false in
    record {
      encoded = c.loop-component.invariant.0 ∙ ap (map encoded_of) all ∙ each_encoded c.args.groups.now;
      decoded = All-map IsDecodedBack given_view c.args.groups.now (subst (All IsGivenBack) all c.loop-component.invariant.1);
    }
