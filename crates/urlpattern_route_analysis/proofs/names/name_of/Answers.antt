use Rattle.std.proofs.Common.{◌∙◌, sym}
use Rattle.urlpattern_route_analysis.proofs.NamingLemmas.{IsRefused, name_next, none_of_closed}
use Rattle.urlpattern_route_analysis.specs.Cases.{literal_views}
use Rattle.urlpattern_route_analysis.proofs.names.name_of.Goals as goal

pub loop-name-preserved : goal.loop-name-preserved
loop-name-preserved c =
    name_next (IsRefused (literal_views c.args.literals.now) c.args.index c.args.attribute.now) c.args.attribute.now.names.now c.loop-name.name-index _ c.loop-name-test.true c.loop-name.invariant (sym c.allows.ensures ∙ c.if-allows.false)

pub returns-then-not-attribute : goal.returns-then-not-attribute
returns-then-not-attribute c =
    none_of_closed (literal_views c.args.literals.now) c.args.index c.args.attribute.now c.loop-name.name-index c.if-not-attribute.true c.loop-name-test.false c.loop-name.invariant
