use Rattle.urlpattern_route_analysis.proofs.scope.route_attributes.Goals as goal

pub returns : goal.returns
returns c = (c.route_attribute.ensures, (c.route_attribute-2.ensures, (c.route_attribute-3.ensures, (c.route_attribute-4.ensures, tt))))
