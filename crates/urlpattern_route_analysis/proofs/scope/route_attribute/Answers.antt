use Rattle.urlpattern_route_analysis.proofs.scope.route_attribute.Goals as goal

pub returns : goal.returns
returns c = record { names = c.names.ensures; open_to = c.is_method.ensures }
