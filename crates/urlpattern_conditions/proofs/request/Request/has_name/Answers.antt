use Rattle.urlpattern_conditions.proofs.ConditionLemmas.{name-at, name-past}
use Rattle.urlpattern_conditions.proofs.request.Request.has_name.Goals as goal

pub returns-in-Some : goal.returns-in-Some
returns-in-Some c = name-at c.args.self.now.names.now c.args.attribute c.in-Some.own.now c.args.name.now c.eq.result c.in-Some.ensures.lookup.3.0 c.in-Some.ensures.lookup.1 c.eq.ensures

pub returns-in-None : goal.returns-in-None
returns-in-None c = name-past c.args.self.now.names.now c.args.attribute c.args.name.now c.in-None.ensures.lookup.3
