use Rattle.std.proofs.Common.{refl}
use Rattle.urlpattern_route_analysis.proofs.KeptLemmas.{empty_ready}
use Rattle.urlpattern_route_analysis.proofs.analysis.Analysis.new.Goals as goal

pub returns-clause-empty : goal.returns-clause-empty
returns-clause-empty c = record { attributes_are = refl; limits_are = refl; facts = c.in_ok-new.ensures; patterns = c.new-2.ensures.items }

pub returns-clause-ready : goal.returns-clause-ready
returns-clause-ready c =
    empty_ready c.args.attributes.now c.args.limits _ (record { attributes_are = refl; limits_are = refl; facts = c.in_ok-new.ensures; patterns = c.new-2.ensures.items })
