use Rattle.urlpattern_copies.proofs.engine.copied.Goals as goal

pub returns : goal.returns
returns g c = g.met.R.CloneRegExp.clones_are_equal c.args.value.now c.in_ok-copy.copy c.in_ok-copy.ensures.cases
