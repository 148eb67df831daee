use Rattle.std.proofs.Common.{sym, ◌∙◌}
use Rattle.urlpattern_constructor.proofs.SplitStarts.{start_by_name}
use Rattle.urlpattern_constructor.proofs.components.Split.start.Goals as goal

pub returns-in-Some : goal.returns-in-Some
returns-in-Some c = start_by_name c.args.self.now c.args.name _ (sym c.get.ensures ∙ c.in-Some.is)

pub returns-in-None : goal.returns-in-None
returns-in-None c = start_by_name c.args.self.now c.args.name _ (sym c.get.ensures ∙ c.in-None.is)
