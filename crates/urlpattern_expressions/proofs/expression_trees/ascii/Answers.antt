use Rattle.std.proofs.Common.{◌∙◌, sym}
use Rattle.std.specs.Char.{is_ascii}
use Rattle.std.specs.List.{list_all}
use Rattle.std.specs.Prelude.{IsTrue}
use Rattle.urlpattern_expressions.proofs.HirTrees.{known_always}
use Rattle.urlpattern_expressions.proofs.expression_trees.ascii.Goals as goal

pub returns-clause-reads : goal.returns-clause-reads
returns-clause-reads c = known_always (IsTrue (list_all is_ascii c.args.bytes.now)) c.spelled.result (sym c.are_ascii.ensures ∙ c.if-not-are_ascii.false)
