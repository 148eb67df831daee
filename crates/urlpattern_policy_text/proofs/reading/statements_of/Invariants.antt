use Rattle.std.proofs.Common.{◌≡◌, map, take}
use Rattle.urlpattern_policy_text.specs.Statements.{statement_of, statement_view}
use Rattle.urlpattern_policy_text.proofs.reading.statements_of.Given as goal

abbrev pub invariant-loop-line : goal.invariant-loop-line
invariant-loop-line l = map statement_view l.statements.items ≡ map (λ line. statement_of line.now) (take l.line-index l.lines)
