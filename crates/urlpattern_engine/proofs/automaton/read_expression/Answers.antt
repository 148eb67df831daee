use Rattle.std.proofs.Common.{subst}
use Rattle.regex_syntax.specs.Verdict.{Refuses}
use Rattle.regex_syntax.specs.declared.Config.{Config}
use Rattle.urlpattern_engine.proofs.RejectionLemmas.{unreadable_of_refused}
use Rattle.urlpattern_engine.proofs.automaton.read_expression.Goals.{in-OutOfMemory, in_default}
use Rattle.urlpattern_engine.proofs.automaton.read_expression.Goals as goal

pub returns-after-error-clause-refused : goal.returns-after-error-clause-refused
returns-after-error-clause-refused c = λ same. elim c.match-error.branch [
  | in-OutOfMemory w ↦ let is = w.result-is in cc
  | in_default w ↦
      unreadable_of_refused c.args.ignore_case c.args.regexp.now c.in-Err.error.kind
      (subst (λ (config : Config). Refuses config c.args.regexp.now c.in-Err.error.kind) c.config_for-config.ensures c.in-Err.ensures.err) w.in_default.not-OutOfMemory
]
