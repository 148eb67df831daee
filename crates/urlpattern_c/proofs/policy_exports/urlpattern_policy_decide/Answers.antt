use Rattle.std.proofs.Common.{subst}
use Rattle.urlpattern_ffi_tables.specs.Verdicts.{IsDecided}
use Rattle.urlpattern_c.proofs.policy_exports.urlpattern_policy_decide.Goals as goal

pub returns-clause-answer : goal.returns-clause-answer
returns-clause-answer c =
    let decided = subst (λ policy. IsDecided policy c.args.url.now c.args.base.now c.decide-verdict.new.rule c.decide-verdict.result) c.take-kept.ensures.taken c.decide-verdict.ensures in
    (c.decide-verdict.result, c.number.ensures, decided)
