use Rattle.std.proofs.Common.{inl, inr}
use Rattle.std.proofs.lemmas.Result.{err_from_is_err_and, IfErr-weaker, IfOk-weaker}
use Rattle.urlpat_matching.proofs.given_pattern.compiled_init.Goals as goal

pub returns-in_err-init-clause-refused : goal.returns-in_err-init-clause-refused
returns-in_err-init-clause-refused c =
    let p = err_from_is_err_and c.from_residual.result c.from_residual.ensures.1 in
    rw (p.1, p.2) (elim c.in_err-init.ensures.refused [
      | inl memory ↦ inl memory
      | inr reported ↦ inr (inl reported)
    ])

pub returns-clause-compiled : goal.returns-clause-compiled
returns-clause-compiled c =
    IfOk-weaker c.parse.result _ _ (λ pattern compiled. (c.in_ok-init.init, c.in_ok-init.ensures.init, compiled)) c.parse.ensures.compiled

pub returns-clause-kept : goal.returns-clause-kept
returns-clause-kept c =
    IfOk-weaker c.parse.result _ _ (λ pattern kept. (c.in_ok-init.init, c.in_ok-init.ensures.init, kept)) c.parse.ensures.kept

pub returns-clause-refused : goal.returns-clause-refused
returns-clause-refused c =
    IfErr-weaker c.parse.result _ _ (λ error refused. elim refused [
      | inl memory ↦ inl memory
      | inr rejected ↦ inr (inr (c.in_ok-init.init, c.in_ok-init.ensures.init, rejected))
    ]) c.parse.ensures.refused
