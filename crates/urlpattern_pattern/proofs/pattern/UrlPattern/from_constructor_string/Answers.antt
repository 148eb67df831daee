use Rattle.std.proofs.Common.{inl, inr}
use Rattle.std.proofs.lemmas.Result.{err_from_is_err_and, IfErr-weaker, IfOk-weaker}
use Rattle.urlpattern_pattern.proofs.pattern.UrlPattern.from_constructor_string.Goals as goal

pub returns-in_err-init-clause-refused : goal.returns-in_err-init-clause-refused
returns-in_err-init-clause-refused g c =
    let p = err_from_is_err_and c.from_residual.result c.from_residual.ensures.1 in
    rw (p.1, p.2) (elim c.in_err-init.ensures.refused [
      | inl memory ↦ inl memory
      | inr refused ↦ inr (inl refused)
    ])

pub returns-clause-compiled : goal.returns-clause-compiled
returns-clause-compiled g c =
    IfOk-weaker c.parse_with_protocol.result _ _ (λ pattern compiled. record { init = c.in_ok-init.init; is_constructed = c.in_ok-init.ensures.constructed; is_compiled = compiled }) c.parse_with_protocol.ensures.compiled

pub returns-clause-by_text : goal.returns-clause-by_text
returns-clause-by_text g c = λ firsts.
    IfOk-weaker c.parse_with_protocol.result _ _ (λ pattern by. (c.in_ok-init.init, c.in_ok-init.ensures.constructed, by)) (c.parse_with_protocol.ensures.by_text firsts)

pub returns-clause-refused : goal.returns-clause-refused
returns-clause-refused g c =
    IfErr-weaker c.parse_with_protocol.result _ _ (λ error refused. elim refused [
      | inl memory ↦ inl memory
      | inr reported ↦ inr (inr (c.in_ok-init.init, c.in_ok-init.ensures.constructed, reported))
    ]) c.parse_with_protocol.ensures.refused

pub returns-clause-kept : goal.returns-clause-kept
returns-clause-kept g c =
    IfOk-weaker c.parse_with_protocol.result _ _ (λ pattern kept. (c.in_ok-init.init, c.in_ok-init.ensures.constructed, kept)) c.parse_with_protocol.ensures.kept
