use Rattle.std.proofs.Common.{sym, ◌∙◌}
use Rattle.urlpattern_diagnosis.specs.Faults.{IsWholeFault, mistyped_colon}
use Rattle.urlpattern_diagnosis.proofs.TokenFaultLemmas.{found_at}
use Rattle.urlpattern_diagnosis.proofs.fault.Fault.of_sign.Goals as goal

pub returns-in-Some-clause-fault : goal.returns-in-Some-clause-fault
returns-in-Some-clause-fault c =
    let text = c.args.text.now in
    found_at text 1 c.in-Some.place (mistyped_colon text) (IsWholeFault text c.of_span.result) c.at.result c.of_span.result (sym c.mistyped_colon.ensures ∙ c.in-Some.is) c.at.ensures.at c.of_span.ensures
