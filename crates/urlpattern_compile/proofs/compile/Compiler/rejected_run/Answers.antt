use Rattle.std.proofs.Common.{ℕ, List, rules, subst}
use Rattle.urlpattern_compile.specs.CompilerSteps.{settings_by}
use Rattle.urlpattern_compile.specs.Diagnoses.{IsAcceptedByUrl}
use Rattle.urlpattern_compile.proofs.compile.Compiler.rejected_run.Goals as goal

pub returns-clause-accepted : goal.returns-clause-accepted
returns-clause-accepted c =
    let settings = settings_by c.args.self.now c.args.hierarchical c.args.component in
    let each = rw c.deref.ensures.value at (rw c.in-None.is at c.in_ok-row.ensures.accepted) in (
      c.in-Ok.tokens.items,
      c.in-Ok.ensures.tokens,
      λ value run is.
          let one = each value run is in
          let accepted : IsAcceptedByUrl settings one.0.now = search (rules, one.2) in
          subst (λ (bytes : List ℕ). IsAcceptedByUrl settings bytes) one.1 accepted,
    )
