use Rattle.std.proofs.Common.{subst}
use Rattle.std.proofs.Math.Path.{fun_ext}
use Rattle.std.specs.Prelude.{IfErr}
use Rattle.urlpattern_components.specs.Eight.{IsFirstError}
use Rattle.urlpattern_components.specs.declared.eight.ComponentName.{ComponentName}
use Rattle.urlpattern_components.proofs.eight.Eight.try_from_fn.Goals as goal

pub returns-clause-err : goal.returns-clause-err
returns-clause-err g c =
    subst (λ (own : ComponentName → ComponentName). IfErr c.try_map.result (IsFirstError (λ name. g.F.Fn.post c.args.value (own name, tt))))
    (fun_ext c.names.ensures) c.try_map.ensures.err
