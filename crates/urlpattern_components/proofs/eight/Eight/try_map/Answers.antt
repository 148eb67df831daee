use Rattle.std.proofs.Common.{refl, rules, [], ◌∷◌}
use Rattle.urlpattern_components.proofs.EightLemmas.{passed_on}
use Rattle.urlpattern_components.specs.Eight.{at}
use Rattle.urlpattern_components.specs.declared.eight.ComponentName.TheVariants.{Protocol, Username, Password, Hostname, Port, Pathname, Search, Hash}
use Rattle.urlpattern_components.proofs.eight.Eight.try_map.Goals as goal

pub returns-in_err-value-clause-err : goal.returns-in_err-value-clause-err
returns-in_err-value-clause-err g c =
    passed_on (λ name r. g.F.Fn.post c.args.value (at c.args.self name, tt) r) c.from_residual.result c.in_err-value.field-0.0 [] _ Protocol c.from_residual.ensures.1 refl tt (search rules)

pub returns-in_err-value-2-clause-err : goal.returns-in_err-value-2-clause-err
returns-in_err-value-2-clause-err g c =
    passed_on (λ name r. g.F.Fn.post c.args.value (at c.args.self name, tt) r) c.from_residual-in_err-value-2.result c.in_err-value-2.field-0.0 (Protocol ∷ []) _ Username c.from_residual-in_err-value-2.ensures.1 refl ((c.in_ok-value.field-0, search rules), tt) (search rules)

pub returns-in_err-value-3-clause-err : goal.returns-in_err-value-3-clause-err
returns-in_err-value-3-clause-err g c =
    passed_on (λ name r. g.F.Fn.post c.args.value (at c.args.self name, tt) r) c.from_residual-in_err-value-3.result c.in_err-value-3.field-0.0 (Protocol ∷ Username ∷ []) _ Password c.from_residual-in_err-value-3.ensures.1 refl ((c.in_ok-value.field-0, search rules), ((c.in_ok-value-2.field-0, search rules), tt)) (search rules)

pub returns-in_err-value-4-clause-err : goal.returns-in_err-value-4-clause-err
returns-in_err-value-4-clause-err g c =
    passed_on (λ name r. g.F.Fn.post c.args.value (at c.args.self name, tt) r) c.from_residual-in_err-value-4.result c.in_err-value-4.field-0.0 (Protocol ∷ Username ∷ Password ∷ []) _ Hostname c.from_residual-in_err-value-4.ensures.1 refl ((c.in_ok-value.field-0, search rules), ((c.in_ok-value-2.field-0, search rules), ((c.in_ok-value-3.field-0, search rules), tt))) (search rules)

pub returns-in_err-value-5-clause-err : goal.returns-in_err-value-5-clause-err
returns-in_err-value-5-clause-err g c =
    passed_on (λ name r. g.F.Fn.post c.args.value (at c.args.self name, tt) r) c.from_residual-in_err-value-5.result c.in_err-value-5.field-0.0 (Protocol ∷ Username ∷ Password ∷ Hostname ∷ []) _ Port c.from_residual-in_err-value-5.ensures.1 refl ((c.in_ok-value.field-0, search rules), ((c.in_ok-value-2.field-0, search rules), ((c.in_ok-value-3.field-0, search rules), ((c.in_ok-value-4.field-0, search rules), tt)))) (search rules)

pub returns-in_err-value-6-clause-err : goal.returns-in_err-value-6-clause-err
returns-in_err-value-6-clause-err g c =
    passed_on (λ name r. g.F.Fn.post c.args.value (at c.args.self name, tt) r) c.from_residual-in_err-value-6.result c.in_err-value-6.field-0.0 (Protocol ∷ Username ∷ Password ∷ Hostname ∷ Port ∷ []) _ Pathname c.from_residual-in_err-value-6.ensures.1 refl ((c.in_ok-value.field-0, search rules), ((c.in_ok-value-2.field-0, search rules), ((c.in_ok-value-3.field-0, search rules), ((c.in_ok-value-4.field-0, search rules), ((c.in_ok-value-5.field-0, search rules), tt))))) (search rules)

pub returns-in_err-value-7-clause-err : goal.returns-in_err-value-7-clause-err
returns-in_err-value-7-clause-err g c =
    passed_on (λ name r. g.F.Fn.post c.args.value (at c.args.self name, tt) r) c.from_residual-in_err-value-7.result c.in_err-value-7.field-0.0 (Protocol ∷ Username ∷ Password ∷ Hostname ∷ Port ∷ Pathname ∷ []) _ Search c.from_residual-in_err-value-7.ensures.1 refl ((c.in_ok-value.field-0, search rules), ((c.in_ok-value-2.field-0, search rules), ((c.in_ok-value-3.field-0, search rules), ((c.in_ok-value-4.field-0, search rules), ((c.in_ok-value-5.field-0, search rules), ((c.in_ok-value-6.field-0, search rules), tt)))))) (search rules)

pub returns-in_err-value-8-clause-err : goal.returns-in_err-value-8-clause-err
returns-in_err-value-8-clause-err g c =
    passed_on (λ name r. g.F.Fn.post c.args.value (at c.args.self name, tt) r) c.from_residual-in_err-value-8.result c.in_err-value-8.field-0.0 (Protocol ∷ Username ∷ Password ∷ Hostname ∷ Port ∷ Pathname ∷ Search ∷ []) _ Hash c.from_residual-in_err-value-8.ensures.1 refl ((c.in_ok-value.field-0, search rules), ((c.in_ok-value-2.field-0, search rules), ((c.in_ok-value-3.field-0, search rules), ((c.in_ok-value-4.field-0, search rules), ((c.in_ok-value-5.field-0, search rules), ((c.in_ok-value-6.field-0, search rules), ((c.in_ok-value-7.field-0, search rules), tt))))))) (search rules)
