use Rattle.std.proofs.Common.{arith, ◌+◌, ◌∷◌, ◌++◌, drop, take, sym, ap, ◌∙◌, subst}
use Rattle.std.proofs.lemmas.List.{take_all, take_more}
use Rattle.std.specs.List.{AllByRecursion}
use Rattle.urlpattern_compile.specs.CompilerSteps.{settings_by}
use Rattle.urlpattern_compile.proofs.DiagnosisLemmas.{IsCompiledBy, all_more, cut_at}
use Rattle.urlpattern_components.specs.declared.eight.ComponentName.{ComponentName}
use Rattle.urlpattern_compile.proofs.compile.Compiler.first_rejected_of.Goals as goal

pub returns-in-Some-clause-first : goal.returns-in-Some-clause-first
returns-in-Some-clause-first g c =
    let names = c.args.names.now in
    let i = c.loop-name.name-index in
    let name = rw c.in-Some.is at c.in_ok-rejection.ensures.name in
    let refused = rw c.in-Some.is at c.in_ok-rejection.ensures.refused in
    record {
      before = take i names;
      after = drop (i + 1) names;
      place = sym (ap (λ (x : ComponentName). take i names ++ x ∷ drop (i + 1) names) name ∙ cut_at names i _ c.loop-name-test.true);
      are_accepted = c.loop-name.invariant;
      is_refused = refused.1;
    }

pub loop-name-preserved : goal.loop-name-preserved
loop-name-preserved g c =
    let names = c.args.names.now in
    let i = c.loop-name.name-index in
    let Is = IsCompiledBy g.R.RegExp (settings_by c.args.self.now c.args.hierarchical) in
    let compiled = rw c.in-None.is at c.in_ok-rejection.ensures.compiled in
    subst (AllByRecursion Is) (sym (take_more names i _ c.loop-name-test.true)) (all_more Is (take i names) _ c.loop-name.invariant compiled)

pub returns-clause-accepted : goal.returns-clause-accepted
returns-clause-accepted g c =
    let names = c.args.names.now in
    let past = c.loop-name-test.false in
    subst (AllByRecursion (IsCompiledBy g.R.RegExp (settings_by c.args.self.now c.args.hierarchical))) (take_all c.loop-name.name-index names (omega (arith, past))) c.loop-name.invariant
