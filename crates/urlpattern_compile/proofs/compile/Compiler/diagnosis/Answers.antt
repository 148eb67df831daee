use Rattle.std.proofs.Common.{sym, subst}
use Rattle.std.specs.Prelude.{IfNone, IfSome}
use Rattle.urlpattern_compile.specs.Compiled.{RejectsValues}
use Rattle.urlpattern_compile.specs.CompilerSteps.{compiled_values}
use Rattle.urlpattern_compile.specs.Diagnoses.{AcceptsValues, IsRejectionOf}
use Rattle.urlpattern_compile.specs.Sources.{written}
use Rattle.urlpattern_compile.proofs.DiagnosisLemmas.{refused_so, shown_so, whole_shown}
use Rattle.urlpattern_syntax.specs.declared.error.Error.{Error}
use Rattle.urlpattern_syntax.specs.Errors.{error_view}
use Rattle.urlpattern_compile.proofs.compile.Compiler.diagnosis.Goals as goal

pub returns-in-Some-clause-refused : goal.returns-in-Some-clause-refused
returns-in-Some-clause-refused g c =
    let values = compiled_values c.args.self.now in
    let is : IsRejectionOf g.R.RegExp c.args.self.now.options.now values c.in-Some.rejection =
    subst (λ found. IfSome found (IsRejectionOf g.R.RegExp c.args.self.now.options.now values)) c.in-Some.is c.in_ok-rejection.ensures.rejected in
    refused_so g.R.RegExp c.args.self.now.options.now values c.in-Some.rejection c.component_diagnosis.result is c.component_diagnosis.ensures.error

pub returns-in-Some-clause-shows : goal.returns-in-Some-clause-shows
returns-in-Some-clause-shows g c =
    let values = compiled_values c.args.self.now in
    let is : IsRejectionOf g.R.RegExp c.args.self.now.options.now values c.in-Some.rejection =
    subst (λ found. IfSome found (IsRejectionOf g.R.RegExp c.args.self.now.options.now values)) c.in-Some.is c.in_ok-rejection.ensures.rejected in
    shown_so g.R.RegExp c.args.self.now.options.now values (written c.args.source) c.in-Some.rejection c.component_diagnosis.result is c.component_diagnosis.ensures.error c.component_diagnosis.ensures.subject c.component_diagnosis.ensures.shows
    c.component_diagnosis.ensures.text

pub returns-in_ok-whole-in-None-clause-refused : goal.returns-in_ok-whole-in-None-clause-refused
returns-in_ok-whole-in-None-clause-refused g c =
    subst (λ (error : Error). RejectsValues g.R.RegExp c.args.self.now.options.now (compiled_values c.args.self.now) (error_view error)) (sym c.in_ok-whole-in-None.ensures.error) c.requires.rejected

pub returns-in_ok-whole-in-None-clause-shows : goal.returns-in_ok-whole-in-None-clause-shows
returns-in_ok-whole-in-None-clause-shows g c =
    let is = c.in_ok-whole-in-None.ensures in
    let accepted : AcceptsValues g.R.RegExp c.args.self.now.options.now (compiled_values c.args.self.now) =
    subst (λ found. IfNone found (AcceptsValues g.R.RegExp c.args.self.now.options.now (compiled_values c.args.self.now))) c.in-None.is c.in_ok-rejection.ensures.accepted in
    whole_shown g.R.RegExp c.args.self.now.options.now (compiled_values c.args.self.now) (written c.args.source) c.whole_text-text.result.now c.in_ok-whole-in-None.field-0 accepted is.text is.subject is.fault c.whole_text-text.ensures
