use Rattle.std.proofs.Common.{rules, subst}
use Rattle.std.specs.Prelude.{Err}
use Rattle.urlpattern_matches.specs.GroupTexts.{IsCapturedOf}
use Rattle.urlpattern_matches.specs.declared.captures.NoCaptures.{NoCaptures}
use Rattle.urlpattern_components.specs.Eight.{at}
use Rattle.urlpattern_pattern.proofs.pattern.matching.finish_looks.Goals as goal

pub returns-in-Ok-clause-some : goal.returns-in-Ok-clause-some
returns-in-Ok-clause-some g c = λ name. let captured = c.in-Ok.ensures.ok name in search rules

pub returns-in-Err-Unmatched-clause-none : goal.returns-in-Err-Unmatched-clause-none
returns-in-Err-Unmatched-clause-none g c =
    let (before, after, name, same, earlier, failed) = c.in-Err-Unmatched.ensures.err in
    let missed : IsCapturedOf g.R.RegExp.answer (at c.args.looks name) (Err c.in-Err-Unmatched.field-0) = search rules in
    (name, subst (λ (reason : NoCaptures). IsCapturedOf g.R.RegExp.answer (at c.args.looks name) (Err reason)) c.in-Err-Unmatched.field-0-is missed)

pub returns-in-Err-OutOfMemory-clause-asked : goal.returns-in-Err-OutOfMemory-clause-asked
returns-in-Err-OutOfMemory-clause-asked g c =
    let (before, after, name, same, earlier, failed) = c.in-Err-OutOfMemory.ensures.err in
    let missed : IsCapturedOf g.R.RegExp.answer (at c.args.looks name) (Err c.in-Err-OutOfMemory.field-0) = search rules in
    (name, subst (λ (reason : NoCaptures). IsCapturedOf g.R.RegExp.answer (at c.args.looks name) (Err reason)) c.in-Err-OutOfMemory.field-0-is missed)
