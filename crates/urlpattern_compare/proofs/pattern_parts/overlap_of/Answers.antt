use Rattle.std.proofs.Common.{subst, sym}
use Rattle.urlpattern_compare.proofs.PatternPartLemmas.{overlap_doubted}
use Rattle.urlpattern_compare.specs.ComparingSteps.{IsCommonOrDoubtful}
use Rattle.urlpattern_compare.proofs.pattern_parts.overlap_of.Goals as goal

pub returns-in-Ok : goal.returns-in-Ok
returns-in-Ok c = λ pattern other are name. subst (IsCommonOrDoubtful pattern other name) (sym (c.in-Ok.ensures.ok name)) (are name)

pub returns-in-Err : goal.returns-in-Err
returns-in-Err c = λ pattern other are.
    let (before, after, name, split, earlier, post) = c.in-Err.ensures.err in
    overlap_doubted pattern other c.args.found name (c.in-Err.component, c.in-Err.reason) are (sym post)
