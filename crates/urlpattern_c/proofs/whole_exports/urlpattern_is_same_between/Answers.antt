use Rattle.std.proofs.Common.{subst}
use Rattle.urlpattern_c.specs.Handles.{patterns_in}
use Rattle.urlpattern_ffi.specs.KeptPatterns.{PatternList, boxed_patterns}
use Rattle.urlpattern_ffi.specs.WholeTexts.{IsSameReported}
use Rattle.urlpattern_c.proofs.whole_exports.urlpattern_is_same_between.Goals as goal

pub returns-clause-answer : goal.returns-clause-answer
returns-clause-answer c =
    let Reports = λ (patterns others : PatternList). IsSameReported patterns c.args.index others c.args.other c.is_same-status.result in
    let of_patterns = subst (λ patterns. Reports patterns (boxed_patterns c.take-other_kept.result)) c.take-kept.ensures.taken c.is_same-status.ensures in
    let reported = subst (Reports (patterns_in c.args.patterns.now)) c.take-other_kept.ensures.taken of_patterns in
    (c.is_same-status.result, c.number.ensures, reported)
