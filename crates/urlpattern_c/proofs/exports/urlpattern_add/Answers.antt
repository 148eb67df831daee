use Rattle.std.proofs.Common.{subst, sym}
use Rattle.urlpattern_c.specs.Handles.{patterns_in}
use Rattle.urlpattern_ffi.specs.Calls.{IsAdded}
use Rattle.urlpattern_ffi.specs.KeptPatterns.{PatternList, boxed_patterns}
use Rattle.urlpattern_c.proofs.exports.urlpattern_add.Goals as goal

pub returns : goal.returns
returns c =
    let Adds = λ (old new : PatternList). IsAdded old c.args.text.now c.args.base.now c.args.ignore_case new c.add-status.result in
    let kept = boxed_patterns c.add-status.new.kept in
    let added = subst (λ old. Adds old kept) c.take-kept.ensures.taken c.add-status.ensures in
    (c.add-status.result, c.number.ensures, subst (Adds (patterns_in c.args.patterns.now)) (sym c.put.ensures) added)
