use Rattle.std.proofs.Common.{subst, sym}
use Rattle.urlpattern_c.specs.Handles.{patterns_in}
use Rattle.urlpattern_ffi.specs.Inits.{IsInitAdded}
use Rattle.urlpattern_ffi.specs.KeptPatterns.{PatternList, boxed_patterns}
use Rattle.urlpattern_c.proofs.exports.urlpattern_add_init.Goals as goal

pub returns : goal.returns
returns c =
    let Adds = λ (old new : PatternList). IsInitAdded old c.args.json.now c.args.ignore_case new c.add_init-status.result in
    let kept = boxed_patterns c.add_init-status.new.kept in
    let added = subst (λ old. Adds old kept) c.take-kept.ensures.taken c.add_init-status.ensures in
    (c.add_init-status.result, c.number.ensures, subst (Adds (patterns_in c.args.patterns.now)) (sym c.put.ensures) added)
