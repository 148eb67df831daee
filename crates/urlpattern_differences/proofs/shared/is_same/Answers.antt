use Rattle.urlpattern_differences.proofs.SharedLemmas.{alike_if}
use Rattle.urlpattern_differences.proofs.shared.is_same.Goals as goal

pub returns : goal.returns
returns c = alike_if c.keeps_case.result c.args.parts.now c.args.others.now (c.is_same.ensures.0 c.if-not-is_same.false) c.keeps_case.ensures
