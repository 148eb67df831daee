use Rattle.std.proofs.Common.{codes, slice_index, arith}
use Rattle.std.proofs.lemmas.Grind.{common_steps}
use Rattle.urlpattern_canonical.proofs.CanonicalLemmas.{begins_with-chars}
use Rattle.urlpattern_canonical.proofs.bracket.begins_with_bracket.Goals as goal

pub returns-in-91 : goal.returns-in-91
returns-in-91 c =
    let same = begins_with-chars (slice_index (codes "[") 0) c.args.text.now (omega arith) (omega arith) c.utf8.text in grind (arith, same)

pub returns-in_default : goal.returns-in_default
returns-in_default c =
    let same = begins_with-chars (slice_index (codes "[") 0) c.args.text.now (omega arith) (omega arith) c.utf8.text in
    grind (arith, common_steps, same)

pub returns-in_default-2 : goal.returns-in_default-2
returns-in_default-2 c =
    let same = begins_with-chars (slice_index (codes "[") 0) c.args.text.now (omega arith) (omega arith) c.utf8.text in
    grind (arith, common_steps, same)
