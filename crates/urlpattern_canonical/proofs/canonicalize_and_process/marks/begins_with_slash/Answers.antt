use Rattle.std.proofs.Common.{arith}
use Rattle.std.proofs.lemmas.Grind.{common_steps}
use Rattle.url.specs.Ascii.{slash}
use Rattle.urlpattern_canonical.proofs.CanonicalLemmas.{begins_with-chars}
use Rattle.urlpattern_canonical.proofs.canonicalize_and_process.marks.begins_with_slash.Goals as goal

pub returns-in-47-clause-text : goal.returns-in-47-clause-text
returns-in-47-clause-text c =
    let same = begins_with-chars slash c.args.text.now (omega arith) (omega arith) c.utf8.text in grind (arith, same)

pub returns-in_default-clause-text : goal.returns-in_default-clause-text
returns-in_default-clause-text c =
    let same = begins_with-chars slash c.args.text.now (omega arith) (omega arith) c.utf8.text in
    grind (arith, common_steps, same)

pub returns-in_default-2-clause-text : goal.returns-in_default-2-clause-text
returns-in_default-2-clause-text c =
    let same = begins_with-chars slash c.args.text.now (omega arith) (omega arith) c.utf8.text in
    grind (arith, common_steps, same)
