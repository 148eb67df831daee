use Rattle.std.specs.Prelude.{IsTrue, not, ◌↔◌}
use Rattle.std.proofs.Common.{subst, sym}
use Rattle.std.specs.Str.{chars}
use Rattle.urlpattern_generate.proofs.GroupLemmas.{long_enough}
use Rattle.urlpattern_generate.proofs.group_copies.CopyTexts.is_long_enough.Goals as goal
use Rattle.urlpattern_meaning.specs.Matching.{MayBeEmpty}

pub returns-else-self : goal.returns-else-self
returns-else-self c =
    subst (λ b. IsTrue (not b) ↔ MayBeEmpty c.args.self.may_be_empty (chars c.args.text.now)) (sym c.is_empty.ensures)
    (long_enough c.args.self.may_be_empty c.args.text.now c.utf8.text c.if-self.false)
