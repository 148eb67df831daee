use Rattle.std.proofs.Common.{arith, sym, ◌∙◌}
use Rattle.std.specs.Str.{chars}
use Rattle.urlpattern_generate.proofs.GivenLemmas.{given_here, given_later, given_never}
use Rattle.urlpattern_generate.proofs.given_groups.given_text.Goals as goal

pub returns-then-is_given_for : goal.returns-then-is_given_for
returns-then-is_given_for c =
    sym (given_here c.args.groups.now c.loop-given.given-index _ c.args.component (chars c.args.name.now) c.loop-given-test.true (sym c.is_given_for.ensures ∙ c.if-is_given_for.true))
    ∙ c.loop-given.invariant

pub loop-given-preserved : goal.loop-given-preserved
loop-given-preserved c =
    given_later c.args.groups.now c.loop-given.given-index _ c.args.component (chars c.args.name.now) c.loop-given-test.true (sym c.is_given_for.ensures ∙ c.if-is_given_for.false)
    ∙ c.loop-given.invariant

pub returns : goal.returns
returns c = sym (given_never c.args.groups.now c.loop-given.given-index c.args.component (chars c.args.name.now) (omega arith)) ∙ c.loop-given.invariant
