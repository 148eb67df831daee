use Rattle.std.proofs.Common.{arith, rules}
use Rattle.urlpattern_ffi_links.proofs.GivenByteLemmas.{given_all, given_more, nothing_given}
use Rattle.urlpattern_ffi_links.proofs.given.groups_of.Goals as goal

pub returns-in-None-clause-refused : goal.returns-in-None-clause-refused
returns-in-None-clause-refused c =
    search (rules, nothing_given c.args.text.now c.args.given.now c.loop-part.part-index _ c.loop-part-test.true c.in-None.ensures.nothing)

pub loop-part-preserved : goal.loop-part-preserved
loop-part-preserved c =
    given_more c.args.text.now c.args.given.now c.loop-part.part-index _ c.loop-part.groups.items _ c.in-Some.group c.loop-part-test.true
    (search rules) c.in-Some.ensures.group c.loop-part.invariant

pub returns-clause-groups : goal.returns-clause-groups
returns-clause-groups c = given_all c.args.text.now c.args.given.now c.loop-part.part-index c.loop-part.groups.items (omega arith) c.loop-part.invariant
