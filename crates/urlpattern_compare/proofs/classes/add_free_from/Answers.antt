use Rattle.std.proofs.Common.{arith}
use Rattle.urlpattern_compare.proofs.ExitClasses.{free_found_if, free_none}
use Rattle.urlpattern_compare.proofs.classes.add_free_from.Goals as goal

pub returns-in-Some-clause-free : goal.returns-in-Some-clause-free
returns-in-Some-clause-free c =
    free_found_if c.add_unless_last.result c.args.named.now _ c.args.code c.in-Some.c c.add_unless_last.ensures.added c.in-Some.ensures.some c.in-Some.ensures.from c.in-Some.ensures.least

pub returns-in-None-clause-free : goal.returns-in-None-clause-free
returns-in-None-clause-free c = free_none c.args.named.now c.args.classes.now.items c.args.code _ c.in-None.ensures.none (omega arith)
