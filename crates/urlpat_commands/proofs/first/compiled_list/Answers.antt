use Rattle.std.proofs.lemmas.Result.{err_from_is_err_and}
use Rattle.std.specs.Prelude.{option_copied}
use Rattle.urlpat_commands.proofs.FirstCommandLemmas.{patterns-more, refuses-one}
use Rattle.urlpat_commands.proofs.first.compiled_list.Goals as goal

pub returns-in_err-pattern-clause-refused : goal.returns-in_err-pattern-clause-refused
returns-in_err-pattern-clause-refused c =
    let p = err_from_is_err_and c.from_residual.result c.from_residual.ensures.1 in
    rw (p.1, p.2) (refuses-one c.args.ignore_case (option_copied c.args.base) c.args.patterns.now c.loop-pattern.pattern-index _ c.loop-pattern-test.true
    c.loop-pattern.list _ c.loop-pattern.invariant c.in_err-pattern.ensures.refused)

pub loop-pattern-preserved : goal.loop-pattern-preserved
loop-pattern-preserved c =
    patterns-more c.args.ignore_case (option_copied c.args.base) c.args.patterns.now c.loop-pattern.pattern-index _ c.loop-pattern-test.true
    c.loop-pattern.list c.push.new.self c.in_ok-pattern.pattern c.in_default.ensures.appended c.loop-pattern.invariant c.in_ok-pattern.ensures.compiled
