use Rattle.std.specs.Str.{chars}
use Rattle.urlpattern_steps.proofs.PrefixLemmas.{captured_run}
use Rattle.urlpattern_steps.proofs.step_tokens.read_captured.Goals as goal

pub returns-in-None-clause-reads : goal.returns-in-None-clause-reads
returns-in-None-clause-reads c = λ step rest begins.
    let run = captured_run step (chars c.args.text.now) rest c.in-None.ensures.other begins in
    c.read_run.ensures.reads run.0 run.1 step rest run.2 begins
