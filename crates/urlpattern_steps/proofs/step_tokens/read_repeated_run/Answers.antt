use Rattle.std.proofs.Common.{◌≡◌, ◌++◌, Some, None, codes}
use Rattle.std.specs.Str.{chars}
use Rattle.urlpattern_steps.specs.ReadSteps.{BeginsWithCaptured, group_quantifier_text}
use Rattle.urlpattern_steps.proofs.PrefixLemmas.{ReadsRun, captured_repeated, repeated_read, repeated_run_in, repeated_made}
use Rattle.urlpattern_steps.proofs.StepTokenLemmas.{repeated_run}
use Rattle.urlpattern_steps.proofs.step_tokens.read_repeated_run.Goals as goal
use Rattle.urlpattern_steps.proofs.step_tokens.read_repeated_run.Goals.{In_ok-after-2, In_ok-single}

pub returns-clause-step : goal.returns-clause-step
returns-clause-step c =
    let single : BeginsWithCaptured (chars c.in_ok-after-2.field-0.now) c.in_ok-single.single (chars c.in_ok-single.rest.now) = rw (c.in_ok-single.single-is, c.in_ok-single.rest-is) c.in_ok-single.ensures.step in
    repeated_run (chars c.args.text.now) (chars c.in_ok-after.field-0.now) (chars c.in_ok-after-2.field-0.now) (chars c.in_ok-single.rest.now) (chars c.in_ok-after-3.field-0.now)
    (chars c.read_group_quantifier-times.result.1.now) c.in_ok-single.single c.in_ok-repeated_run.field-0 c.read_group_quantifier-times.result.0 c.in_ok-after.ensures.cut c.in_ok-after-2.ensures.cut single
    c.in_ok-after-3.ensures.cut c.read_group_quantifier-times.ensures.times c.in_ok-repeated_run.ensures.step

-- The body of the group begins after `?:`.
opened : (c : In_ok-after-2) → chars c.args.text.now ≡ codes "?:" ++ chars c.in_ok-after-2.field-0.now
opened c =
    let asked = c.in_ok-after.ensures.cut in
    let colon = c.in_ok-after-2.ensures.cut in
    cc

-- The run is read.
run_read : (c : In_ok-single) → ReadsRun (chars c.in_ok-after-2.field-0.now) c.in_ok-single.single (chars c.in_ok-single.rest.now)
run_read c = rw (c.in_ok-single.single-is, c.in_ok-single.rest-is) c.in_ok-single.ensures.reads

pub returns-in_err-single-clause-reads : goal.returns-in_err-single-clause-reads
returns-in_err-single-clause-reads c = λ step rest begins.
    let text = chars c.args.text.now in
    let cut = opened ((goal.at.returns-in_err-single-clause-reads c).In_ok-after-2) in
    let repeated = captured_repeated step text rest begins in
    absurd (c.in_err-single.ensures.reads repeated.end repeated.is_greedy repeated.run (codes ")" ++ (group_quantifier_text repeated.times ++ rest)) repeated.is_run
    (repeated_run_in step text rest (chars c.in_ok-after-2.field-0.now) repeated cut))

pub returns-in_err-after-3-clause-reads : goal.returns-in_err-after-3-clause-reads
returns-in_err-after-3-clause-reads c = λ step rest begins.
    let at = goal.at.returns-in_err-after-3-clause-reads c in
    let text = chars c.args.text.now in
    let repeated = captured_repeated step text rest begins in
    let found = repeated_read step text rest (chars c.in_ok-after-2.field-0.now) repeated c.in_ok-single.single (chars c.in_ok-single.rest.now) (opened at.In_ok-after-2) (run_read at.In_ok-single) in
    absurd (c.in_err-after-3.ensures.other (group_quantifier_text repeated.times ++ rest) found.1)

pub returns-in_err-repeated_run-clause-reads : goal.returns-in_err-repeated_run-clause-reads
returns-in_err-repeated_run-clause-reads c = λ step rest begins.
    let at = goal.at.returns-in_err-repeated_run-clause-reads c in
    let read = repeated_made step (chars c.args.text.now) rest (chars c.in_ok-after-2.field-0.now) c.in_ok-single.single (chars c.in_ok-single.rest.now) (chars c.in_ok-after-3.field-0.now)
    (chars c.read_group_quantifier-times.result.1.now) c.read_group_quantifier-times.result.0 None begins (opened at.In_ok-after-2) (run_read at.In_ok-single)
    c.in_ok-after-3.ensures.cut c.read_group_quantifier-times.ensures.times c.read_group_quantifier-times.ensures.longest c.in_err-repeated_run.ensures.reads in
    cc read.0

pub returns-clause-reads : goal.returns-clause-reads
returns-clause-reads c = λ step rest begins.
    let at = goal.at.returns-clause-reads c in
    let read = repeated_made step (chars c.args.text.now) rest (chars c.in_ok-after-2.field-0.now) c.in_ok-single.single (chars c.in_ok-single.rest.now) (chars c.in_ok-after-3.field-0.now)
    (chars c.read_group_quantifier-times.result.1.now) c.read_group_quantifier-times.result.0 (Some c.in_ok-repeated_run.field-0) begins (opened at.In_ok-after-2) (run_read at.In_ok-single)
    c.in_ok-after-3.ensures.cut c.read_group_quantifier-times.ensures.times c.read_group_quantifier-times.ensures.longest c.in_ok-repeated_run.ensures.reads in
    let made : Some c.in_ok-repeated_run.field-0 ≡ Some step = read.0 in
    let same : c.in_ok-repeated_run.field-0 ≡ step = cc in
    (same, read.1)
