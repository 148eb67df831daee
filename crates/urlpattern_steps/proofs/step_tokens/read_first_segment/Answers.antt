use Rattle.std.proofs.Common.{◌≡◌, ◌++◌, codes, ap₂}
use Rattle.std.specs.Str.{chars}
use Rattle.urlpattern_steps.specs.declared.step_tokens.StepToken.TheVariants.{FirstSegment}
use Rattle.urlpattern_steps.specs.ReadSteps.{BeginsWithCaptured}
use Rattle.urlpattern_steps.proofs.PrefixLemmas.{ReadsRun, repeated_no_segments, segments_read, segments_run}
use Rattle.urlpattern_steps.proofs.StepTokenLemmas.{first_segment-begins}
use Rattle.urlpattern_steps.proofs.step_tokens.read_first_segment.Goals as goal

pub returns-clause-token : goal.returns-clause-token
returns-clause-token c =
    let run_text = chars c.in_ok-after_open.field-0.now in
    let single : BeginsWithCaptured run_text c.in_ok-single.single (chars c.in_ok-single.rest.now) = rw (c.in_ok-single.single-is, c.in_ok-single.rest-is) c.in_ok-single.ensures.step in
    first_segment-begins (chars c.args.text.now) run_text (chars c.in_ok-single.rest.now) (chars c.in_ok-after.field-0.now) (chars c.in_ok-rest.rest.now) c.in_ok-single.single c.in_ok-end.end c.in_ok-end.is_greedy
    c.in_ok-after_open.ensures.cut single c.in_ok-after.ensures.cut c.in_ok-rest.ensures.cut c.in_ok-end.ensures.run

pub returns-in_err-single-clause-reads : goal.returns-in_err-single-clause-reads
returns-in_err-single-clause-reads c = λ end is_greedy rest begins.
    let run = segments_run end is_greedy (chars c.args.text.now) rest (chars c.in_ok-after_open.field-0.now) begins c.in_ok-after_open.ensures.cut in
    absurd (c.in_err-single.ensures.reads end is_greedy run.0 (codes ")(?:" ++ rest) run.1 run.2)

pub returns-in_err-after-clause-reads : goal.returns-in_err-after-clause-reads
returns-in_err-after-clause-reads c = λ end is_greedy rest begins.
    let reads : ReadsRun (chars c.in_ok-after_open.field-0.now) c.in_ok-single.single (chars c.in_ok-single.rest.now) = rw (c.in_ok-single.single-is, c.in_ok-single.rest-is) c.in_ok-single.ensures.reads in
    let found = segments_read end is_greedy (chars c.args.text.now) rest (chars c.in_ok-after_open.field-0.now) c.in_ok-single.single (chars c.in_ok-single.rest.now) begins c.in_ok-after_open.ensures.cut reads in
    absurd (c.in_err-after.ensures.other (codes "(?:" ++ rest) found.1)

pub returns-in_err-rest-clause-reads : goal.returns-in_err-rest-clause-reads
returns-in_err-rest-clause-reads c = λ end is_greedy rest begins.
    let reads : ReadsRun (chars c.in_ok-after_open.field-0.now) c.in_ok-single.single (chars c.in_ok-single.rest.now) = rw (c.in_ok-single.single-is, c.in_ok-single.rest-is) c.in_ok-single.ensures.reads in
    let found = segments_read end is_greedy (chars c.args.text.now) rest (chars c.in_ok-after_open.field-0.now) c.in_ok-single.single (chars c.in_ok-single.rest.now) begins c.in_ok-after_open.ensures.cut reads in
    let behind : chars c.in_ok-single.rest.now ≡ codes ")(?:" ++ rest = found.1 in
    let cut : chars c.in_ok-single.rest.now ≡ codes ")" ++ chars c.in_ok-after.field-0.now = c.in_ok-after.ensures.cut in
    let left : chars c.in_ok-after.field-0.now ≡ codes "(?:" ++ rest = cc in
    absurd (c.in_err-rest.ensures.other rest left)

pub returns-in_err-end-clause-reads : goal.returns-in_err-end-clause-reads
returns-in_err-end-clause-reads c = λ end is_greedy rest begins.
    let reads : ReadsRun (chars c.in_ok-after_open.field-0.now) c.in_ok-single.single (chars c.in_ok-single.rest.now) = rw (c.in_ok-single.single-is, c.in_ok-single.rest-is) c.in_ok-single.ensures.reads in
    let found = segments_read end is_greedy (chars c.args.text.now) rest (chars c.in_ok-after_open.field-0.now) c.in_ok-single.single (chars c.in_ok-single.rest.now) begins c.in_ok-after_open.ensures.cut reads in
    absurd (c.in_err-end.ensures.reads end is_greedy found.0)

pub returns-clause-reads : goal.returns-clause-reads
returns-clause-reads c = λ end is_greedy rest begins.
    let reads : ReadsRun (chars c.in_ok-after_open.field-0.now) c.in_ok-single.single (chars c.in_ok-single.rest.now) = rw (c.in_ok-single.single-is, c.in_ok-single.rest-is) c.in_ok-single.ensures.reads in
    let found = segments_read end is_greedy (chars c.args.text.now) rest (chars c.in_ok-after_open.field-0.now) c.in_ok-single.single (chars c.in_ok-single.rest.now) begins c.in_ok-after_open.ensures.cut reads in
    let behind : chars c.in_ok-single.rest.now ≡ codes ")(?:" ++ rest = found.1 in
    let cut : chars c.in_ok-single.rest.now ≡ codes ")" ++ chars c.in_ok-after.field-0.now = c.in_ok-after.ensures.cut in
    let opened : chars c.in_ok-after.field-0.now ≡ codes "(?:" ++ chars c.in_ok-rest.rest.now = c.in_ok-rest.ensures.cut in
    let run : (c.in_ok-end.end ≡ end) × (c.in_ok-end.is_greedy ≡ is_greedy) = c.in_ok-end.ensures.reads end is_greedy found.0 in
    (ap₂ FirstSegment run.0 run.1, cc)

pub returns-clause-other : goal.returns-clause-other
returns-clause-other c = λ step rest begins.
    let reads : ReadsRun (chars c.in_ok-after_open.field-0.now) c.in_ok-single.single (chars c.in_ok-single.rest.now) = rw (c.in_ok-single.single-is, c.in_ok-single.rest-is) c.in_ok-single.ensures.reads in
    absurd (repeated_no_segments step (chars c.args.text.now) rest (chars c.in_ok-after_open.field-0.now) c.in_ok-single.single (chars c.in_ok-single.rest.now) (chars c.in_ok-after.field-0.now) (chars c.in_ok-rest.rest.now)
    begins c.in_ok-after_open.ensures.cut reads c.in_ok-after.ensures.cut c.in_ok-rest.ensures.cut)
