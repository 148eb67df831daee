use mathlib.Core.Bool.{beq}
use Rattle.std.proofs.lemmas.Bool.{false≢true, true≢false}
use Rattle.std.proofs.Common.{◌≡◌, ◌++◌, Bool, true, false, not, codes}
use Rattle.std.specs.Str.{chars}
use Rattle.urlpattern_steps.proofs.PrefixLemmas.{ReadsRun, run_step, run_step_is}
use Rattle.urlpattern_steps.proofs.SegmentTextLemmas.{cut_read, last_run, last_read}
use Rattle.urlpattern_steps.proofs.reading.read_last_segment.Goals as goal
use Rattle.urlpattern_steps.proofs.reading.read_last_segment.Goals.{then-other-end-via-then-other-end, then-other-end-via-else-other-end+then-is_other_greedy-is_greedy}

not_other : (a b : Bool) → a ≡ b → ¬ (not (beq a b) ≡ true)
not_other true true e h = false≢true h
not_other false false e h = false≢true h
not_other true false e h = true≢false e
not_other false true e h = false≢true e

pub returns-in_err-single-clause-reads : goal.returns-in_err-single-clause-reads
returns-in_err-single-clause-reads c = λ items rest are is e.
    let end = c.args.end in
    let is_greedy = c.args.is_greedy in
    let run = last_run end is_greedy items (chars c.args.text.now) (chars c.in_ok-after_open.field-0.now) rest are is e c.in_ok-after_open.ensures.cut in
    absurd (c.in_err-single.ensures.reads end is_greedy (run_step end is_greedy) (codes "))*)" ++ rest) (run_step_is end is_greedy items is).0 run)

pub returns-in_err-other-clause-reads : goal.returns-in_err-other-clause-reads
returns-in_err-other-clause-reads c = λ items rest are is e.
    let end = c.args.end in
    let is_greedy = c.args.is_greedy in
    let inner = chars c.in_ok-after_open.field-0.now in
    let reads : ReadsRun inner c.in_ok-single.single (chars c.in_ok-single.rest.now) = rw (c.in_ok-single.single-is, c.in_ok-single.rest-is) c.in_ok-single.ensures.reads in
    let last = last_read end is_greedy items (chars c.args.text.now) inner rest c.in_ok-single.single (chars c.in_ok-single.rest.now) are is e c.in_ok-after_open.ensures.cut reads in
    absurd (c.in_err-other.ensures.reads end is_greedy last.0)

pub returns-then-other-end-clause-reads : goal.returns-then-other-end-clause-reads
returns-then-other-end-clause-reads c = λ items rest are is e.
    let end = c.args.end in
    let is_greedy = c.args.is_greedy in
    let inner = chars c.in_ok-after_open.field-0.now in
    let reads : ReadsRun inner c.in_ok-single.single (chars c.in_ok-single.rest.now) = rw (c.in_ok-single.single-is, c.in_ok-single.rest-is) c.in_ok-single.ensures.reads in
    let last = last_read end is_greedy items (chars c.args.text.now) inner rest c.in_ok-single.single (chars c.in_ok-single.rest.now) are is e c.in_ok-after_open.ensures.cut reads in
    let other : (c.in_ok-other.other ≡ end) × (c.in_ok-other.is_other_greedy ≡ is_greedy) = c.in_ok-other.ensures.reads end is_greedy last.0 in
    elim c.then-other-end.branch [
      | then-other-end-via-then-other-end w ↦ w.if-other-end.true other.0
      | then-other-end-via-else-other-end+then-is_other_greedy-is_greedy w ↦ not_other c.in_ok-other.is_other_greedy is_greedy other.1 w.if-is_other_greedy-is_greedy.true
    ]

pub returns-clause-reads : goal.returns-clause-reads
returns-clause-reads c = λ items rest are is e.
    let end = c.args.end in
    let is_greedy = c.args.is_greedy in
    let inner = chars c.in_ok-after_open.field-0.now in
    let reads : ReadsRun inner c.in_ok-single.single (chars c.in_ok-single.rest.now) = rw (c.in_ok-single.single-is, c.in_ok-single.rest-is) c.in_ok-single.ensures.reads in
    let last = last_read end is_greedy items (chars c.args.text.now) inner rest c.in_ok-single.single (chars c.in_ok-single.rest.now) are is e c.in_ok-after_open.ensures.cut reads in
    cut_read c.after_segments.result (codes "))*)") (chars c.in_ok-single.rest.now) rest c.after_segments.ensures.cut c.after_segments.ensures.other last.1
