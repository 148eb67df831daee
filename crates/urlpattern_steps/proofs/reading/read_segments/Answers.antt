use Rattle.std.proofs.Common.{rules, ◌∙◌, ◌++◌, codes}
use Rattle.urlpattern_meaning.specs.Dialect.{items_text}
use Rattle.std.specs.Str.{chars}
use Rattle.urlpattern_steps.proofs.SegmentTextLemmas.{left-ended, left-more, read-ends, read-more, steps_between}
use Rattle.urlpattern_steps.proofs.reading.read_segments.Goals as goal

pub loop-c-preserved : goal.loop-c-preserved
loop-c-preserved c = record {
  is_text = search rules;
  so_far = read-more c.args.steps.now.items c.loop-c.steps.items c.push.new.self.items (chars c.args.text.now) (chars c.loop-c.rest.now) (chars c.in-Some.remaining.now) c.in-Some.c
      c.loop-c.invariant.so_far c.in-Some.ensures.character c.in_ok-push.ensures.items;
  to_read = left-more c.args.steps.now.items c.loop-c.steps.items c.push.new.self.items (chars c.args.text.now) (chars c.loop-c.rest.now) (chars c.in-Some.remaining.now) c.in-Some.c
      c.loop-c.invariant.to_read c.in-Some.ensures.character c.in-Some.ensures.reads c.in_ok-push.ensures.items;
  shorter = search rules;
}

pub returns-clause-read : goal.returns-clause-read
returns-clause-read c =
    read-ends c.args.steps.now.items c.loop-c.steps.items c.deref.result.now c.len-first.result c.args.end c.args.is_greedy c.in-Some-literal_string_of.separator (chars c.args.text.now) (chars c.loop-c.rest.now)
    (chars c.in-Some-read_last_segment.remaining.now) c.loop-c.invariant.so_far (c.len-first.ensures ∙ c.args.steps.now.ok.0) c.deref.ensures.value c.in-Some-literal_string_of.ensures.text
    c.in-Some-read_last_segment.ensures.cut

pub returns-in_default-read_last_segment-clause-reads :
    goal.returns-in_default-read_last_segment-clause-reads
returns-in_default-read_last_segment-clause-reads c = λ own rest ends.
    let ended = left-ended c.args.steps.now.items c.loop-c.steps.items (chars c.args.text.now) (chars c.loop-c.rest.now) c.loop-c.invariant.to_read c.in_default.ensures.reads
    ends.0 (codes "?:" ++ (items_text ends.1 ++ (codes "))*)" ++ rest))) ends.2 ends.6 in
    c.in_default-read_last_segment.ensures.reads ends.1 rest ends.3 ends.4 ended.0

pub returns-in_default-literal_string_of-clause-reads :
    goal.returns-in_default-literal_string_of-clause-reads
returns-in_default-literal_string_of-clause-reads c = λ own rest ends.
    let ended = left-ended c.args.steps.now.items c.loop-c.steps.items (chars c.args.text.now) (chars c.loop-c.rest.now) c.loop-c.invariant.to_read c.in_default.ensures.reads
    ends.0 (codes "?:" ++ (items_text ends.1 ++ (codes "))*)" ++ rest))) ends.2 ends.6 in
    let between = steps_between c.args.steps.now.items c.loop-c.steps.items c.deref.result.now c.len-first.result c.args.end c.args.is_greedy ends.0 own ended.1
    (c.len-first.ensures ∙ c.args.steps.now.ok.0) c.deref.ensures.value ends.5 in
    c.in_default-literal_string_of.ensures.other between.0 between.1 between.2 between.3

pub returns-clause-reads : goal.returns-clause-reads
returns-clause-reads c = λ own rest ends.
    let ended = left-ended c.args.steps.now.items c.loop-c.steps.items (chars c.args.text.now) (chars c.loop-c.rest.now) c.loop-c.invariant.to_read c.in_default.ensures.reads
    ends.0 (codes "?:" ++ (items_text ends.1 ++ (codes "))*)" ++ rest))) ends.2 ends.6 in
    c.in-Some-read_last_segment.ensures.reads ends.1 rest ends.3 ends.4 ended.0
