use Rattle.std.proofs.Common.{◌∷◌, ◌++◌, [], rules, codes}
use Rattle.std.specs.Str.{chars}
use Rattle.urlpattern_syntax.proofs.Escaped.{escaped-at_mark, escapes_from_start, escapes_mark, escapes_other}
use Rattle.urlpattern_syntax.specs.RegexpText.{escaped}
use Rattle.urlpattern_syntax.specs.Writing.{marks_of}
use Rattle.urlpattern_syntax.proofs.escape.Marks.write_escaped.Goals as goal

pub loop-first-init : goal.loop-first-init
loop-first-init g c = record {
  unwritten_is_text = search rules;
  rest_is_text = search rules;
  escapes = ([], escapes_from_start (marks_of c.args.self) (chars c.args.text.now), g.met.W.Writer.writes_nothing c.args.writer.now);
}

pub write_str-requires : goal.write_str-requires
write_str-requires g c =
    let marks = marks_of c.args.self in
    let so_far = c.loop-first.invariant.escapes in
    let run = chars c.before-then-contain.result.now in
    let more = codes "\\" ++ (c.in-Some.first ∷ escaped marks (chars c.in-Some.after.now)) in
    let all = escaped-at_mark marks _ _ _ so_far.0 (chars c.in-Some.after.now) run c.in-Some.first so_far.1 c.in-Some.ensures.cut c.if-contain.ensures c.before-then-contain.ensures in
    g.met.W.Writer.fits_front c.loop-first.writer run more (g.met.W.Writer.fits_rest c.args.writer.now c.loop-first.writer so_far.0 (run ++ more) (rw all at c.requires) so_far.2)

pub write_char-requires : goal.write_char-requires
write_char-requires g c =
    let marks = marks_of c.args.self in
    let so_far = c.loop-first.invariant.escapes in
    let run = chars c.before-then-contain.result.now in
    let last = c.in-Some.first ∷ escaped marks (chars c.in-Some.after.now) in
    let all = escaped-at_mark marks _ _ _ so_far.0 (chars c.in-Some.after.now) run c.in-Some.first so_far.1 c.in-Some.ensures.cut c.if-contain.ensures c.before-then-contain.ensures in
    let fits = g.met.W.Writer.fits_rest c.args.writer.now c.loop-first.writer so_far.0 (run ++ (codes "\\" ++ last)) (rw all at c.requires) so_far.2 in
    g.met.W.Writer.fits_front c.write_str.new.self (codes "\\") last (g.met.W.Writer.fits_rest c.loop-first.writer c.write_str.new.self run (codes "\\" ++ last) fits c.write_str.ensures)

pub loop-first-preserved-then-contain : goal.loop-first-preserved-then-contain
loop-first-preserved-then-contain g c =
    let so_far = c.loop-first.invariant.escapes in
    let run = chars c.before-then-contain.result.now in
    let front = g.met.W.Writer.writes_both c.args.writer.now c.loop-first.writer c.write_str.new.self so_far.0 run so_far.2 c.write_str.ensures in
    record {
      unwritten_is_text = search rules;
      rest_is_text = search rules;
      escapes = (
        (so_far.0 ++ run) ++ codes "\\",
        escapes_mark (marks_of c.args.self) _ _ _ so_far.0 (chars c.in-Some.after.now) run c.in-Some.first so_far.1 c.in-Some.ensures.cut c.if-contain.ensures c.before-then-contain.ensures,
        g.met.W.Writer.writes_both c.args.writer.now c.write_str.new.self c.write_char.new.self (so_far.0 ++ run) (codes "\\") front c.write_char.ensures,
      );
    }

pub loop-first-preserved : goal.loop-first-preserved
loop-first-preserved g c =
    let so_far = c.loop-first.invariant.escapes in
    record {
      unwritten_is_text = search rules;
      rest_is_text = search rules;
      escapes = (so_far.0, escapes_other (marks_of c.args.self) _ _ _ so_far.0 (chars c.in-Some.after.now) c.in-Some.first so_far.1 c.in-Some.ensures.cut c.if-contain.ensures, so_far.2);
    }
