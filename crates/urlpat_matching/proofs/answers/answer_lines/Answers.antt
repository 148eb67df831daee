use Rattle.std.proofs.Common.{◌≡◌, ◌↔◌, ◌<◌, ◌+◌, ◌++◌, IsTrue, length, sym, ap, subst, ◌∙◌, arith}
use Rattle.std.specs.Io.BufRead.{drop_through, take_through}
use Rattle.std.specs.Io.KnownBytes.{Appends}
use Rattle.bstr.proofs.lemmas.RecordLemmas.{IfSome-weaker, IfSome-at}
use Rattle.urlpat_matching.proofs.LineAnswerLemmas.{Completes, answers-line, appends-both, completes-next, completes-none, no-more, selected-most}
use Rattle.urlpat_matching.specs.LineAnswers.{IsAnswerTo}
use Rattle.urlpat_matching.specs.LineLabels.{labelled}
use Rattle.urlpat_matching.specs.Lines.{IsLineKept}
use Rattle.urlpat_matching.proofs.answers.answer_lines.Goals as goal

pub returns-then-not-branch : goal.returns-then-not-branch
returns-then-not-branch g c =
    let Answers = g.R.Rule.Answers c.args.rule.now in
    let more = c.in_ok-read_line.field-0 in
    IfSome-weaker (g.In.Read.remaining c.args.input.now) _ _ (λ text inv.
    let says = IfSome-at (g.In.Read.remaining c.lines.input) inv.0 (λ rest. IsTrue more ↔ 0 < length rest) inv.2 c.in_ok-read_line.ensures.more in
    (inv.1, completes-none Answers c.args.style c.args.first text c.lines.number inv.0 _ inv.1 (no-more more (length inv.0) c.if-not-branch.true says) inv.4, inv.3))
    c.lines.invariant.1

pub lines-preserved : goal.lines-preserved
lines-preserved g c =
    let Answers = g.R.Rule.Answers c.args.rule.now in
    let more = c.in_ok-read_line.field-0 in
    let verdict = c.in_ok-verdict.verdict in
    let answer = c.in_ok-verdict.ensures in
    let line = c.read_line.new.line.items in
    let grown : c.answer_line.new.written.items ≡ answer.0 = answer.1 ∙ ap (λ old. old ++ answer.0) c.clear.ensures.items in (
      omega (arith, c.counted-tally.ensures, c.lines.invariant.0, selected-most verdict),
      IfSome-weaker (g.In.Read.remaining c.args.input.now) _ _ (λ text inv.
          let here = g.In.Read.remaining c.lines.input in
          let rest = inv.0 in
          let says = IfSome-at here rest (λ left. IsTrue more ↔ 0 < length left) inv.2 c.in_ok-read_line.ensures.more in
          let kept = IfSome-at here rest (λ left. IsLineKept line (take_through 10 left)) inv.2 c.in_ok-read_line.ensures.kept in
          let left = IfSome-at here rest _ inv.2 c.in_ok-read_line.ensures.rest in
          let is = answers-line Answers line (take_through 10 rest) verdict answer.0 kept (subst (λ l. IsAnswerTo Answers l verdict answer.0) c.deref.ensures.value answer.2) in
          let number = c.lines.number in
          let piece = subst (λ text. Appends (g.Out.Write.contents c.lines.out) (g.Out.Write.contents c.write_labelled.new.out) (labelled c.args.style number text)) (c.deref-in-lines.ensures.value ∙ grown) c.in_ok-write_labelled.ensures in
          let next = completes-next Answers c.args.style c.args.first text number rest c.lines.tally.selected inv.1 answer.0 verdict (says.0 c.if-not-branch.false) inv.4 is in (
            drop_through 10 rest,
            inv.1 ++ labelled c.args.style number answer.0,
            left,
            appends-both _ _ _ inv.1 (labelled c.args.style number answer.0) inv.3 piece,
            subst (λ selected. Completes Answers c.args.style c.args.first text (number + 1) (drop_through 10 rest) selected (inv.1 ++ labelled c.args.style number answer.0)) (sym c.counted-tally.ensures) next,
          ))
          c.lines.invariant.1,
    )
