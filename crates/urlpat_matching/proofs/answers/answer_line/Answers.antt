use Rattle.std.proofs.Common.{sym, subst, inl, inr, ◌∙◌}
use Rattle.std.specs.Str.{IsUtf8}
use Rattle.urlpat_matching.proofs.LineAnswerLemmas.{answers-none, answers-text}
use Rattle.urlpat_matching.proofs.answers.answer_line.Goals as goal

pub returns-then-line-gt-LONGEST : goal.returns-then-line-gt-LONGEST
returns-then-line-gt-LONGEST g c =
    answers-none (g.R.Rule.Answers c.args.rule.now) c.args.line.now c.args.written.now.items c.answer.new.written.items c.answer.result (inl c.if-line-gt-LONGEST.true) c.answer.ensures

pub returns-in-Ok : goal.returns-in-Ok
returns-in-Ok g c =
    answers-text (g.R.Rule.Answers c.args.rule.now) c.args.line.now c.in-Ok.text.now c.args.written.now.items c.answer-in-Ok.new.written.items c.answer-in-Ok.result
    c.if-line-gt-LONGEST.false (c.in-Ok.ensures.cases.0 ∙ c.without_end.ensures) (subst IsUtf8 (sym c.in-Ok.ensures.cases.0) c.in-Ok.ensures.cases.1) c.answer-in-Ok.ensures

pub returns-in-Err : goal.returns-in-Err
returns-in-Err g c =
    answers-none (g.R.Rule.Answers c.args.rule.now) c.args.line.now c.args.written.now.items c.answer-in-Err.new.written.items c.answer-in-Err.result
    (inr (subst (λ text. ¬ IsUtf8 text) c.without_end.ensures c.in-Err.ensures.cases.0)) c.answer-in-Err.ensures
