use Rattle.urlpattern_compare.proofs.AnswerLemmas.{in_some}
use Rattle.urlpattern_compare.proofs.coverage.find_known.Goals as goal
use Rattle.urlpattern_compare.specs.Answers.{IsSoughtOf}

pub returns-in-Some : goal.returns-in-Some
returns-in-Some c =
    in_some (IsSoughtOf c.args.options.now c.args.parts.now c.args.other_options.now c.args.others.now c.args.is_meant) c.in_ok-answer.field-0 c.in-Some.answer c.in-Some.is c.in_ok-answer.ensures
