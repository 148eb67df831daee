use Rattle.urlpat_routes.proofs.running.run_on_routes.Goals as goal

pub returns-in-Check-clause-answers : goal.returns-in-Check-clause-answers
returns-in-Check-clause-answers g c = λ answered. rw c.in-Check.is (c.check.ensures.answers answered)

pub returns-in-Decide-clause-answers : goal.returns-in-Decide-clause-answers
returns-in-Decide-clause-answers g c = λ answered. rw c.in-Decide.is (c.decide.ensures.answers answered)

pub returns-in-Diff-clause-answers : goal.returns-in-Diff-clause-answers
returns-in-Diff-clause-answers g c = λ answered. rw c.in-Diff.is (c.diff.ensures.answers answered)
