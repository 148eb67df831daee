use Rattle.urlpat_policies.proofs.running.run_on_policies.Goals as goal

pub returns-in-Diff-clause-answers : goal.returns-in-Diff-clause-answers
returns-in-Diff-clause-answers g c = λ answered. rw c.in-Diff.is (c.diff.ensures.answers answered)
