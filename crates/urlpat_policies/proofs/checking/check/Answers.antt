use Rattle.std.proofs.Common.{inl, inr, refl}
use Rattle.urlpat_policies.proofs.checking.check.Goals as goal

pub returns-in-Ok-clause-answers : goal.returns-in-Ok-clause-answers
returns-in-Ok-clause-answers g c = λ answered. inl (refl, refl, (c.in-Ok.policy, c.in-Ok.ensures.policy))

pub returns-in-Err-clause-answers : goal.returns-in-Err-clause-answers
returns-in-Err-clause-answers g c = λ answered. elim c.print_refusal-status.ensures.either [
  | inl none ↦ inr (none, (c.in-Err.refusal, c.in-Err.ensures.refused, c.print_refusal-status.ensures.answers answered))
  | inr failed ↦ absurd (answered failed)
]
