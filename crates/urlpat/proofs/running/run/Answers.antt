use Rattle.std.proofs.Common.{ap, inl, inr}
use Rattle.urlpat.proofs.running.run.Goals as goal

pub returns-in-Component-clause-answers : goal.returns-in-Component-clause-answers
returns-in-Component-clause-answers g c = λ answered.
    rw c.in-Component.is (
      elim c.print_component.ensures.status [
        | inl done ↦ done
        | inr failed ↦ absurd (answered failed)
      ],
      c.print_component.ensures.answers answered,
    )

pub returns-in-Link-clause-answers : goal.returns-in-Link-clause-answers
returns-in-Link-clause-answers g c = λ answered.
    rw c.in-Link.is (elim c.link.ensures.status [
      | inl done ↦ inl (done, c.link.ensures.written done)
      | inr other ↦ elim other [
        | inl none ↦
            let refused = c.link.ensures.refused none in
            inr (none, refused.0, ap g.Out.Write.contents refused.1)
        | inr failed ↦ absurd (answered failed)
      ]
    ])

pub returns-in-Link-clause-quiet : goal.returns-in-Link-clause-quiet
returns-in-Link-clause-quiet g c = λ answered.
    rw c.in-Link.is (elim c.link.ensures.status [
      | inl done ↦ inl (c.link.ensures.quiet done)
      | inr other ↦ elim other [
        | inl none ↦ inr (c.link.ensures.refused none).0
        | inr failed ↦ absurd (answered failed)
      ]
    ])
