use Rattle.urlpattern_differences.proofs.credentials.written_parts.Goals as goal

pub returns : goal.returns
returns c = λ name. (c.in_ok-components.ensures.ok name).1
