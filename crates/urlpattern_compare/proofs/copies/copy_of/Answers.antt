use Rattle.urlpattern_compare.proofs.copies.copy_of.Goals as goal

pub returns : goal.returns
returns c = λ name. (c.in_ok-components.ensures.ok name).1
