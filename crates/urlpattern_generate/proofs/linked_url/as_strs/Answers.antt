use Rattle.urlpattern_generate.proofs.linked_url.as_strs.Goals as goal

pub returns : goal.returns
returns c name = (c.from_fn.ensures name).1
