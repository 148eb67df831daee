use Rattle.urlpat_explain.proofs.given_init.no_places.Goals as goal

pub returns : goal.returns
returns c = λ name. (c.from_fn.ensures name).1
