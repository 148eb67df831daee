use Rattle.std.proofs.Common.{sym, ◌∙◌}
use Rattle.urlpat_explain.specs.ComponentPlaces.{text_place, text_places}
use Rattle.urlpattern_components.proofs.EightLemmas.{at-each, same_values}
use Rattle.urlpattern_components.specs.Eight.{at}
use Rattle.urlpattern_init.specs.Inheritance.{values_view}
use Rattle.urlpat_explain.proofs.explained.text_places.Goals as goal

pub returns : goal.returns
returns c =
    let given = values_view c.args.init.now in
    let starts = c.args.starts.now in
    same_values c.from_fn.result (text_places given starts) (λ name. (c.from_fn.ensures name).1 ∙ sym (at-each (λ other. text_place (at given other) (at starts other)) name))
