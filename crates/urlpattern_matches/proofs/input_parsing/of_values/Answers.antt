use Rattle.std.proofs.Common.{[], option_map, unwrap_or, ◌∙◌, ap, sym}
use Rattle.urlpattern_init.specs.Inheritance.{values_of}
use Rattle.urlpattern_inputs.proofs.EachLemmas.{each-same}
use Rattle.urlpattern_components.proofs.EightLemmas.{at-each}
use Rattle.urlpattern_components.specs.Eight.{at, each}
use Rattle.urlpattern_syntax.specs.Text.{text_of}
use Rattle.urlpattern_matches.proofs.input_parsing.of_values.Goals as goal

pub returns : goal.returns
returns c =
    ap (λ texts. each (λ name. text_of (at texts name))) c.from_eight.ensures
    ∙ each-same (λ name. text_of (at c.map.result name)) (λ name. unwrap_or (at (values_of c.args.values) name) [])
    (λ name. c.map.ensures name ∙ ap (λ value. unwrap_or value []) (sym (at-each (λ other. option_map text_of (at c.args.values other)) name)))
