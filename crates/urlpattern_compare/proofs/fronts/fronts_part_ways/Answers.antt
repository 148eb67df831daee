use Rattle.std.proofs.Common.{◌++◌, ◌∙◌, ap, sym}
use Rattle.urlpattern_compare.proofs.FrontLemmas.{none_both}
use Rattle.urlpattern_compare.proofs.fronts.fronts_part_ways.Goals as goal
use Rattle.urlpattern_syntax.specs.Parts.{parts_view}

pub returns : goal.returns
returns c = λ yes options other_options text.
    none_both options other_options (parts_view c.args.parts.now) (parts_view c.args.others.now) text
    (λ rest more same. c.part_ways.ensures yes rest more (ap (λ t. t ++ rest) c.front_of.ensures ∙ same ∙ ap (λ t. t ++ more) (sym c.front_of-2.ensures)))
