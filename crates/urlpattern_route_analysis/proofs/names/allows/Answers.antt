use Rattle.std.proofs.Common.{◌∙◌, rules, sym, tests}
use Rattle.std.proofs.lemmas.Iterator.{YieldsList-from_slice}
use Rattle.std.proofs.lemmas.Iterator.Search.{all_from_yields_List}
use Rattle.std.proofs.lemmas.List.Folds.{list_all-map}
use Rattle.urlpattern_route_analysis.specs.Cases.{LiteralView, literal_view}
use Rattle.urlpattern_route_analysis.specs.Formulas.{atom_view}
use Rattle.urlpattern_route_analysis.specs.Naming.{allows_one}
use Rattle.urlpattern_route_analysis.specs.declared.case.Literal.{Literal}
use Rattle.urlpattern_route_analysis.proofs.names.allows.Goals as goal

pub returns : goal.returns
returns c =
    all_from_yields_List (λ (it : Literal). allows_one c.args.index c.args.name.now it.holds (atom_view it.atom.now)) _ _ c.all.result c.all.ensures.ran (YieldsList-from_slice c.args.literals.now cc) (λ x b q k. search (rules, tests))
    ∙ sym (list_all-map (λ (it : LiteralView). allows_one c.args.index c.args.name.now it.holds it.atom) literal_view c.args.literals.now)
