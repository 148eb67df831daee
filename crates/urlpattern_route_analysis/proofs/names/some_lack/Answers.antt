use Rattle.std.proofs.Common.{◌≡◌, ◌∙◌, ◌||◌, ℕ, List, [], ◌∷◌, ap, refl, rules, tests}
use Rattle.std.proofs.lemmas.Iterator.{YieldsList-from_slice}
use Rattle.std.proofs.lemmas.Iterator.Search.{any_from_yields_List}
use Rattle.std.specs.List.{list_any}
use Rattle.urlpattern_route_analysis.specs.Cases.{literal_views}
use Rattle.urlpattern_route_analysis.specs.Formulas.{atom_view}
use Rattle.urlpattern_route_analysis.specs.Naming.{lacks, some_lack}
use Rattle.urlpattern_route_analysis.specs.declared.case.Literal.{Literal}
use Rattle.urlpattern_route_analysis.proofs.names.some_lack.Goals as goal

by_views : (count : ℕ) (literals : List Literal) → list_any (λ (it : Literal). lacks count it.holds (atom_view it.atom.now)) literals ≡ some_lack (literal_views literals) count
by_views count [] = refl
by_views count (it ∷ rest) = ap (λ more. lacks count it.holds (atom_view it.atom.now) || more) (by_views count rest)

pub returns : goal.returns
returns c =
    any_from_yields_List (λ (it : Literal). lacks c.args.count it.holds (atom_view it.atom.now)) _ _ c.any.result c.any.ensures.ran (YieldsList-from_slice c.args.literals.now cc) (λ x b q k. search (rules, tests))
    ∙ by_views c.args.count c.args.literals.now
