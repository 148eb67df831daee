use Rattle.std.proofs.Common.{◌≡◌, ◌∙◌, None, arith, subst, sym, take_all}
use Rattle.std.proofs.lemmas.List.{length-map}
use Rattle.std.specs.Prelude.{All}
use Rattle.urlpattern_route_analysis.proofs.CaseSteps.{all_next, atom_found, atom_none, literal_at}
use Rattle.urlpattern_route_analysis.specs.Cases.{LiteralView, literal_view, literal_views, told}
use Rattle.urlpattern_route_analysis.specs.Formulas.{atom_view}
use Rattle.urlpattern_route_analysis.proofs.case.known_atom.Goals as goal

pub returns-in-Some : goal.returns-in-Some
returns-in-Some c =
    let it = c.literal-item.result in
    sym
    (atom_found (literal_views c.args.literals.now) (atom_view c.args.atom.now) c.loop-literal.literal-index (literal_view it) c.in-Some.holds c.loop-literal.invariant
    (literal_at c.args.literals.now c.loop-literal.literal-index it c.loop-literal-test.true c.literal-item.is) (sym c.told.ensures ∙ c.in-Some.is))

pub loop-literal-preserved : goal.loop-literal-preserved
loop-literal-preserved c =
    let it = c.literal-item.result in
    all_next (λ (l : LiteralView). told l (atom_view c.args.atom.now) ≡ None) (literal_views c.args.literals.now) c.loop-literal.literal-index (literal_view it)
    (literal_at c.args.literals.now c.loop-literal.literal-index it c.loop-literal-test.true c.literal-item.is) c.loop-literal.invariant (sym c.told.ensures ∙ c.in_default.is)

pub returns : goal.returns
returns c =
    let views = literal_views c.args.literals.now in
    sym
    (atom_none views (atom_view c.args.atom.now)
    (subst (All (λ (l : LiteralView). told l (atom_view c.args.atom.now) ≡ None)) (take_all c.loop-literal.literal-index views (omega (arith, length-map c.args.literals.now literal_view))) c.loop-literal.invariant))
