use Rattle.std.proofs.Common.{◌∙◌, ℕ, Bool, Bor, Option, Result, Ok, Err, ap, arith, subst, sym, take_all}
use Rattle.std.proofs.lemmas.List.{length-map}
use Rattle.std.proofs.lemmas.List.Elements.{All-nil}
use Rattle.std.proofs.lemmas.Result.{err_from_is_err_and}
use Rattle.std.specs.Prelude.{All}
use Rattle.urlpattern_route_analysis.proofs.CaseSteps.{Fails, all_next, first_asks, first_found, first_none, view_at}
use Rattle.urlpattern_route_analysis.specs.Cases.{asked_view, literal_views}
use Rattle.urlpattern_route_analysis.specs.Formulas.{atom_view, formula_view, formula_views}
use Rattle.urlpattern_route_analysis.specs.declared.formula.Atom.{Atom}
use Rattle.urlpattern_route_analysis.proofs.case.known_first.Goals as goal

pub loop-index-init : goal.loop-index-init
loop-index-init c = All-nil (Fails (literal_views c.args.literals.now))

pub returns-in_err-known : goal.returns-in_err-known
returns-in_err-known c =
    let formulas = c.args.formulas.now in
    let one = c.index-formulas-index.result in
    let p = err_from_is_err_and c.from_residual.result c.from_residual.ensures.1 in
    ap (λ (r : Result (Option ℕ) (Bor Atom)). asked_view r) (p.1 ∙ ap (λ (a : Bor Atom). Err a) p.2)
    ∙ sym
    (first_asks (literal_views c.args.literals.now) (formula_views formulas) c.loop-index.index (formula_view one) (atom_view c.in_err-known.field-0.0.now) c.loop-index.invariant
    (view_at formulas c.loop-index.index one c.loop-index-test.true c.index-formulas-index.is) (sym c.in_err-known.ensures))

pub returns-then-branch : goal.returns-then-branch
returns-then-branch c =
    let formulas = c.args.formulas.now in
    let one = c.index-formulas-index.result in
    sym
    (first_found (literal_views c.args.literals.now) (formula_views formulas) c.loop-index.index (formula_view one) c.loop-index.invariant (view_at formulas c.loop-index.index one c.loop-index-test.true c.index-formulas-index.is)
    (sym c.in_ok-known.ensures ∙ ap (λ (b : Bool). Ok b) c.if-branch.true))

pub loop-index-preserved : goal.loop-index-preserved
loop-index-preserved c =
    let formulas = c.args.formulas.now in
    let one = c.index-formulas-index.result in
    all_next (Fails (literal_views c.args.literals.now)) (formula_views formulas) c.loop-index.index (formula_view one) (view_at formulas c.loop-index.index one c.loop-index-test.true c.index-formulas-index.is) c.loop-index.invariant
    (sym c.in_ok-known.ensures ∙ ap (λ (b : Bool). Ok b) c.if-branch.false)

pub returns : goal.returns
returns c =
    let views = formula_views c.args.formulas.now in
    sym
    (first_none (literal_views c.args.literals.now) views
    (subst (All (Fails (literal_views c.args.literals.now))) (take_all c.loop-index.index views (omega (arith, length-map c.args.formulas.now formula_view))) c.loop-index.invariant))
