use Rattle.std.proofs.Common.{◌≡◌, ◌∙◌, ◌+◌, Bool, Bor, List, Result, true, false, Ok, Err, ap, drop, subst, sym}
use Rattle.urlpattern_route_analysis.proofs.CaseSteps.{IsOpen, none_asks, none_fails, none_holds, view_at}
use Rattle.urlpattern_route_analysis.specs.Cases.{asked_view, known, known_none, literal_views}
use Rattle.urlpattern_route_analysis.specs.Formulas.{AtomView, atom_view, formula_view, formula_views, listed}
use Rattle.urlpattern_route_analysis.specs.declared.formula.Atom.{Atom}
use Rattle.urlpattern_route_analysis.specs.declared.formula.Formula.{Formula}
use Rattle.urlpattern_route_analysis.proofs.case.+known.Goals as goal
use Rattle.urlpattern_route_analysis.proofs.case.+known.Goals.{known_none-in-Err, known_none-in-Ok-false}

pub known_none-returns-in-Ok-true : goal.known_none-returns-in-Ok-true
known_none-returns-in-Ok-true t c =
    let literals = literal_views c.args.literals.now in
    let items = c.deref-formula-items.result.now in
    let one = c.formula-item.result in
    let is : known literals (formula_view one) ≡ Ok true = sym c.known.ensures ∙ ap (λ (r : Result Bool (Bor Atom)). asked_view r) (c.in-Ok-true.is ∙ ap (λ (b : Bool). Ok b) c.in-Ok-true.field-0-test) in
    subst (λ (its : List Formula). Ok false ≡ known_none literals (Ok true) (listed (formula_views its))) c.deref-formula-items.ensures.value
    (sym
    (c.loop-formula.invariant.0
    ∙ none_holds literals (asked_view c.loop-formula.so_far) (formula_views items) c.loop-formula.formula-index (formula_view one) (view_at items c.loop-formula.formula-index one c.loop-formula-test.true c.formula-item.is) is))

pub known_none-loop-formula-preserved : goal.known_none-loop-formula-preserved
known_none-loop-formula-preserved t c =
    let literals = literal_views c.args.literals.now in
    let items = c.deref-formula-items.result.now in
    let one = c.formula-item.result in
    let there = view_at items c.loop-formula.formula-index one c.loop-formula-test.true c.formula-item.is in
    let views = formula_views items in
    let i = c.loop-formula.formula-index in
    let before = asked_view c.loop-formula.so_far in
    elim c.match-known.branch [
      | known_none-in-Ok-false w ↦
          let is : known literals (formula_view one) ≡ Ok false = sym c.known.ensures ∙ ap (λ (r : Result Bool (Bor Atom)). asked_view r) (w.in-Ok-false.is ∙ ap (λ (b : Bool). Ok b) w.in-Ok-false.field-0-test) in (
            c.loop-formula.invariant.0 ∙ none_fails literals before views i (formula_view one) there is
                ∙ ap (λ (r : Result Bool (Bor Atom)). known_none literals (asked_view r) (listed (drop (i + 1) views))) (sym w.so_far-is),
            subst (λ (r : Result Bool (Bor Atom)). IsOpen literals (asked_view r)) (sym w.so_far-is) c.loop-formula.invariant.1,
          )
      | known_none-in-Err w ↦
          let is : known literals (formula_view one) ≡ Err (atom_view w.in-Err.atom.now) = sym c.known.ensures ∙ ap (λ (r : Result Bool (Bor Atom)). asked_view r) w.in-Err.is in (
            c.loop-formula.invariant.0 ∙ none_asks literals before views i (formula_view one) (atom_view w.in-Err.atom.now) there is c.loop-formula.invariant.1
                ∙ ap (λ (a : AtomView). known_none literals (Err a) (listed (drop (i + 1) views))) (sym w.preferred.ensures)
                ∙ ap (λ (r : Result Bool (Bor Atom)). known_none literals (asked_view r) (listed (drop (i + 1) views))) (sym w.so_far-is),
            subst (λ (r : Result Bool (Bor Atom)). IsOpen literals (asked_view r)) (sym w.so_far-is) tt,
          )
    ]
