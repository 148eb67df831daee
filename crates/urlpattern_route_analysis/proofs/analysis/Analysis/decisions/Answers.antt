use Rattle.std.proofs.Common.{◌∙◌, ◌+◌, Global, List, Vec, ap, arith, refl, subst, sym, true, false}
use Rattle.urlpattern_route_analysis.proofs.DecisionLemmas.{AreLooked, step_last, step_more, step_next, too_many_left}
use Rattle.urlpattern_route_analysis.specs.Cases.{known_both, literal_views}
use Rattle.urlpattern_route_analysis.specs.Deciding.{Notes}
use Rattle.urlpattern_route_analysis.specs.Formulas.{formula_views}
use Rattle.urlpattern_route_analysis.specs.declared.case.Literal.{Literal}
use Rattle.urlpattern_route_analysis.specs.declared.decisions.JointDecision.{JointDecision}
use Rattle.urlpattern_route_analysis.proofs.analysis.Analysis.decisions.Goals as goal
use Rattle.urlpattern_route_analysis.proofs.analysis.Analysis.decisions.Goals.{in-Err+in_ok-push-in-Err, in-Ok+in_ok-note-in-Ok+in_ok-turn-in-Ok+else-not-branch}

-- The table's decisions are known: the case is noted, and it is the last one.
pub returns-then-not-branch : goal.returns-then-not-branch
returns-then-not-branch c =
    let ones = formula_views c.args.ones.now in
    let others = formula_views c.args.others.now in
    let literals = c.loop.literals.items in
    step_last c.args.self.now ones others c.loop.found.items c.note.new.found.items (literal_views literals) (literal_views c.turn.new.literals.items) c.in-Ok.one c.in-Ok.other _ c.loop.counter c.loop.invariant
    c.in-Ok.one-is c.in-Ok.other-is (ap (λ (l : List Literal). known_both (literal_views l) ones others) (sym c.deref.ensures.value) ∙ sym c.in-Ok.ensures)
    (subst (λ (l : List Literal). Notes c.args.self.now c.in-Ok.one c.in-Ok.other (literal_views l) c.loop.found.items c.note.new.found.items) c.deref-in-Ok.ensures.value c.in_ok-note-in-Ok.ensures)
    c.in_ok-turn-in-Ok.field-0 c.if-not-branch.true c.in_ok-turn-in-Ok.ensures (record { found = c.note.new.found; is_complete = true }) refl refl

-- An atom has to be known, or the case is noted and another one follows.
pub loop-preserved : goal.loop-preserved
loop-preserved c =
    let ones = formula_views c.args.ones.now in
    let others = formula_views c.args.others.now in
    let literals = c.loop.literals.items in
    let known = ap (λ (l : List Literal). known_both (literal_views l) ones others) (sym c.deref.ensures.value) in
    elim c.match-known_both.branch [
      | in-Err+in_ok-push-in-Err w ↦
          subst (λ (f : Vec JointDecision Global). AreLooked c.args.self.now ones others f.items (literal_views c.match-known_both.literals.items) (c.loop.counter + 1)) (sym w.found-is)
          (subst (λ (l : Vec Literal Global). AreLooked c.args.self.now ones others c.loop.found.items (literal_views l.items) (c.loop.counter + 1)) (sym w.literals-is)
          (step_more c.args.self.now ones others c.loop.found.items literals w.push.new.self.items c.loop.counter w.in-Err.atom c.requires.ones c.requires.others (known ∙ sym w.in-Err.ensures) w.in_ok-push-in-Err.ensures.items c.loop.invariant))
      | in-Ok+in_ok-note-in-Ok+in_ok-turn-in-Ok+else-not-branch w ↦
          subst (λ (f : Vec JointDecision Global). AreLooked c.args.self.now ones others f.items (literal_views c.match-known_both.literals.items) (c.loop.counter + 1)) (sym w.found-is)
          (subst (λ (l : Vec Literal Global). AreLooked c.args.self.now ones others w.note.new.found.items (literal_views l.items) (c.loop.counter + 1)) (sym w.literals-is)
          (step_next c.args.self.now ones others c.loop.found.items w.note.new.found.items (literal_views literals) (literal_views w.turn.new.literals.items) w.in-Ok.one w.in-Ok.other _ c.loop.counter c.loop.invariant
          w.in-Ok.one-is w.in-Ok.other-is (known ∙ sym w.in-Ok.ensures)
          (subst (λ (l : List Literal). Notes c.args.self.now w.in-Ok.one w.in-Ok.other (literal_views l) c.loop.found.items w.note.new.found.items) w.deref-in-Ok.ensures.value w.in_ok-note-in-Ok.ensures)
          w.in_ok-turn-in-Ok.field-0 w.if-not-branch.false w.in_ok-turn-in-Ok.ensures))
    ]

pub returns : goal.returns
returns c =
    too_many_left c.args.self.now (formula_views c.args.ones.now) (formula_views c.args.others.now) c.loop.found.items (literal_views c.loop.literals.items) c.loop.counter c.loop.invariant (omega arith)
    (record { found = c.loop.found; is_complete = false }) refl refl
