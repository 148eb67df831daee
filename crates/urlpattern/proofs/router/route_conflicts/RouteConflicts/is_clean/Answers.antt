use Rattle.std.proofs.Common.{◌≡◌, ◌∙◌, ◌↔◌, Bool, List, [], ap, arith, length, sym}
use Rattle.std.proofs.lemmas.Bool.{eq-eqb, eqb-true, false≢true}
use Rattle.std.proofs.lemmas.List.{nil_from_length}
use Rattle.std.specs.Prelude.{◌==◌, IsTrue, Vec, vec_len}
use Rattle.std.specs.declared.alloc.Global.{Global}
use Rattle.urlpattern.proofs.router.route_conflicts.RouteConflicts.is_clean.Goals as goal

is-empty : {X : Type 0} (vec : Vec X Global) (is : Bool) → is ≡ (vec_len vec == 0) → (IsTrue is ↔ (vec.items ≡ []))
is-empty {X} vec is decides = (
  λ yes. (let none = eqb-true (vec_len vec) 0 (sym decides ∙ yes) in nil_from_length vec.items (omega (arith, none, vec.ok))),
  λ none. (let count = ap (λ (items : List X). length items) none in decides ∙ eq-eqb (vec_len vec) 0 (omega (arith, count, vec.ok))),
)

pub returns-then-not-is_empty : goal.returns-then-not-is_empty
returns-then-not-is_empty c =
    (λ is. absurd (false≢true is), λ (none, other). sym c.if-not-is_empty.true ∙ (is-empty c.args.self.now.unreached c.is_empty.result c.is_empty.ensures).1 none)

pub returns : goal.returns
returns c =
    let other = is-empty c.args.self.now.contending c.is_empty-2.result c.is_empty-2.ensures in
    (λ is. ((is-empty c.args.self.now.unreached c.is_empty.result c.is_empty.ensures).0 c.if-not-is_empty.false, other.0 is), λ (none, last). other.1 last)
