use Rattle.std.proofs.Common.{◌≡◌, ◌∙◌, ◌↔◌, Bool, List, Option, IfOk, IsTrue, ap, subst}
use Rattle.std.proofs.lemmas.Result.{IfOk-weaker}
use Rattle.std.specs.Prelude.{IsSomeAnd}
use Rattle.urlpattern_compare.specs.declared.pattern_parts.PatternParts.{PatternParts}
use Rattle.urlpattern_components.specs.Eight.{at}
use Rattle.urlpat_explain.specs.Noted.{have_groups}
use Rattle.urlpat_explain.proofs.noted.has_own_groups.Goals as goal
use Rattle.urlpattern_syntax.specs.ComponentParts.{kept_parts}
use Rattle.urlpattern_syntax.specs.Parts.{parts_view}
use Rattle.urlpattern_syntax.specs.declared.parser.Part.{Part}
use Rattle.urlpattern_syntax.specs.declared.parts.ComponentParts.{ComponentParts}

pub returns-in-Some : goal.returns-in-Some
returns-in-Some c =
    let kept : have_groups (parts_view c.deref.result.now) ≡ have_groups (kept_parts (at c.in-Some.parts.now.components c.args.name)) =
    ap (λ (parts : List Part). have_groups (parts_view parts)) c.deref.ensures.value ∙ ap (λ (component : ComponentParts). have_groups (kept_parts component)) c.get.ensures in
    subst (λ (parts : Option PatternParts). IfOk c.have_groups.result (λ found. IsTrue found ↔ IsSomeAnd parts (λ it. IsTrue (have_groups (kept_parts (at it.components c.args.name)))))) c.in-Some.ensures.parts
    (IfOk-weaker c.have_groups.result (λ found. found ≡ have_groups (parts_view c.deref.result.now)) (λ found. IsTrue found ↔ IsTrue (have_groups (kept_parts (at c.in-Some.parts.now.components c.args.name))))
    (λ found is. subst (λ (b : Bool). IsTrue found ↔ IsTrue b) (is ∙ kept) (λ t. t, λ t. t)) c.have_groups.ensures)
