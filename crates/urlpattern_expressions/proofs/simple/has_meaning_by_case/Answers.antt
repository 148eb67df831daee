use Rattle.std.proofs.Common.{◌≡◌, ◌↔◌, ◌∙◌, ◌⊎◌, List, ap, false, inl, inr, subst, sym}
use Rattle.std.specs.List.{list_any}
use Rattle.std.specs.Prelude.{IfOk, IsTrue}
use Rattle.urlpattern_expressions.proofs.SimpleLemmas.{decides_same, no_longer, no_meaning, simple_meaning}
use Rattle.urlpattern_expressions.specs.SimpleExpressions.{AreOfAscii, AreSimpleBy, KeepsMeaningByCase, is_custom_part}
use Rattle.urlpattern_expressions.proofs.simple.has_meaning_by_case.Goals as goal
use Rattle.urlpattern_expressions.proofs.simple.has_meaning_by_case.Goals.{else-ignores_case-via-then-ignores_case+then-has_custom+else-not-is_of_ascii, else-ignores_case-via-then-ignores_case+else-has_custom, else-ignores_case-via-else-ignores_case}
use Rattle.urlpattern_syntax.specs.ComponentParts.{kept_options}
use Rattle.urlpattern_syntax.specs.Parts.{parts_view}
use Rattle.urlpattern_syntax.specs.declared.parser.Part.{Part}

pub returns-then-not-is_of_ascii : goal.returns-then-not-is_of_ascii
returns-then-not-is_of_ascii c =
    no_meaning (kept_options c.args.component.now) c.args.component.now.parts.items c.if-ignores_case.true
    (sym (c.has_custom.ensures ∙ ap (list_any is_custom_part) c.deref.ensures.value) ∙ c.if-has_custom.true)
    (λ plain. no_longer c.is_of_ascii.result c.if-not-is_of_ascii.true (c.is_of_ascii.ensures.1 plain))

pub returns : goal.returns
returns c =
    let options = kept_options c.args.component.now in
    let parts = c.args.component.now.parts.items in
    let fit : (options.ignore_case ≡ false) ⊎ ((list_any is_custom_part parts ≡ false) ⊎ AreOfAscii options (parts_view parts)) =
    elim c.else-ignores_case.branch [
      | else-ignores_case-via-then-ignores_case+then-has_custom+else-not-is_of_ascii w ↦ inr (inr (w.is_of_ascii.ensures.0 w.if-not-is_of_ascii.false))
      | else-ignores_case-via-then-ignores_case+else-has_custom w ↦
          inr (inl (sym (w.has_custom.ensures ∙ ap (list_any is_custom_part) w.deref.ensures.value) ∙ w.if-has_custom.false))
      | else-ignores_case-via-else-ignores_case w ↦ inl w.if-ignores_case.false
    ] in
    decides_same c.are_simple.result (AreSimpleBy options.ignore_case (parts_view parts)) (KeepsMeaningByCase c.args.component.now) (simple_meaning options parts fit)
    (subst (λ (ps : List Part). IfOk c.are_simple.result (λ is. IsTrue is ↔ AreSimpleBy options.ignore_case (parts_view ps))) c.deref-2.ensures.value c.are_simple.ensures)
