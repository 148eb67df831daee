use Rattle.std.proofs.Common.{refl, subst, map}
use Rattle.std.proofs.lemmas.Result.{err_from_is_err_and}
use Rattle.urlpattern_matcher.proofs.CompileLemmas.{text-or_asterisk}
use Rattle.urlpattern_matcher.specs.Components.{IsComponentOf, component_view}
use Rattle.urlpattern_syntax.specs.Options.{options_view}
use Rattle.urlpattern_syntax.specs.Parts.{part_view}
use Rattle.urlpattern_matcher.proofs.component.Component.compile_with_parts.Goals as goal

pub returns-in_err-parts-clause-refuses : goal.returns-in_err-parts-clause-refuses
returns-in_err-parts-clause-refuses g c =
    let text = text-or_asterisk c.args.pattern _ _ c.unwrap_or-pattern.ensures refl in
    let p = err_from_is_err_and c.from_residual.result c.from_residual.ensures.1 in
    rw (p.1, p.2, ← text) c.in_err-parts.ensures.refuses

pub returns-clause-compiled : goal.returns-clause-compiled
returns-clause-compiled g c =
    let text = text-or_asterisk c.args.pattern _ _ c.unwrap_or-pattern.ensures refl in
    record {
      options_are = refl;
      reads = rw (← text) c.in_ok-parts.ensures.reads;
      is_made = subst (λ parts. IsComponentOf g.R.RegExp (options_view c.args.options) (map part_view parts) (component_view c.in_ok-component.component)) c.deref.ensures.value c.in_ok-component.ensures.made;
      case = c.honours_case-honours.ensures;
    }
