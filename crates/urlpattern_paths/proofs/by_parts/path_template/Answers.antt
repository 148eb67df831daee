use Rattle.std.proofs.Common.{List, subst, sym}
use Rattle.urlpattern_components.specs.declared.eight.ComponentName.TheVariants.{Pathname}
use Rattle.urlpattern_matcher.specs.Components.{component_view}
use Rattle.urlpattern_matcher.specs.declared.component.Component.{Component}
use Rattle.urlpattern_paths.proofs.PathAloneLemmas.{kept-made, read_by-of}
use Rattle.urlpattern_paths.specs.PathsAlone.{IsMadeOfKept, ReturnsCaptured}
use Rattle.urlpattern_pattern.specs.Patterns.{pattern_view}
use Rattle.urlpattern_syntax.specs.ComponentParts.{kept_parts}
use Rattle.urlpattern_syntax.specs.Parts.{parts_view}
use Rattle.urlpattern_syntax.specs.declared.parser.Part.{Part}
use Rattle.urlpattern_paths.proofs.by_parts.path_template.Goals as goal

pub are_read-requires : goal.are_read-requires
are_read-requires g c =
    subst (λ (component : Component g.row.R.Denot). IsMadeOfKept g.R.RegExp c.in_ok-kept.kept.now.components.pathname (component_view component).matcher) (sym c.get.ensures)
    (kept-made g.R.RegExp c.args.pattern.now c.in_ok-kept.kept.now c.in_ok-kept.ensures.parts c.in_ok-kept.ensures.made)

pub returns : goal.returns
returns g c =
    let pattern = pattern_view c.args.pattern.now in
    let kept = c.in_ok-kept.kept.now.components.pathname in
    let read : ReturnsCaptured g.R.RegExp.answer (kept_parts kept) (pattern Pathname).matcher =
    subst (λ (component : Component g.row.R.Denot). ReturnsCaptured g.R.RegExp.answer (kept_parts kept) (component_view component).matcher) c.get.ensures (c.are_read.ensures c.if-not-are_read.false) in
    read_by-of g.R.RegExp.answer pattern (parts_view c.deref.result.now) c.template_of.result (c.capture_others.ensures c.if-not-capture_others.false)
    (subst (λ (items : List Part). ReturnsCaptured g.R.RegExp.answer (parts_view items) (pattern Pathname).matcher) (sym c.deref.ensures.value) read) c.template_of.ensures
