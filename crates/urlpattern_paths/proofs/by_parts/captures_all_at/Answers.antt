use Rattle.std.proofs.Common.{subst}
use Rattle.urlpattern_matcher.specs.Components.{component_view}
use Rattle.urlpattern_matcher.specs.declared.component.Component.{Component}
use Rattle.urlpattern_paths.specs.PathsAlone.{CapturesAll}
use Rattle.urlpattern_paths.proofs.by_parts.captures_all_at.Goals as goal

pub returns : goal.returns
returns g c = λ is. subst (λ (component : Component g.row.R.Denot). CapturesAll g.R.RegExp.answer (component_view component).matcher) c.get.ensures (c.captures_all.ensures is)
