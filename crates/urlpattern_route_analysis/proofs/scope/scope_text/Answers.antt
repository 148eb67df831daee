use Rattle.std.proofs.Common.{◌∙◌, ap, sym}
use Rattle.std.specs.Str.{chars}
use Rattle.urlpattern_components.specs.declared.eight.ComponentName.{ComponentName}
use Rattle.urlpattern_init.specs.Inheritance.{url_text}
use Rattle.urlpattern_route_analysis.proofs.ScopeLemmas.{other_text}
use Rattle.urlpattern_route_analysis.specs.Scopes.{scope_text}
use Rattle.urlpattern_route_analysis.proofs.scope.scope_text.Goals as goal

pub returns-in-Hash : goal.returns-in-Hash
unfolding chars
returns-in-Hash c = ap (λ (name : ComponentName). scope_text name (url_text c.args.name c.args.scope.now)) (sym c.in-Hash.is)

pub returns-in_default : goal.returns-in_default
returns-in_default c = c.url_text.ensures ∙ sym (other_text c.args.name (url_text c.args.name c.args.scope.now) c.in_default.not-Hash)
