use Rattle.urlpattern_matcher.specs.Components.{component_view}
use Rattle.urlpattern_index.proofs.KnownLemmas.{first_fits}
use Rattle.urlpattern_syntax.specs.ComponentParts.{kept_options, kept_parts}
use Rattle.urlpattern_syntax.specs.Parts.{parts_view}
use Rattle.urlpattern_index.proofs.known.known_path.Goals as goal

pub returns : goal.returns
returns g c = λ text matched.
    first_fits g.R.RegExp (kept_options c.args.kept.now) (kept_parts c.args.kept.now) (component_view c.args.component.now).matcher text c.requires.has_matcher
    matched (parts_view c.first_text.result.now) c.first_text.ensures
