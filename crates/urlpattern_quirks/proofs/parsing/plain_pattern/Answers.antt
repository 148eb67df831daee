use Rattle.std.proofs.Common.{◌∙◌, ap}
use Rattle.urlpattern_pattern.specs.Patterns.{pattern_view}
use Rattle.urlpattern_matcher.specs.Components.{component_view}
use Rattle.urlpattern_matcher.specs.declared.component.Component.{Component}
use Rattle.urlpattern_inputs.proofs.EachLemmas.{each-same}
use Rattle.urlpattern_plain.specs.Plain.{plain_component}
use Rattle.urlpattern_plain.specs.Values.{component_by}
use Rattle.urlpattern_components.specs.Eight.{at, each}
use Rattle.urlpattern_components.specs.declared.eight.Eight.{Eight}
use Rattle.urlpattern_syntax.specs.Text.{text_of}
use Rattle.urlpattern_quirks.proofs.parsing.plain_pattern.Goals as goal

pub returns-clause-plain : goal.returns-clause-plain
returns-clause-plain g c =
    let components =
    ap (λ all. each (λ name. component_by text_of (at all name))) c.from_eight.ensures.components
    ∙ each-same (λ name. component_by text_of (at c.in_ok-components.components name)) (λ name. plain_component g.R.RegExp.text_made_of (pattern_view c.args.pattern name))
    (λ name. (c.in_ok-components.ensures.ok name).plain ∙ ap (λ (all : Eight (Component g.row.R.Denot)). plain_component g.R.RegExp.text_made_of (component_view (at all name))) c.into_eight.ensures) in
    let groups = c.from_eight.ensures.groups ∙ c.has_regexp_groups-has_regexp_groups.ensures in
    λ i. record { components = components i; has_regexp_groups = groups i }
