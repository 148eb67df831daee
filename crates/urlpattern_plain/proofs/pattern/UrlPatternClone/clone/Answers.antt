use Rattle.std.proofs.Common.{ap, rules, ◌∙◌}
use Rattle.urlpattern_plain.specs.Values.{component_patterns, plain_component_view}
use Rattle.urlpattern_components.specs.Eight.{at, each}
use Rattle.urlpattern_inputs.proofs.EachLemmas.{each-same}
use Rattle.urlpattern_plain.proofs.pattern.UrlPatternClone.clone.Goals as goal

pub returns : goal.returns
returns c =
    let components =
    ap (λ patterns. each (λ name. plain_component_view (at patterns name))) c.from_eight.ensures.components
    ∙ each-same (λ name. plain_component_view (at c.in_ok-components.components name)) (λ name. plain_component_view (at (component_patterns c.args.self.now) name))
    (λ name. let copied = c.in_ok-components.ensures.ok name in search rules) in
    record { cases = λ i. record { components = components i; has_regexp_groups = c.from_eight.ensures.groups i } }
