use Rattle.std.proofs.Common.{◌∙◌, ap, bytes_eq, sym}
use Rattle.std.specs.List.{list_any}
use Rattle.std.specs.Str.{chars}
use Rattle.urlpat_tables.proofs.TakenLemmas.{other-source, own-source}
use Rattle.urlpattern.specs.Components.{component_view}
use Rattle.urlpattern_pattern.specs.Patterns.{pattern_view}
use Rattle.urlpat_tables.proofs.needed_groups.source_of.Goals as goal

pub returns-then-has_group : goal.returns-then-has_group
returns-then-has_group c =
    let name = chars c.args.name.now in
    own-source (pattern_view c.args.from.now) c.args.component name
    (ap (λ it. list_any (bytes_eq name) (component_view it).group_name_list) (sym c.get.ensures) ∙ sym c.has_group.ensures ∙ c.if-has_group.true)

pub returns : goal.returns
returns c =
    let name = chars c.args.name.now in
    other-source (pattern_view c.args.from.now) c.args.component name c.owner.result
    (ap (λ it. list_any (bytes_eq name) (component_view it).group_name_list) (sym c.get.ensures) ∙ sym c.has_group.ensures ∙ c.if-has_group.false) c.owner.ensures.alone c.owner.ensures.none
