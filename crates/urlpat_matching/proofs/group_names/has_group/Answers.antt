use Rattle.std.proofs.Common.{◌≡◌, bytes_eq, rules, string_bytes, ◌∙◌}
use Rattle.std.specs.List.{list_any}
use Rattle.urlpat_matching.proofs.GroupNameLemmas.{among_alike}
use Rattle.urlpat_matching.proofs.group_names.has_group.Goals as goal

pub returns : goal.returns
returns c =
    let names = c.args.component.now.group_name_list.items in
    let bytes : c.is_among.result ≡ list_any (λ other. bytes_eq c.args.name.now (string_bytes other)) names = search rules in
    bytes ∙ among_alike c.args.name.now c.utf8.name names
