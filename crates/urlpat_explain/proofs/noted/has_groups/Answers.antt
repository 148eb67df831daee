use Rattle.std.proofs.Common.{◌≡◌, ◌∙◌, ap, length, map, option_map, rules, subst, sym}
use Rattle.std.specs.Prelude.{nat_lt, string_bytes, vec_len}
use Rattle.std.proofs.lemmas.List.{length-map}
use Rattle.regex_syntax.specs.Verdict.{Reads, Refuses}
use Rattle.urlpat_explain.proofs.NotedLemmas.{groups_read, groups_refused}
use Rattle.urlpat_explain.proofs.noted.has_groups.Goals as goal

pub returns-in-Ok : goal.returns-in-Ok
returns-in-Ok c =
    let names = map (option_map string_bytes) c.in-Ok.parsed.names.items in
    let count : length c.in-Ok.parsed.names.items ≡ vec_len c.in-Ok.parsed.names = search rules in
    sym (groups_read c.args.expression.now c.in-Ok.parsed.hir names
    (subst (λ config. Reads config c.args.expression.now c.in-Ok.parsed.hir names) c.default.ensures c.in-Ok.ensures.ok)
    ∙ ap (nat_lt 1) (length-map c.in-Ok.parsed.names.items (option_map string_bytes) ∙ count ∙ sym c.len-found.ensures))

pub returns-in_default : goal.returns-in_default
returns-in_default c =
    sym (groups_refused c.args.expression.now c.in-Err.error.kind c.in_default.not-OutOfMemory
    (subst (λ config. Refuses config c.args.expression.now c.in-Err.error.kind) c.default.ensures c.in-Err.ensures.err))
