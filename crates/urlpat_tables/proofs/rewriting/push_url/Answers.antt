use Rattle.std.proofs.Common.{Bool, ap, sym, ◌∙◌}
use Rattle.serde_json.specs.Written.{has_float}
use Rattle.url.specs.Parts.{serialize}
use Rattle.urlpat_matching.specs.MatchJson.{json_line}
use Rattle.urlpat_tables.proofs.RewriteLemmas.{new-none, text-added}
use Rattle.urlpat_tables.specs.Rewrites.{new_text}
use Rattle.urlpat_tables.proofs.rewriting.push_url.Goals as goal

pub returns-then-json : goal.returns-then-json
returns-then-json c =
    let rule = c.args.rule.now in
    let none = ap has_float c.in_ok-tree.ensures ∙ new-none rule.code rule.entry.number (serialize c.args.url.now) in
    text-added c.extend_from_slice.result c.args.written.now.items c.extend_from_slice.new.self.items c.as_bytes.result.now (new_text c.args.json rule c.args.url.now)
    c.extend_from_slice.ensures.items
    (c.as_bytes.ensures.value ∙ c.in_ok-line.ensures none ∙ ap json_line c.in_ok-tree.ensures ∙ ap (λ (json : Bool). new_text json rule c.args.url.now) (sym c.if-json.true))
