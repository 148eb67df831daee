use Rattle.std.proofs.Common.{arith, sym, ◌≡◌, ◌∙◌}
use Rattle.std.proofs.lemmas.Bool.{eqb-true}
use Rattle.std.proofs.lemmas.List.{nil_from_length}
use Rattle.std.specs.Prelude.{vec_len}
use Rattle.urlpat_tables.proofs.rewrite_rules.rewrite_rules.Goals as goal

pub returns-then-is_empty : goal.returns-then-is_empty
returns-then-is_empty g c =
    let rest = c.in-Ok.rest in
    let none : vec_len rest ≡ 0 = eqb-true (vec_len rest) 0 (sym c.is_empty.ensures ∙ c.if-is_empty.true) in
    (c.in_ok-rules.ensures.rules, c.in-Ok.ensures.ends (nil_from_length rest.items (omega (arith, none, rest.ok.0))))
