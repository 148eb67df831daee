use Rattle.std.proofs.Common.{rules, ◌≡◌}
use Rattle.urlpattern_syntax.specs.RegexpText.{is_fixed_text}
use Rattle.urlpattern_printing.proofs.printed.is_text_ending_with_prefix.Goals as goal

pub returns-then-eq : goal.returns-then-eq
returns-then-eq c =
    let kind : c.eq.result ≡ is_fixed_text c.args.part.now.kind = search rules in
    rw (← kind, c.if-eq.true) (rw c.deref.ensures at c.ends_with_prefix.ensures)

pub returns-else-eq : goal.returns-else-eq
returns-else-eq c =
    let kind : c.eq.result ≡ is_fixed_text c.args.part.now.kind = search rules in
    rw (← kind, c.if-eq.false)
