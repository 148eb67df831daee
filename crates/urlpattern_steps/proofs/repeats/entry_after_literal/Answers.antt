use Rattle.std.proofs.Common.{◌≡◌, None, get_or, length, subst, arith, rules}
use Rattle.std.specs.Str.{chars}
use Rattle.urlpattern_steps.specs.Walk.{literal_text}
use Rattle.urlpattern_steps.proofs.SameLemmas.{begins_length}
use Rattle.urlpattern_steps.proofs.repeats.entry_after_literal.Goals as goal

pub returns-in_err-after_literals-clause-there : goal.returns-in_err-after_literals-clause-there
returns-in_err-after_literals-clause-there c = λ rest begins long. absurd (c.in_err-after_literals.ensures.other rest begins)

pub returns-in-Some-clause-there : goal.returns-in-Some-clause-there
returns-in-Some-clause-there c = λ rest begins long.
    let whole = begins_length c.args.ignore_case (literal_text c.args.first c.args.literal.now) (chars c.args.text.now) rest begins in
    let at : c.in_ok-index.index ≡ length rest = omega (arith, whole, long, c.literal_count.ensures, c.in_ok-checked_sub.ensures, c.in_ok-index.ensures) in
    subst (λ n. c.in-Some.entry.now ≡ get_or c.args.table.now n None) at (search rules)

pub returns-in-Some-clause-other : goal.returns-in-Some-clause-other
returns-in-Some-clause-other c = λ none. absurd (none (chars c.in_ok-after_literals.field-0.now) c.in_ok-after_literals.ensures.cut)
