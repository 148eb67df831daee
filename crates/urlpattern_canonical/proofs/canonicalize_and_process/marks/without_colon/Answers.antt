use Rattle.std.proofs.Common.{◌≡◌, ◌-◌, ap, ◌∙◌, length, get_or, arith}
use Rattle.std.proofs.lemmas.Grind.{common_steps}
use Rattle.std.specs.Str.{chars}
use Rattle.urlpattern_canonical.proofs.MarkLemmas.{slice_range-front, without_last-mark, without_last-none}
use Rattle.urlpattern_canonical.proofs.canonicalize_and_process.marks.without_colon.Goals as goal

pub returns-in-58-clause-value : goal.returns-in-58-clause-value
returns-in-58-clause-value c =
    let text = c.args.text.now in
    let last : get_or text (length text - 1) 0 ≡ 58 = grind (arith, common_steps) in
    ap chars (c.range.ensures.value ∙ slice_range-front text (length text - 1)) ∙ without_last-mark 58 text (omega arith) c.utf8.text (omega arith) last

pub returns-in_default-clause-value : goal.returns-in_default-clause-value
returns-in_default-clause-value c =
    let text = c.args.text.now in without_last-none 58 text (omega arith) c.utf8.text (λ some. absurd (omega arith))

pub returns-in_default-2-clause-value : goal.returns-in_default-2-clause-value
returns-in_default-2-clause-value c =
    let text = c.args.text.now in
    let other : ¬ (get_or text (length text - 1) 0 ≡ 58) = λ e. absurd (grind (arith, common_steps)) in
    without_last-none 58 text (omega arith) c.utf8.text (λ some. other)
