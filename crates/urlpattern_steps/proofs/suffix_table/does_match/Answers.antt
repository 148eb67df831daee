use Rattle.std.proofs.Common.{get_or, false, ap₂, ◌∙◌}
use Rattle.std.specs.Str.{chars}
use Rattle.urlpattern_steps.proofs.FailedLemmas.{ends_same}
use Rattle.urlpattern_steps.proofs.suffix_table.does_match.Goals as goal

pub returns : goal.returns
returns c = λ ignore_case row.
    let text = chars c.args.text.now in
    c.has.ensures ∙ ap₂ (λ r n. get_or r n false) c.row_for.ensures c.character_count.ensures ∙ row.bits text (ends_same text)
