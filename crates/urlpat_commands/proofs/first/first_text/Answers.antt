use Rattle.std.proofs.Common.{◌++◌, ap, ◌∙◌}
use Rattle.urlpat_commands.proofs.first.first_text.Goals as goal

pub returns : goal.returns
returns c =
    let (lines, grown, are) = c.in_ok-push_match.ensures in
    rw c.if-json.false (lines, are, grown ∙ ap (λ text. text ++ lines) c.in_ok-text.ensures.ok)
