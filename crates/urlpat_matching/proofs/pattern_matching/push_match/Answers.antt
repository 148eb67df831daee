use Rattle.std.proofs.Common.{◌≡◌, ◌<◌, ◌++◌, ap, append_assoc, arith, length, ◌∙◌}
use Rattle.urlpat_matching.proofs.MatchLemmas.{lines-next}
use Rattle.urlpattern_matches.specs.BorrowedMatches.{pattern_captures_view}
use Rattle.urlpat_matching.proofs.pattern_matching.push_match.Goals as goal

pub loop-name-preserved : goal.loop-name-preserved
loop-name-preserved c =
    let names = c.all-name-items.result in
    let eight : length names ≡ 8 = ap length c.all-name-items.ensures in
    let within : c.loop-name.name-index < length names = omega arith in
    let (lines, grown, are) = c.loop-name.invariant in
    let (more, goes, own) = c.in_ok-push_group_lines.ensures in (
      lines ++ more,
      goes ∙ ap (λ text. text ++ more) grown ∙ append_assoc _ lines more,
      lines-next (pattern_captures_view c.args.found.now) names c.loop-name.name-index lines more within are own,
    )
