use Rattle.std.proofs.Common.{◌++◌, ap, subst, sym, ◌∙◌}
use Rattle.urlpat_matching.specs.GroupLines.{AreLines, all_named_results}
use Rattle.urlpattern_matches.specs.BorrowedMatches.{pattern_captures_view}
use Rattle.urlpat_matching.proofs.pattern_matching.match_text.Goals as goal

pub returns : goal.returns
returns c =
    let (lines, grown, are) = c.in_ok-push_match.ensures in
    rw c.if-json.false (subst (AreLines (all_named_results (pattern_captures_view c.args.found.now))) (sym (grown ∙ ap (λ text. text ++ lines) c.new-text.ensures.bytes)) are)
