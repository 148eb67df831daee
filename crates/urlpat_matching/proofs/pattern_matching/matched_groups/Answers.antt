use Rattle.std.specs.Option.{option_copied}
use Rattle.urlpat_matching.proofs.MatchLemmas.{found_by}
use Rattle.urlpattern_pattern.specs.Patterns.{pattern_view}
use Rattle.urlpat_matching.proofs.pattern_matching.matched_groups.Goals as goal

pub returns-clause-found : goal.returns-clause-found
returns-clause-found c =
    found_by c.args.flags c.args.asked.pattern c.args.asked.input.now (option_copied c.args.asked.base) (pattern_view c.in_ok-pattern.pattern) c.in_ok-answer.field-0
    c.in_ok-pattern.ensures.compiled c.in_ok-answer.ensures.found
