use Rattle.std.proofs.Common.{inr}
use Rattle.std.specs.Prelude.{option_copied}
use Rattle.urlpat_matching.specs.MatchTexts.{IsMatchText, IsUnmatched}
use Rattle.urlpat_commands.proofs.CommandAnswerLemmas.{is_answered, prints_match}
use Rattle.urlpat_commands.proofs.matching.print_match.Goals as goal

pub returns-in-Ok-clause-answers : goal.returns-in-Ok-clause-answers
returns-in-Ok-clause-answers g c = λ done.
    prints_match c.args.flags.json (IsMatchText c.args.flags c.args.asked.pattern c.args.asked.input.now (option_copied c.args.asked.base))
    (IsUnmatched c.args.flags.ignore_case c.args.asked.pattern c.args.asked.input.now (option_copied c.args.asked.base))
    c.in-Ok.found _ _ _ (c.print_found.ensures.answers done) c.in-Ok.ensures.found

pub returns-in-Ok-clause-fails : goal.returns-in-Ok-clause-fails
returns-in-Ok-clause-fails g c = λ failed.
    inr (is_answered c.args.flags.json (IsMatchText c.args.flags c.args.asked.pattern c.args.asked.input.now (option_copied c.args.asked.base))
    (IsUnmatched c.args.flags.ignore_case c.args.asked.pattern c.args.asked.input.now (option_copied c.args.asked.base))
    c.in-Ok.found c.in-Ok.ensures.found)
