use Rattle.std.specs.Prelude.{option_copied}
use Rattle.urlpattern.specs.FirstMatch.{patterns_view}
use Rattle.urlpat_matching.specs.Texts.{texts_view}
use Rattle.urlpat_commands.proofs.FirstCommandLemmas.{first_found_by}
use Rattle.urlpat_commands.proofs.first.first_groups.Goals as goal

pub returns-clause-found : goal.returns-clause-found
returns-clause-found c =
    first_found_by c.args.flags (texts_view c.args.asked.patterns.now) c.args.asked.input.now (option_copied c.args.asked.base) (patterns_view c.in_ok-list.list) c.in_ok-answer.field-0
    c.in_ok-list.ensures.compiled c.in_ok-answer.ensures.found
