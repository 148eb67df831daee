use Rattle.std.specs.Prelude.{◌&&◌}
use Rattle.urlpattern_generate.proofs.GroupLemmas.{missing_tested}
use Rattle.urlpattern_generate.proofs.group_copies.may_be_missing.Goals as goal
use Rattle.urlpattern_syntax.specs.{RegexpText.is_empty, Text.text_of}

pub returns-in-ZeroOrMore : goal.returns-in-ZeroOrMore
returns-in-ZeroOrMore c =
    missing_tested c.args.part.now.modifier (is_empty (text_of c.args.part.now.prefix) && is_empty (text_of c.args.part.now.suffix)) c.is_bare.result c.in-ZeroOrMore.is c.is_bare.ensures
