use Rattle.std.proofs.Common.{◌∙◌}
use Rattle.urlpattern_generate.proofs.RequestedLemmas.{zero_or_more}
use Rattle.urlpattern_generate.specs.Requested.{empty_if}
use Rattle.urlpattern_syntax.specs.Parts.{part_view}
use Rattle.urlpattern_generate.proofs.missing_captures.default_capture.Goals as goal

pub returns-in-ZeroOrMore : goal.returns-in-ZeroOrMore
returns-in-ZeroOrMore c = c.empty_if.ensures ∙ zero_or_more (part_view c.args.part.now) c.is_bare.result c.in-ZeroOrMore.is c.is_bare.ensures
