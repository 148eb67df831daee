use Rattle.std.proofs.Common.{arith}
use Rattle.std.proofs.lemmas.Grind.{common_steps}
use Rattle.std.proofs.Output.{has_written_of_eq}
use Rattle.urlpattern_syntax.proofs.StringTexts.{text_bytes}
use Rattle.urlpattern_syntax.proofs.error.ParserErrorDisplay.fmt.Goals as goal

pub returns-in-ExpectedToken-clause-writes : goal.returns-in-ExpectedToken-clause-writes
returns-in-ExpectedToken-clause-writes g c plain ok = has_written_of_eq _ _ _ _ _ (grind (arith, common_steps, text_bytes c.in-ExpectedToken.value, c.name-expected.ensures, c.name-found.ensures)) (c.write.ensures.writes plain ok)
