use Rattle.urlpattern_meaning.specs.Laws.{listed}
use Rattle.urlpattern_meaning.proofs.ReadParts.{read_parts_are_pattern_parts}
use Rattle.urlpattern_meaning.proofs.meaning_laws.read_parts_are_pattern_parts.Goals as goal

pub returns : goal.returns
returns c = λ answers text options. read_parts_are_pattern_parts text options (listed answers)
