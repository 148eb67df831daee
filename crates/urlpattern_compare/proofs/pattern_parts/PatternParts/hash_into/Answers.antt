use Rattle.urlpattern_compare.proofs.HashLemmas.{fed_alike}
use Rattle.urlpattern_compare.proofs.pattern_parts.PatternParts.hash_into.Goals as goal

pub returns-clause-alike : goal.returns-clause-alike
returns-clause-alike g c = λ other equal. fed_alike c.args.self.now other equal
