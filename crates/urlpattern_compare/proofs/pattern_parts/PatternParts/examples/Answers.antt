use Rattle.std.proofs.lemmas.Result.{IfOk-weaker}
use Rattle.urlpattern_compare.proofs.pattern_parts.PatternParts.examples.Goals as goal

pub returns-clause-examples : goal.returns-clause-examples
returns-clause-examples c = IfOk-weaker c.try_from_fn.result _ _ (λ texts are name. (are name).1) c.try_from_fn.ensures.ok
