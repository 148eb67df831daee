use Rattle.std.proofs.Common.{refl}
use Rattle.std.proofs.lemmas.Result.{IfOk-weaker}
use Rattle.urlpattern_compare.proofs.pattern_parts.PatternParts.texts_with.Goals as goal

pub returns-clause-examples : goal.returns-clause-examples
returns-clause-examples c = IfOk-weaker c.try_from_fn.result _ _ (λ texts are name. (are name).1.0 c.requires) c.try_from_fn.ensures.ok

pub returns-clause-same : goal.returns-clause-same
returns-clause-same c = IfOk-weaker c.try_from_fn.result _ _ (λ texts are. (are c.args.component).1.1 refl) c.try_from_fn.ensures.ok
