use Rattle.std.proofs.lemmas.Result.{IfOk-weaker}
use Rattle.urlpat_explain.proofs.outcome.captures_of.Goals as goal

pub returns : goal.returns
returns c = IfOk-weaker c.try_from_fn.result _ _ (λ captures are name. (are name).1) c.try_from_fn.ensures.ok
