use Rattle.std.proofs.lemmas.Result.{IfOk-weaker}
use Rattle.urlpattern_compare.proofs.candidates.with_text.Goals as goal

pub returns : goal.returns
returns c = IfOk-weaker c.try_from_fn.result _ _ (λ new are name. (are name).1) c.try_from_fn.ensures.ok
