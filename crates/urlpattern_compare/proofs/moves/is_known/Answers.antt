use Rattle.std.proofs.Common.{◌∙◌, refl, sym}
use Rattle.urlpattern_compare.proofs.moves.is_known.Goals as goal

pub returns-then-are_same : goal.returns-then-are_same
returns-then-are_same c = λ yes. (c.one-item.result, (c.loop-one.one-index, c.loop-one-test.true, sym c.one-item.is), sym c.deref.ensures.value ∙ c.if-are_same.ensures.0 refl)
