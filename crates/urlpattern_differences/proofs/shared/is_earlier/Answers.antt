use Rattle.std.proofs.Common.{ℕ, Option, subst, sym}
use Rattle.std.specs.Bool.{OnTrue}
use Rattle.urlpattern_differences.specs.Shared.{IsEarlier}
use Rattle.urlpattern_differences.proofs.shared.is_earlier.Goals as goal

pub returns-in-Some : goal.returns-in-Some
returns-in-Some c =
    subst (λ (rule : Option ℕ). OnTrue c.is_earlier_than.result (IsEarlier c.args.patterns.now rule c.args.others.now c.args.other)) (sym c.in-Some.is) c.is_earlier_than.ensures
