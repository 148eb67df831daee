use Rattle.std.proofs.Common.{List, arith, subst, take_all}
use Rattle.urlpattern_differences.specs.declared.rules.Effect.{Effect}
use Rattle.urlpattern_pattern.specs.UrlPatterns.{UrlPattern}
use Rattle.urlpattern_policy_differences.proofs.ComparingLemmas.{none_appended, rule_appended}
use Rattle.urlpattern_policy_differences.specs.Comparing.{AppendsRules}
use Rattle.urlpattern_policy_differences.proofs.comparing.automata.push_rules.Goals as goal

pub loop-index-init : goal.loop-index-init
loop-index-init g c = none_appended g.R.RegExp c.args.rules.now c.args.automata.now

pub loop-index-preserved : goal.loop-index-preserved
loop-index-preserved g c =
    rule_appended g.R.RegExp c.args.rules.now c.loop-index.index c.args.automata.now c.loop-index.automata c.push_at.new.automata
    (omega (arith, c.loop-index-test.true, c.len-index-end.ensures)) c.loop-index.invariant c.in_ok-push_at.ensures

pub returns : goal.returns
returns g c =
    subst (λ (rules : List (UrlPattern g.row.R.Denot × Effect)). AppendsRules g.R.RegExp rules c.args.automata.now c.loop-index.automata)
    (take_all c.loop-index.index c.args.rules.now (omega (arith, c.loop-index-test.false, c.len-index-end.ensures))) c.loop-index.invariant
