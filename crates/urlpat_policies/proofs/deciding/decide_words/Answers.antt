use Rattle.std.proofs.Common.{List, map, subst, sym}
use Rattle.std.specs.List.{AllZip}
use Rattle.urlpat_policies.specs.PolicyCommands.{IsDecided}
use Rattle.urlpattern_policy.specs.declared.decision.Decision.{Decision}
use Rattle.urlpat_policies.proofs.deciding.decide_words.Goals as goal

pub returns-clause-answers : goal.returns-clause-answers
returns-clause-answers g c = λ answered. (
  c.deref.result.now,
  subst (λ (them : List Decision). AllZip (IsDecided g.R.RegExp c.args.decider.now.policy.now) (map (λ url. url.now) c.args.urls.now) them) (sym c.deref.ensures.value) c.in-Ok.ensures,
  c.print_decided-status.ensures.answers answered,
)
