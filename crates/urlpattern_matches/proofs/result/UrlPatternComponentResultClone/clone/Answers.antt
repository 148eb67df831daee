use Rattle.std.proofs.Common.{rules}
use Rattle.urlpattern_matches.specs.ResultViews.{IsSameEntry}
use Rattle.urlpattern_matches.proofs.CopiedResults.{zip-mono}
use Rattle.urlpattern_matches.proofs.result.UrlPatternComponentResultClone.clone.Goals as goal

pub returns : goal.returns
returns c = record {
  cases = record {
    input = c.in_ok-input.ensures.cases;
    groups = zip-mono _ IsSameEntry _ _ (λ entry copy same. search (same, rules)) c.in_ok-groups.ensures.cases;
  };
}
