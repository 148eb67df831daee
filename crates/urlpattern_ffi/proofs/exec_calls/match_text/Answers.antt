use Rattle.urlpattern.specs.Match.{IsMatch}
use Rattle.urlpattern.specs.Patterns.{pattern_view}
use Rattle.urlpattern.specs.ResultViews.{result_view}
use Rattle.urlpattern_engine.specs.PatternRegexps.{pattern_result}
use Rattle.urlpattern_init.specs.declared.init.UrlPatternMatchInput.TheVariants as match_inputs
use Rattle.urlpattern_matches.specs.BorrowedMatches.{pattern_captures_view}
use Rattle.urlpattern_pattern.proofs.MatchSteps.{match-same}
use Rattle.urlpattern_ffi.proofs.exec_calls.match_text.Goals as goal

pub returns-in-Ok-clause-text : goal.returns-in-Ok-clause-text
returns-in-Ok-clause-text c =
    let pattern = pattern_view c.args.pattern.now in
    let found = pattern_captures_view c.in-Ok-Some.found in
    let (result, same, is_text) = c.in-Ok.ensures in
    let match : IsMatch pattern_result pattern (match_inputs.Url c.in_ok-url.url) found = rw c.in-Ok-Some.field-0-is at c.in-Ok-Some.ensures.matched in
    record {
      parts = c.in_ok-url.url;
      result = result;
      is_url = c.in_ok-url.ensures.found;
      is_match = (match.0, match.1, match-same pattern_result pattern match.0 found (result_view result) same match.2);
      is_text = is_text;
    }
