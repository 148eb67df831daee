use Rattle.urlpattern.specs.Patterns.{pattern_view}
use Rattle.urlpattern_engine.specs.PatternRegexps.{pattern_result}
use Rattle.urlpattern_matches.specs.BorrowedMatches.{pattern_captures_view}
use Rattle.urlpattern_matches.specs.MatchInput.{texts_view}
use Rattle.urlpattern_matches.specs.ResultViews.{result_view}
use Rattle.urlpattern_pattern.proofs.MatchSteps.{match-same}
use Rattle.urlpattern_pattern.specs.Match.{IsMatchOf}
use Rattle.urlpattern_ffi.proofs.init_matches.match_text.Goals as goal

pub returns-in-Ok-None-clause-none : goal.returns-in-Ok-None-clause-none
returns-in-Ok-None-clause-none c = (texts_view c.in-Ok.input, c.in-Ok.ensures.found, rw c.in-Ok-None.field-0-is at c.in-Ok-None.ensures.matched)

pub returns-in-Ok-json_text-clause-text : goal.returns-in-Ok-json_text-clause-text
returns-in-Ok-json_text-clause-text c =
    let match : IsMatchOf pattern_result (pattern_view c.args.pattern.now) (texts_view c.in-Ok.input) (pattern_captures_view c.in-Ok-Some.found) =
    rw c.in-Ok-Some.field-0-is at c.in-Ok-Some.ensures.matched in
    let (result, same, is_text) = c.in-Ok-json_text.ensures in
    record {
      texts = texts_view c.in-Ok.input;
      result = result;
      are_texts = c.in-Ok.ensures.found;
      is_match = match-same pattern_result (pattern_view c.args.pattern.now) (texts_view c.in-Ok.input) (pattern_captures_view c.in-Ok-Some.found) (result_view result) same match;
      is_text = is_text;
    }
