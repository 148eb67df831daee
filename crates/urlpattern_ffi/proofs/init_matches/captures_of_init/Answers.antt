use Rattle.std.proofs.Common.{subst, sym}
use Rattle.urlpattern_ffi.specs.InitMatches.{AreNoTextsOfInit, AreTextsOfInit}
use Rattle.urlpattern_ffi.specs.KeptPatterns.{boxed_patterns}
use Rattle.urlpattern_matches.specs.GroupTexts.{borrowed_texts}
use Rattle.urlpattern_ffi.proofs.TextLemmas.{captures_read, captures_unread}
use Rattle.urlpattern_ffi.proofs.init_matches.captures_of_init.Goals as goal

pub returns-in-Err : goal.returns-in-Err
returns-in-Err c =
    captures_unread (AreTextsOfInit c.args.json.now) (AreNoTextsOfInit c.args.json.now) (boxed_patterns c.args.kept.now) c.args.index c.in-Some.pattern.now c.args.buffer.now c.args.spans.now c.args.needed.now c.in-Err.status
    (sym c.in-Some.ensures) (λ none. none) c.in-Err.ensures.missing

pub returns : goal.returns
returns c =
    captures_read (AreTextsOfInit c.args.json.now) (AreNoTextsOfInit c.args.json.now) (boxed_patterns c.args.kept.now) c.args.index c.in-Some.pattern.now (borrowed_texts c.input_texts.result) c.args.buffer.now c.write_captures.new.buffer
    c.args.spans.now c.write_captures.new.spans c.write_captures.new.needed c.write_captures.result (sym c.in-Some.ensures)
    (subst (AreTextsOfInit c.args.json.now) (sym c.input_texts.ensures) c.in-Ok.ensures.found) c.write_captures.ensures
