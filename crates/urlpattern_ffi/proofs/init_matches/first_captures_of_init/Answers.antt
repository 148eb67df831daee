use Rattle.std.proofs.Common.{◌∙◌, subst, sym}
use Rattle.urlpattern_ffi.specs.InitMatches.{AreNoTextsOfInit, AreTextsOfInit}
use Rattle.urlpattern_ffi.specs.KeptPatterns.{boxed_patterns}
use Rattle.urlpattern_matches.specs.GroupTexts.{borrowed_texts}
use Rattle.urlpattern_ffi.specs.TextCaptures.{AreFirstTextCaptures}
use Rattle.urlpattern_ffi.proofs.TextLemmas.{first_read, first_unread}
use Rattle.urlpattern_ffi.proofs.init_matches.first_captures_of_init.Goals as goal

pub returns-in-Err : goal.returns-in-Err
returns-in-Err c =
    let (same, some) = c.in-Some.ensures.some in
    first_unread (AreTextsOfInit c.args.json.now) (AreNoTextsOfInit c.args.json.now) (boxed_patterns c.args.kept.now) c.args.index.now c.args.buffer.now c.args.spans.now c.args.needed.now c.in-Err.status
    (λ none. some (same ∙ none)) (λ none. none) c.in-Err.ensures.missing

pub returns : goal.returns
returns c =
    let kept = boxed_patterns c.args.kept.now in
    let (same, some) = c.in-Some.ensures.some in
    let listed = subst (λ patterns. AreFirstTextCaptures patterns (borrowed_texts c.input_texts.result) c.args.index.now c.write_first.new.index c.args.buffer.now c.write_first.new.buffer c.args.spans.now c.write_first.new.spans c.write_first.new.needed c.write_first.result) same c.write_first.ensures in
    first_read (AreTextsOfInit c.args.json.now) (AreNoTextsOfInit c.args.json.now) kept (borrowed_texts c.input_texts.result) c.args.index.now c.write_first.new.index c.args.buffer.now c.write_first.new.buffer
    c.args.spans.now c.write_first.new.spans c.write_first.new.needed c.write_first.result (λ none. some (same ∙ none))
    (subst (AreTextsOfInit c.args.json.now) (sym c.input_texts.ensures) c.in-Ok.ensures.found) listed
