use Rattle.std.proofs.Common.{◌∙◌, subst}
use Rattle.urlpattern_ffi.specs.KeptPatterns.{boxed_patterns}
use Rattle.urlpattern_ffi.specs.PassedTexts.{AreNoTextsIn, AreTextsIn}
use Rattle.urlpattern_matches.specs.GroupTexts.{borrowed_texts}
use Rattle.urlpattern_ffi.specs.TextCaptures.{AreFirstTextCaptures}
use Rattle.urlpattern_ffi.proofs.TextLemmas.{first_read, first_unread}
use Rattle.urlpattern_ffi.proofs.text_captures.first_captures_of_texts.Goals as goal

pub returns-in-Err : goal.returns-in-Err
returns-in-Err c =
    let (same, some) = c.in-Some.ensures.some in
    first_unread (AreTextsIn c.args.text.now c.args.parts.now) (AreNoTextsIn c.args.text.now c.args.parts.now) (boxed_patterns c.args.kept.now) c.args.index.now c.args.buffer.now c.args.spans.now c.args.needed.now c.in-Err.status
    (λ none. some (same ∙ none)) (λ none. none) c.in-Err.ensures.missing

pub returns : goal.returns
returns c =
    let kept = boxed_patterns c.args.kept.now in
    let (same, some) = c.in-Some.ensures.some in
    let listed = subst (λ patterns. AreFirstTextCaptures patterns (borrowed_texts c.in-Ok.texts) c.args.index.now c.write_first.new.index c.args.buffer.now c.write_first.new.buffer c.args.spans.now c.write_first.new.spans c.write_first.new.needed c.write_first.result) same c.write_first.ensures in
    first_read (AreTextsIn c.args.text.now c.args.parts.now) (AreNoTextsIn c.args.text.now c.args.parts.now) kept (borrowed_texts c.in-Ok.texts) c.args.index.now c.write_first.new.index c.args.buffer.now c.write_first.new.buffer
    c.args.spans.now c.write_first.new.spans c.write_first.new.needed c.write_first.result (λ none. some (same ∙ none)) c.in-Ok.ensures.found listed
