use Rattle.std.proofs.Common.{sym}
use Rattle.urlpattern_ffi.specs.KeptPatterns.{boxed_patterns}
use Rattle.urlpattern_ffi.proofs.WholeTextLemmas.{text_reported}
use Rattle.urlpattern_ffi.proofs.whole_texts.write_text.Goals as goal

pub returns-in-Some : goal.returns-in-Some
returns-in-Some c =
    text_reported (boxed_patterns c.args.kept.now) c.args.index c.in-Some.pattern.now c.args.buffer.now c.write_whole.new.buffer c.write_whole.new.needed c.write_whole.result
    (sym c.in-Some.ensures) c.write_whole.ensures
