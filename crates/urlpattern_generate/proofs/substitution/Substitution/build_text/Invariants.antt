use Rattle.std.proofs.Common.{take}
use Rattle.urlpattern_generate.specs.WrittenTexts.{IsWritten, settings_of_writer}
use Rattle.urlpattern_syntax.specs.Parts.{parts_view}
use Rattle.urlpattern_syntax.specs.Text.{text_of}
use Rattle.urlpattern_generate.proofs.substitution.Substitution.build_text.Given as goal

-- The text so far is that of the parts so far.
abbrev pub invariant-loop-part : goal.invariant-loop-part
invariant-loop-part l = IsWritten (settings_of_writer l.self) (parts_view (take l.part-index l.part-items)) (text_of l.text)
