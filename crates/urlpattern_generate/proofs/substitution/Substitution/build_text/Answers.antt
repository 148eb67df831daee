use Rattle.std.proofs.Common.{[], subst, sym}
use Rattle.urlpattern_generate.proofs.WritingLemmas.{nothing_written, refused_there, written_more}
use Rattle.urlpattern_generate.specs.WrittenTexts.{CannotWrite, IsWritten, settings_of_writer}
use Rattle.urlpattern_syntax.proofs.StringTexts.{text-nil}
use Rattle.urlpattern_syntax.specs.Parts.{parts_view}
use Rattle.urlpattern_syntax.specs.Text.{text_of}
use Rattle.urlpattern_generate.proofs.substitution.Substitution.build_text.Goals as goal

pub loop-part-init : goal.loop-part-init
loop-part-init c =
    let settings = settings_of_writer c.args.self.now in
    subst (IsWritten settings []) (sym (text-nil c.in_ok-text.text c.in_ok-text.ensures.bytes)) (nothing_written settings)

pub loop-part-preserved : goal.loop-part-preserved
loop-part-preserved c =
    let got = c.in-Ok.ensures.written in
    written_more (settings_of_writer c.args.self.now) c.deref-part-items.result.now c.loop-part.part-index c.part-item.result (text_of c.loop-part.text) got.0 (text_of c.push_part.new.text)
    c.loop-part-test.true c.part-item.is c.loop-part.invariant got.1 got.2

pub returns-in-Err-clause-refused : goal.returns-in-Err-clause-refused
returns-in-Err-clause-refused c =
    let self = c.args.self.now in
    subst (λ list. CannotWrite self.component (settings_of_writer self) (parts_view list) c.in-Err.error) c.deref-part-items.ensures.value
    (refused_there self.component (settings_of_writer self) c.deref-part-items.result.now c.loop-part.part-index c.part-item.result (text_of c.loop-part.text) c.in-Err.error
    c.loop-part-test.true c.part-item.is c.loop-part.invariant c.in-Err.ensures.refused)
