use Rattle.std.proofs.Common.{subst, sym}
use Rattle.urlpattern_ffi.proofs.WholeTextLemmas.{whole_written}
use Rattle.urlpattern_ffi.specs.WholeTexts.{IsTextOf}
use Rattle.urlpattern_ffi.proofs.whole_texts.write_whole.Goals as goal

pub returns-in-Ok-Some : goal.returns-in-Ok-Some
returns-in-Ok-Some c =
    let is = rw c.in-Ok-Some.field-0-is at c.in-Ok-Some.ensures.text in
    whole_written c.args.pattern.now c.deref.result.now c.args.buffer.now c.write.new.buffer c.write.new.needed c.write.result
    (subst (IsTextOf c.args.pattern.now) (sym c.deref.ensures) is) c.write.ensures.needed c.write.ensures.written
