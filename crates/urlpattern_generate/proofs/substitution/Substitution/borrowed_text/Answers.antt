use Rattle.std.proofs.Common.{◌≡◌, ◌∙◌, [], arith, length, subst, sym}
use Rattle.std.proofs.lemmas.List.{nil_from_length}
use Rattle.std.specs.Str.{chars}
use Rattle.urlpattern_generate.proofs.WritingLemmas.{nothing_written}
use Rattle.urlpattern_generate.specs.WrittenTexts.{IsWritten, settings_of_writer}
use Rattle.urlpattern_syntax.proofs.TextLemmas.{chars_nothing}
use Rattle.urlpattern_syntax.specs.Parts.{parts_view}
use Rattle.urlpattern_generate.proofs.substitution.Substitution.borrowed_text.Goals as goal

pub returns-in-empty : goal.returns-in-empty
returns-in-empty c =
    let settings = settings_of_writer c.args.self.now in
    let none : length c.as_slice.result.now ≡ 0 = omega arith in
    let items = sym c.as_slice.ensures.value ∙ nil_from_length c.as_slice.result.now none in
    subst (λ list. IsWritten settings (parts_view list) (chars [])) (sym items) (subst (IsWritten settings []) (sym chars_nothing) (nothing_written settings))
