use Rattle.std.proofs.Common.{◌∙◌, ap, subst, sym}
use Rattle.std.specs.Prelude.{◌↔◌, IfOk, IsTrue}
use Rattle.std.specs.Str.{chars}
use Rattle.urlpattern_generate.proofs.WritingLemmas.{asked_form}
use Rattle.urlpattern_generate.specs.Requested.{IsRequested}
use Rattle.urlpattern_generate.specs.WriteSettings.{given_groups, text_given}
use Rattle.urlpattern_generate.specs.WrittenTexts.{settings_of_writer}
use Rattle.urlpattern_syntax.specs.Parts.{part_view}
use Rattle.urlpattern_syntax.specs.Text.{option_text}
use Rattle.urlpattern_generate.proofs.substitution.Substitution.is_requested.Goals as goal

pub returns-in-Some-capture : goal.returns-in-Some-capture
returns-in-Some-capture c =
    let self = c.args.self.now in
    let settings = settings_of_writer self in
    let part = part_view c.args.part.now in
    let given = sym (ap (λ bytes. text_given (given_groups self.groups.now) self.component (chars bytes)) c.deref.ensures) ∙ sym c.given_text.ensures ∙ ap option_text c.in-Some.is in
    subst (λ capture. IfOk c.has_form.result (λ is. IsTrue is ↔ IsRequested settings part (option_text capture))) (sym c.in-Some-capture.is)
    (asked_form settings part (chars c.in-Some.given.now) (chars c.in-Some-capture.value.now) c.has_form.result given c.has_form.ensures)
