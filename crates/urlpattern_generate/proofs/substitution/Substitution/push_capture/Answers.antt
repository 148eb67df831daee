use Rattle.std.proofs.Common.{ap, inr, refl, subst, sym, ◌∙◌}
use Rattle.std.proofs.lemmas.Bool.{false≢true}
use Rattle.std.specs.Str.{chars}
use Rattle.urlpattern_generate.proofs.WritingLemmas.{group_written}
use Rattle.urlpattern_generate.specs.Requested.{IsRequested}
use Rattle.urlpattern_generate.specs.WrittenTexts.{settings_of_writer}
use Rattle.urlpattern_generate.specs.Links.{MayCapture, text_of_group}
use Rattle.urlpattern_syntax.specs.Parts.{part_view}
use Rattle.urlpattern_syntax.specs.Text.{option_text}
use Rattle.urlpattern_generate.proofs.substitution.Substitution.push_capture.Goals as goal

pub returns-then-branch-clause-written : goal.returns-then-branch-clause-written
returns-then-branch-clause-written c =
    let part = part_view c.args.part.now in (
      text_of_group part (option_text c.args.capture),
      group_written (settings_of_writer c.args.self.now) part (option_text c.args.capture) c.requires.group c.requires.asked (c.in_ok-push_group.ensures.may.0 c.if-branch.true),
      c.in_ok-push_group.ensures.written c.if-branch.true,
    )

pub returns-in_ok-clone-in-Some-clause-refused : goal.returns-in_ok-clone-in-Some-clause-refused
returns-in_ok-clone-in-Some-clause-refused c =
    let part = part_view c.args.part.now in
    let settings = settings_of_writer c.args.self.now in (
      refl,
      (c.requires.group, ap chars (sym c.in_ok-clone-in-Some.ensures.cases)),
      inr (
        chars c.in-Some.field-0.now,
        subst (λ capture. IsRequested settings part (option_text capture)) c.in-Some.is c.requires.asked,
        (λ may. false≢true (sym c.if-branch.false ∙ c.in_ok-push_group.ensures.may.1 (subst (λ capture. MayCapture settings.options part (option_text capture)) (sym c.in-Some.is) may))),
      ),
    )
