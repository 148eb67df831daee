use Rattle.std.proofs.Common.{ap, inl, inr, refl, subst, sym}
use Rattle.std.proofs.lemmas.Str.{IsUtf8-string_bytes}
use Rattle.std.specs.Prelude.{string_bytes}
use Rattle.std.specs.Str.{chars}
use Rattle.urlpattern_matcher.specs.Matchers.{matcher_view}
use Rattle.urlpattern_generate.proofs.GeneratingLemmas.{told_canonical, told_found, told_other, told_uncanonical}
use Rattle.urlpattern_generate.specs.Generating.{DecidesCanonical, DecidesFound}
use Rattle.urlpattern_generate.specs.WriteSettings.{given_groups, settings_for}
use Rattle.urlpattern_generate.specs.WrittenTexts.{IsWritten}
use Rattle.urlpattern_syntax.specs.ComponentParts.{kept_options, kept_parts}
use Rattle.urlpattern_syntax.specs.Text.{text_of}
use Rattle.urlpattern_generate.proofs.generated_component.generate_component.Goals as goal
use Rattle.urlpattern_generate.proofs.generated_component.generate_component.Goals.{else-branch-via-then-branch+in_ok-is_canonical+else-branch-2, else-branch-via-else-branch}

pub returns-then-branch-2-clause-generated : goal.returns-then-branch-2-clause-generated
returns-then-branch-2-clause-generated g c =
    let parts = kept_parts c.args.kept.now in
    let settings = settings_for c.args.component (kept_options c.args.kept.now) parts (given_groups c.args.groups.now) in
    let answer = g.R.RegExp.answer in
    let matcher = matcher_view c.args.matcher.now in
    let own = c.in_ok-text-in-Ok.text in
    record {
      is_written = subst (IsWritten settings parts) (sym (ap chars c.in_ok-text-in-Ok.ensures.ok)) c.in-Ok.ensures.written;
      is_found = told_found answer matcher settings parts (text_of own) c.in_ok-confirms.field-0 c.if-branch.true
          (subst (λ bytes. DecidesFound c.in_ok-confirms.field-0 answer matcher settings parts (chars bytes)) c.deref.ensures c.in_ok-confirms.ensures);
      is_canonical = told_canonical settings.canonical c.in_ok-is_canonical.field-0 c.deref-then-branch.result.now (text_of own) c.if-branch-2.true (ap chars c.deref-then-branch.ensures) c.in_ok-is_canonical.ensures;
    }

pub returns-else-branch-clause-refused : goal.returns-else-branch-clause-refused
returns-else-branch-clause-refused g c =
    let parts = kept_parts c.args.kept.now in
    let settings = settings_for c.args.component (kept_options c.args.kept.now) parts (given_groups c.args.groups.now) in
    let answer = g.R.RegExp.answer in
    let matcher = matcher_view c.args.matcher.now in
    let own = c.in_ok-text-in-Ok.text in (
      refl,
      (
        string_bytes own,
        IsUtf8-string_bytes own,
        subst (IsWritten settings parts) (sym (ap chars c.in_ok-text-in-Ok.ensures.ok)) c.in-Ok.ensures.written,
        elim c.else-branch.branch [
          | else-branch-via-then-branch+in_ok-is_canonical+else-branch-2 w ↦ inr (told_uncanonical settings.canonical w.in_ok-is_canonical.field-0 (string_bytes own) w.if-branch-2.false
              (subst (λ bytes. DecidesCanonical w.in_ok-is_canonical.field-0 settings.canonical bytes) w.deref-then-branch.ensures w.in_ok-is_canonical.ensures))
          | else-branch-via-else-branch w ↦ inl (told_other answer matcher settings parts (text_of own) c.in_ok-confirms.field-0 w.if-branch.false
              (subst (λ bytes. DecidesFound c.in_ok-confirms.field-0 answer matcher settings parts (chars bytes)) c.deref.ensures c.in_ok-confirms.ensures))
        ],
      ),
    )
