use Rattle.std.proofs.Common.{◌≡◌, [], ◌++◌, ◌∙◌, sym, ap}
use Rattle.std.specs.Str.{chars}
use Rattle.urlpattern_canonical.specs.Canonical.{processed_base}
use Rattle.urlpattern_syntax.proofs.StringTexts.{text-append}
use Rattle.urlpattern_syntax.specs.Text.{option_text}
use Rattle.urlpattern_init.proofs.InheritanceLemmas.{answers-text, path_prefix-absolute, path_prefix-base, path_prefix-none, path_prefix-opaque}
use Rattle.urlpattern_init.specs.Inheritance.{path_prefix, up_to_last_slash}
use Rattle.urlpattern_init.proofs.init.processing.Processing.processed_pathname.Goals as goal
use Rattle.urlpattern_init.proofs.init.processing.Processing.processed_pathname.Goals.{in_default-via-in-Some+then-not-is_absolute+else-not-cannot_be_a_base, in_default-via-in-Some+else-not-is_absolute, in_default-via-in_default}

pub returns-in_ok-push_str-in-Some : goal.returns-in_ok-push_str-in-Some
returns-in_ok-push_str-in-Some c =
    let mode = c.args.self.now.kind.now in
    let text = chars c.args.text.now in
    let base = c.in-Some.base in
    let before = chars c.up_to_last_slash-before.result.now in
    let put : path_prefix mode c.args.self.now.init.now.base_url text ≡ processed_base mode before
    = ap (λ url. path_prefix mode url text) c.in-Some.is
    ∙ path_prefix-base mode base text (sym c.is_absolute.ensures ∙ c.if-not-is_absolute.true)
    (sym c.cannot_be_a_base.ensures ∙ c.if-not-cannot_be_a_base.true)
    ∙ ap (λ path. processed_base mode (chars path)) (sym (c.up_to_last_slash-before.ensures ∙ ap up_to_last_slash c.path.ensures.value))
    in
    let joined : chars c.deref.result.now ≡ path_prefix mode c.args.self.now.init.now.base_url text ++ text
    = text-append c.in_ok-pathname-in-Some.pathname c.args.text.now (c.deref.ensures ∙ c.in_ok-push_str-in-Some.ensures.bytes)
    ∙ ap (λ front. front ++ text) (c.in_ok-pathname-in-Some.ensures.ok ∙ sym put)
    in
    answers-text mode (option_text c.args.protocol) c.deref.result.now _ c.process_pathname.result c.deref.utf8 joined
    c.process_pathname.ensures

pub returns-in_default : goal.returns-in_default
returns-in_default c =
    let mode = c.args.self.now.kind.now in
    let text = chars c.args.text.now in
    let put : path_prefix mode c.args.self.now.init.now.base_url text ≡ []
    = elim c.in_default.branch [
      | in_default-via-in-Some+then-not-is_absolute+else-not-cannot_be_a_base w ↦
          ap (λ url. path_prefix mode url text) w.in-Some.is
          ∙ path_prefix-opaque mode w.in-Some.base text (sym w.cannot_be_a_base.ensures ∙ w.if-not-cannot_be_a_base.false)
      | in_default-via-in-Some+else-not-is_absolute w ↦
          ap (λ url. path_prefix mode url text) w.in-Some.is
          ∙ path_prefix-absolute mode w.in-Some.base text (sym w.is_absolute.ensures ∙ w.if-not-is_absolute.false)
      | in_default-via-in_default w ↦ path_prefix-none mode c.args.self.now.init.now.base_url text w.in_default.not-Some
    ]
    in
    answers-text mode (option_text c.args.protocol) c.args.text.now _ c.process_pathname-in_default.result c.utf8.text
    (ap (λ front. front ++ text) (sym put)) c.process_pathname-in_default.ensures
