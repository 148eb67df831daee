use Rattle.std.proofs.Common.{◌≡◌, ◌∙◌, Some, ap, option_copied, option_map, subst, sym}
use Rattle.std.specs.Str.{IsUtf8}
use Rattle.serde_json.proofs.Views.{view-Object}
use Rattle.serde_json.specs.View.{members_view, view}
use Rattle.serde_json.specs.declared.value.Value.{Object}
use Rattle.urlpat_tables.proofs.LabelLemmas.{not-text, object-labelled, text-after, text-appended}
use Rattle.urlpat_tables.specs.Labels.{IsMemberLabelled, is_bare, labelled_object}
use Rattle.urlpat_tables.proofs.labels.push_member.Goals as goal

pub returns-in_default : goal.returns-in_default
returns-in_default c =
    let label = option_copied c.args.label in
    text-appended (IsMemberLabelled label c.args.line.now) c.extend_from_slice.result c.args.written.now.items c.extend_from_slice.new.self.items c.args.line.now c.extend_from_slice.ensures.items
    (not-text label c.args.line.now c.without_end.result.now c.without_end.ensures c.in_default.ensures.cases.0)

pub returns-in_ok-push_object-in-Some-Object : goal.returns-in_ok-push_object-in-Some-Object
returns-in_ok-push_object-in-Some-Object c =
    let label = option_copied c.args.label in
    let members = c.in-Some-Object.members in
    let whole : c.in_ok-members.field-0 ≡ Some (Object members) = cc in
    text-after (IsMemberLabelled label c.args.line.now) c.extend_from_slice-in-Some-Object.result c.args.written.now.items c.push_object.new.written.items c.extend_from_slice-in-Some-Object.new.self.items
    (labelled_object label c.is_bare-is_bare.result c.as_bytes.result.now) c.line_end.result.now c.in_ok-push_object-in-Some-Object.ensures c.extend_from_slice-in-Some-Object.ensures.items
    (object-labelled label c.args.line.now c.in-Ok.text.now c.in_ok-members.field-0 (members_view members.entries) c.is_bare-is_bare.result c.as_bytes.result.now c.line_end.result.now
    (c.in-Ok.ensures.cases.0 ∙ c.without_end.ensures) (subst IsUtf8 (sym c.in-Ok.ensures.cases.0) c.in-Ok.ensures.cases.1) c.in_ok-members.ensures
    (ap (option_map view) whole ∙ ap (λ tree. Some tree) (view-Object members)) (subst (λ it. c.is_bare-is_bare.result ≡ is_bare (members_view it.entries)) c.in-Some-Object.members-is c.is_bare-is_bare.ensures) (c.as_bytes.ensures.value ∙ c.trim.ensures.trim) c.line_end.ensures)
