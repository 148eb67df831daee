use Rattle.std.proofs.Common.{◌≡◌, ◌∙◌, ◌+◌, All, ap, drop, get_or, subst, sym, take, take_all}
use Rattle.std.proofs.lemmas.List.Elements.{All-map, All-more}
use Rattle.std.specs.Str.{chars}
use Rattle.urlpattern_generate.proofs.EncodedLemmas.{first_if, names_cut, second_if, texts_of}
use Rattle.urlpattern_generate.specs.EncodedGroups.{ChangesValue, KeepsValue}
use Rattle.urlpattern_generate.specs.WriteSettings.{given_groups, settings_for}
use Rattle.urlpattern_syntax.specs.ComponentParts.{kept_options, kept_parts}
use Rattle.urlpattern_syntax.specs.Text.{text_of}
use Rattle.urlpattern_generate.proofs.encoded_groups.changed_group.Goals as goal

pub returns-then-branch : goal.returns-then-branch
returns-then-branch c =
    let settings = settings_for c.args.component (kept_options c.args.kept.now) (kept_parts c.args.kept.now) (given_groups c.args.groups.now) in
    let item = get_or c.args.names.now c.loop-name.name-index c.name-item.result in
    let own : chars c.as_str.result.now ≡ text_of item = ap chars c.as_str.ensures.value ∙ ap text_of c.name-item.is in
    let asked : chars c.deref.result.now ≡ text_of item = ap chars c.deref.ensures ∙ ap text_of c.name-item.is in
    let changes = first_if c.in_ok-changes.field-0 (ChangesValue settings (chars c.deref.result.now)) (KeepsValue settings (chars c.deref.result.now)) c.if-branch.true c.in_ok-changes.ensures in
    let i = c.loop-name.name-index in (
      texts_of (take i c.args.names.now),
      texts_of (drop (i + 1) c.args.names.now),
      names_cut (chars c.as_str.result.now) c.args.names.now i c.name-item.result c.loop-name-test.true own,
      All-map (KeepsValue settings) (λ name. text_of name) (take i c.args.names.now) c.loop-name.invariant,
      subst (ChangesValue settings) (asked ∙ sym own) changes,
    )

pub loop-name-preserved : goal.loop-name-preserved
loop-name-preserved c =
    let settings = settings_for c.args.component (kept_options c.args.kept.now) (kept_parts c.args.kept.now) (given_groups c.args.groups.now) in
    let item = get_or c.args.names.now c.loop-name.name-index c.name-item.result in
    let asked : chars c.deref.result.now ≡ text_of item = ap chars c.deref.ensures ∙ ap text_of c.name-item.is in
    let keeps = second_if c.in_ok-changes.field-0 (ChangesValue settings (chars c.deref.result.now)) (KeepsValue settings (chars c.deref.result.now)) c.if-branch.false c.in_ok-changes.ensures in
    All-more (λ name. KeepsValue settings (text_of name)) c.args.names.now c.loop-name.name-index c.name-item.result c.loop-name-test.true c.loop-name.invariant
    (subst (KeepsValue settings) asked keeps)

pub returns : goal.returns
returns c =
    let settings = settings_for c.args.component (kept_options c.args.kept.now) (kept_parts c.args.kept.now) (given_groups c.args.groups.now) in
    All-map (KeepsValue settings) (λ name. text_of name) c.args.names.now
    (subst (All (λ name. KeepsValue settings (text_of name))) (take_all c.loop-name.name-index c.args.names.now c.loop-name-test.false) c.loop-name.invariant)
