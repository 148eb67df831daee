use Rattle.std.proofs.Common.{◌∷◌, drop, IfOk, refl, sym, subst}
use Rattle.std.specs.Str.{chars}
use Rattle.urlpattern_steps.specs.Table.{following, IsRow}
use Rattle.urlpattern_steps.proofs.FailedLemmas.{ends_drop, ends_same}
use Rattle.urlpattern_steps.proofs.TableLemmas.{row_if_either, row_for_end, single_of}
use Rattle.urlpattern_steps.proofs.suffix_table.row_of.Goals as goal

pub matched_prefix-requires : goal.matched_prefix-requires
matched_prefix-requires c = record {
  single = single_of c.args.step c.in_default.not-OptionalGroup;
  after = row_for_end c.args.ignore_case (chars c.args.text.now) c.args.others.now (following c.args.step c.args.others.now) c.following.result.now c.args.rows.now c.row_for-after.result.now c.requires
      (ends_drop _ c.args.others.now) c.following.ensures c.row_for-after.ensures;
}

pub returns-in-OptionalGroup : goal.returns-in-OptionalGroup
returns-in-OptionalGroup c =
    let text = chars c.args.text.now in
    let others = c.args.others.now in
    let group = c.in-OptionalGroup.group in
    let first : IsRow c.args.ignore_case text others c.row_for.result.now =
    row_for_end c.args.ignore_case text others others others c.args.rows.now c.row_for.result.now c.requires (ends_same others) refl c.row_for.ensures in
    let second : IsRow c.args.ignore_case text (drop group.steps others) c.row_for-in-OptionalGroup.result.now =
    row_for_end c.args.ignore_case text others (drop group.steps others) c.skip_steps-missing.result.now c.args.rows.now c.row_for-in-OptionalGroup.result.now c.requires (ends_drop group.steps others) c.skip_steps-missing.ensures c.row_for-in-OptionalGroup.ensures in
    subst (λ s. IfOk c.either.result (λ row. IsRow c.args.ignore_case text (s ∷ others) row.items)) (sym c.in-OptionalGroup.is)
    (row_if_either c.args.ignore_case text group others c.row_for.result.now c.row_for-in-OptionalGroup.result.now c.either.result first second c.either.ensures.len c.either.ensures.bits)
