use Rattle.std.proofs.Common.{◌≡◌, ◌∷◌, ◌++◌, [], List, length, drop, sym, ap, ◌∙◌, subst, append-nil, append_assoc}
use Rattle.std.proofs.Math.Seq.{drop-append_seam}
use Rattle.std.specs.Str.{chars}
use Rattle.urlpattern_steps.specs.declared.step.Step.{Step}
use Rattle.urlpattern_steps.specs.Table.{AreRows, IsRow}
use Rattle.urlpattern_steps.proofs.TableLemmas.{rows_more, rows_none}
use Rattle.urlpattern_steps.proofs.suffix_table.rows_of.Goals as goal

pub loop-step-init : goal.loop-step-init
loop-step-init c =
    let text = chars c.args.text.now in (
      [],
      sym (append-nil c.args.steps.now),
      subst (λ r. AreRows c.args.ignore_case text [] r) (sym (c.in_ok-push.ensures.items ∙ ap (λ r. r ++ c.in_ok-row_of_none.field-0 ∷ []) c.in_ok-rows.ensures.items))
          (rows_none c.args.ignore_case text c.in_ok-row_of_none.field-0 (c.in_ok-row_of_none.ensures c.args.ignore_case)),
    )

pub row_of-requires : goal.row_of-requires
row_of-requires c =
    let before = c.loop-step.before.now in
    let others = c.loop-step.invariant.0 in
    let passed : c.skip_steps-others.result.now ≡ others =
    c.skip_steps-others.ensures ∙ ap (drop (length before)) c.loop-step.invariant.1 ∙ drop-append_seam before others in
    subst (λ r. AreRows c.args.ignore_case (chars c.args.text.now) c.skip_steps-others.result.now r) (sym c.deref.ensures.value)
    (subst (λ l. AreRows c.args.ignore_case (chars c.args.text.now) l c.loop-step.rows.items) (sym passed) c.loop-step.invariant.2)

pub loop-step-preserved : goal.loop-step-preserved
loop-step-preserved c =
    let text = chars c.args.text.now in
    let before = c.loop-step.before.now in
    let fewer = c.in-Some.fewer.now in
    let step = c.in-Some.step.now in
    let others = c.loop-step.invariant.0 in
    let whole : c.args.steps.now ≡ before ++ others = c.loop-step.invariant.1 in
    let passed : c.skip_steps-others.result.now ≡ others = c.skip_steps-others.ensures ∙ ap (drop (length before)) whole ∙ drop-append_seam before others in
    let cut : before ≡ fewer ++ step ∷ [] = c.in-Some.ensures.cases.0 in (
      step ∷ others,
      whole ∙ ap (λ l. l ++ others) cut ∙ append_assoc fewer (step ∷ []) others,
      subst (λ r. AreRows c.args.ignore_case text (step ∷ others) r) (sym c.in_ok-push-2.ensures.items)
          (rows_more c.args.ignore_case text step others c.loop-step.rows.items c.in_ok-row.row c.loop-step.invariant.2
          (subst (λ (l : List Step). IsRow c.args.ignore_case text (step ∷ l) c.in_ok-row.row.items) passed c.in_ok-row.ensures)),
    )
