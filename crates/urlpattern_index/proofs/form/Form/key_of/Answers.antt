use Rattle.std.proofs.Common.{◌<◌, ◌+◌, ◌∙◌, ap, drop, get_or, arith, sym, false, length}
use Rattle.std.proofs.lemmas.List.{get_or_default}
use Rattle.urlpattern_index.proofs.PathSegmentLemmas.{mixed_segments-next}
use Rattle.urlpattern_index.specs.Keys.{mixed, mixed_segments}
use Rattle.urlpattern_index.proofs.form.Form.key_of.Goals as goal

pub loop-index-preserved : goal.loop-index-preserved
loop-index-preserved c =
    let segments = c.as_slice-segments.result.now in
    let actual = c.as_slice-actual.result.now in
    let index = c.loop-index.index in
    let key = c.loop-index.key in
    let within : index < length segments = c.loop-index-test.true in
    let within_own : index < length actual = omega (arith, c.requires, ap length c.as_slice-segments.ensures.value, ap length c.as_slice-actual.ensures.value) in
    ap (λ h. mixed_segments h (drop (index + 1) segments) (drop (index + 1) actual)) (c.mixed-key-in-loop-index.ensures ∙ ap (mixed key) c.part.ensures)
    ∙ sym (mixed_segments-next key segments actual index (get_or segments index false) (get_or actual index 0) within within_own (get_or_default segments index false (get_or segments index false) within) (get_or_default actual index 0 (get_or actual index 0) within_own))
    ∙ c.loop-index.invariant
