use Rattle.std.proofs.Common.{◌≡◌, ◌∙◌, sym}
use Rattle.std.proofs.lemmas.Slice.Eq.{slice_eq-Decides}
use Rattle.std.specs.Cmp.{booleans_Decides}
use Rattle.urlpattern_index.proofs.PathSegmentLemmas.{same_flag}
use Rattle.urlpattern_index.proofs.form.Form.is_same.Goals as goal

pub returns : goal.returns
returns c = λ is_same.
    let segments : c.args.self.now.segments.items ≡ c.args.other.now.segments.items =
    sym c.as_slice.ensures.value ∙ (slice_eq-Decides booleans_Decides c.as_slice.result.now c.as_slice-2.result.now c.eq.result c.eq.ensures).0 is_same ∙ c.as_slice-2.ensures.value in
    let protocol : c.args.self.now.uses_protocol ≡ c.args.other.now.uses_protocol = same_flag _ _ c.if-self-other.false in
    let hostname : c.args.self.now.uses_hostname ≡ c.args.other.now.uses_hostname = same_flag _ _ c.if-self-other-2.false in
    let whole : c.args.self.now.is_exact ≡ c.args.other.now.is_exact = same_flag _ _ c.if-self-other-3.false in
    cc
