use Rattle.std.proofs.Common.{ap, arith, length, sym, ◌∙◌, take}
use Rattle.std.proofs.lemmas.List.{length-take}
use Rattle.urlpattern_index.proofs.PathSegmentLemmas.{some_segment}
use Rattle.urlpattern_index.specs.Keys.{mixed, mixed_segments, segment_hashes}
use Rattle.urlpattern_index.proofs.form.FormKey.of_any.Goals as goal

pub returns : goal.returns
returns c = λ fixed address has.
    let few = length-take 13 (segment_hashes 0 address.pathname) in
    let some = some_segment 0 address.pathname in
    let none = ap length c.new.ensures in
    (omega arith, c.key_of-key.ensures ∙ ap (λ segments. mixed (mixed_segments (mixed 0 0) segments c.new-2.result.items) 0) c.new.ensures ∙ sym (ap (λ segments. mixed (mixed_segments (mixed 0 0) segments (take 13 (segment_hashes 0 address.pathname))) 0) c.new.ensures))
