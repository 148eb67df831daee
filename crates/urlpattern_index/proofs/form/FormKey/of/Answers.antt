use Rattle.std.proofs.Common.{◌<◌, ◌∙◌, arith, length, sym}
use Rattle.urlpattern_index.proofs.PathSegmentLemmas.{enough-take, hosts_alike, keys_alike}
use Rattle.urlpattern_index.specs.Keys.{segment_hashes}
use Rattle.urlpattern_index.proofs.form.FormKey.of.Goals as goal

pub returns : goal.returns
returns c = λ address has.
    let read = c.read_segments-segments.result in
    let are = c.read_segments-segments.ensures in
    let few : length read.are_fixed.items < 13 = omega (arith, are.few) in
    let protocol = hosts_alike c.args.fixed.protocol address.protocol has.protocol c.is_some.result c.option_hash.result c.is_some.ensures c.option_hash.ensures in
    let hostname = hosts_alike c.args.fixed.hostname address.hostname has.hostname c.is_some-2.result c.option_hash-2.result c.is_some-2.ensures c.option_hash-2.ensures in (
      enough-take read.is_exact (length read.are_fixed.items) 13 (segment_hashes 0 address.pathname) few (are.enough address.pathname has.pathname),
      c.key_of-key.ensures ∙ sym (keys_alike read.are_fixed.items read.hashes.items (segment_hashes 0 address.pathname) few (are.alike address.pathname has.pathname) _ _ _ _ protocol hostname read.is_exact),
    )
