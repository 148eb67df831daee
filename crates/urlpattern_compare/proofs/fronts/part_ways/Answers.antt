use Rattle.std.proofs.Common.{inl, inr}
use Rattle.std.specs.Prelude.{encode_utf8_all}
use Rattle.std.specs.Str.{chars}
use Rattle.urlpattern_compare.proofs.FrontLemmas.{bytes_begin, either_begins}
use Rattle.urlpattern_compare.proofs.fronts.part_ways.Goals as goal

pub returns : goal.returns
returns c = λ yes rest more same.
    let one = c.args.one.now in
    let other = c.args.other.now in
    elim (either_begins (chars one) (chars other) rest more same) [
      | inl (left, e) ↦ c.if-starts_with.ensures.cases (encode_utf8_all left) (bytes_begin one other left c.utf8.one c.utf8.other e)
      | inr (left, e) ↦ c.if-starts_with-2.ensures.cases (encode_utf8_all left) (bytes_begin other one left c.utf8.other c.utf8.one e)
    ]
