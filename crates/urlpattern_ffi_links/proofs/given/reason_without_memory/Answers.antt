use Rattle.std.proofs.Common.{[], ◌∷◌, ◌++◌, arith, refl}
use Rattle.urlpattern_ffi_links.proofs.GivenByteLemmas.{given_all, given_more}
use Rattle.urlpattern_ffi_links.proofs.given.reason_without_memory.Goals as goal

pub loop-part-preserved : goal.loop-part-preserved
loop-part-preserved c =
    let was = c.loop-part.invariant in (
      was.0 ++ c.in-Some._group ∷ [],
      given_more c.args.text.now c.args.given.now c.loop-part.part-index _ was.0 _ c.in-Some._group c.loop-part-test.true refl c.in-Some.ensures.group was.1,
    )

pub returns : goal.returns
returns c =
    let was = c.loop-part.invariant in
    (was.0, given_all c.args.text.now c.args.given.now c.loop-part.part-index was.0 (omega arith) was.1)
