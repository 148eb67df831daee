use Rattle.std.proofs.Common.{arith, sym, ◌∙◌}
use Rattle.urlpattern_generate.proofs.KeptValues.{path_ends, path_goes_on, path_stops}
use Rattle.urlpattern_generate.proofs.canonical_values.is_kept_path.Goals as goal

pub returns-then-not-is_kept_path_byte : goal.returns-then-not-is_kept_path_byte
returns-then-not-is_kept_path_byte c =
    path_stops c.loop-b.begins c.args.value.now c.loop-b.b-index _ c.loop-b-test.true (sym c.is_kept_path_byte.ensures ∙ c.if-not-is_kept_path_byte.true) ∙ c.loop-b.invariant

pub loop-b-preserved : goal.loop-b-preserved
loop-b-preserved c =
    path_goes_on c.loop-b.begins c.args.value.now c.loop-b.b-index _ c.loop-b-test.true (sym c.is_kept_path_byte.ensures ∙ c.if-not-is_kept_path_byte.false) ∙ c.loop-b.invariant

pub returns : goal.returns
returns c = path_ends c.loop-b.begins c.args.value.now c.loop-b.b-index (omega arith) ∙ c.loop-b.invariant
