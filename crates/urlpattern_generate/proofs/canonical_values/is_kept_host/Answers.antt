use Rattle.std.proofs.Common.{arith, sym, ◌∙◌}
use Rattle.urlpattern_generate.proofs.KeptValues.{host_ends, host_goes_on, host_stops}
use Rattle.urlpattern_generate.proofs.canonical_values.is_kept_host.Goals as goal

pub returns-then-not-is_host_byte : goal.returns-then-not-is_host_byte
returns-then-not-is_host_byte c =
    host_stops c.loop-b.dotted c.args.value.now c.loop-b.b-index _ c.loop-b-test.true (sym c.is_host_byte.ensures ∙ c.if-not-is_host_byte.true) ∙ c.loop-b.invariant

pub loop-b-preserved : goal.loop-b-preserved
loop-b-preserved c =
    host_goes_on c.loop-b.dotted c.args.value.now c.loop-b.b-index _ c.loop-b-test.true (sym c.is_host_byte.ensures ∙ c.if-not-is_host_byte.false) ∙ c.loop-b.invariant

pub returns : goal.returns
returns c = host_ends c.loop-b.dotted c.args.value.now c.loop-b.b-index (omega arith) ∙ c.loop-b.invariant
