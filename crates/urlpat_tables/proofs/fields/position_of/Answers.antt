use Rattle.std.proofs.Common.{arith}
use Rattle.urlpat_tables.proofs.fields.position_of.Goals as goal

pub returns-clause-none : goal.returns-clause-none
returns-clause-none c = λ index less. c.loop-index.invariant index (omega arith)
