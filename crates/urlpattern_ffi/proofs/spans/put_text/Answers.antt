use Rattle.std.proofs.Common.{arith}
use Rattle.urlpattern_ffi.proofs.SpanLemmas.{put_empty}
use Rattle.urlpattern_ffi.proofs.spans.put_text.Goals as goal

pub returns-then-at-end-clause-text : goal.returns-then-at-end-clause-text
returns-then-at-end-clause-text c = put_empty c.args.at c.args.text.now c.args.buffer.now (omega arith)
