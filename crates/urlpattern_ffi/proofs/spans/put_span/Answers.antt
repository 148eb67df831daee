use Rattle.urlpattern_ffi.proofs.SpanLemmas.{put_one}
use Rattle.urlpattern_ffi.proofs.spans.put_span.Goals as goal

pub returns-then-end-spans-clause-span : goal.returns-then-end-spans-clause-span
returns-then-end-spans-clause-span c = λ fits. put_one c.args.at c.args.span c.args.spans.now fits
