use Rattle.std.proofs.Common.{subst}
use Rattle.urlpattern_matches.specs.DecodedCaptures.{IsDecodedCapture}
use Rattle.urlpattern_matches.proofs.captures.UrlPatternCaptures.decoded.Goals as goal

pub returns : goal.returns
returns c = subst (λ capture. IsDecodedCapture capture c.decode_capture.result) c.get.ensures c.decode_capture.ensures
