use Rattle.std.proofs.Common.{sym}
use Rattle.urlpattern_ffi.specs.KeptPatterns.{boxed_patterns}
use Rattle.urlpattern_ffi.proofs.WrittenLinkLemmas.{linked}
use Rattle.urlpattern_ffi.proofs.linking.link.Goals as goal

pub returns-in-Some : goal.returns-in-Some
returns-in-Some c =
    linked (boxed_patterns c.args.kept.now) c.args.index c.in-Some.pattern.now c.args.text.now c.args.given.now c.args.buffer.now
    c.link_pattern.new.buffer c.link_pattern.new.needed c.link_pattern.result (sym c.in-Some.ensures) c.link_pattern.ensures
